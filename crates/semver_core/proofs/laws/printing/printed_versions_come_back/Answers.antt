use Rattle.semver_core.proofs.Printing.Returns.{printed_back}
use Rattle.semver_core.proofs.laws.printing.printed_versions_come_back.Goals as goal

pub returns : goal.returns
returns c = record {
  read = λ limit v. printed_back limit c.args.text.now v;
  only = λ limit v w max e h r. c.one_reading.ensures limit w v r (printed_back limit c.args.text.now v max e h);
}
