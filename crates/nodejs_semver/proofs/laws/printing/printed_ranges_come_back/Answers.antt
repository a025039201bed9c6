use Rattle.nodejs_semver.proofs.Common.{ap, sym, ◌∙◌}
use Rattle.nodejs_semver.specs.Ranges.Equality.{range_eq}
use Rattle.nodejs_semver.proofs.{Dividing.MeaningLaw.{one_meaning}, Printing.{reads_back, same_back}}
use Rattle.nodejs_semver.proofs.laws.printing.printed_ranges_come_back.Goals as goal

pub returns : goal.returns
returns c = let text = c.args.text.now in record {
  equal = λ limit list read small range h e means. ap (λ l. range_eq l list)
      (sym ((one_meaning limit text read c.utf8.text).1 means) ∙ reads_back limit text list small range h e) ∙ same_back list;
  builds = λ limit list small range h e. (one_meaning limit text _ c.utf8.text).0 (reads_back limit text list small range h e);
}
