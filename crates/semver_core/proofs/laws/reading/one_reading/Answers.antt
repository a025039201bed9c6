use Rattle.semver_core.proofs.Text.Texts.{one_reading}
use Rattle.semver_core.proofs.laws.reading.one_reading.Goals as goal

pub returns : goal.returns
returns c = one_reading c.args.text.now c.front_of_numbers.result c.front_of_numbers.ensures
