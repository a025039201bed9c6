use Rattle.npm_semver.proofs.Again.{responds_again}
use Rattle.npm_semver.proofs.laws.again.Goals as goal

pub returns : goal.returns
returns c = responds_again c.npm_reads_once.ensures.printed
