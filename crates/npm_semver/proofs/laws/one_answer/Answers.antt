use Rattle.npm_semver.proofs.Once.{responds_once}
use Rattle.npm_semver.proofs.laws.one_answer.Goals as goal

pub returns : goal.returns
returns c = responds_once c.npm_reads_once.ensures.version c.npm_reads_once.ensures.alternatives c.whitespace_ends.ensures.only
    c.npm_reads_once.ensures.leftmost c.npm_reads_once.ensures.rightmost
