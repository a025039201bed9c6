use Rattle.npm_semver.proofs.Exchanges.{responds_exchanged}
use Rattle.npm_semver.proofs.Once.{responds_once}
use Rattle.npm_semver.proofs.laws.exchanges.Goals as goal

pub returns : goal.returns
returns c = record {
  right = responds_exchanged;
  same = λ q front a b back one other sorted u first second.
      responds_once c.npm_reads_once.ensures.version c.npm_reads_once.ensures.alternatives c.whitespace_ends.ensures.only
      c.npm_reads_once.ensures.leftmost c.npm_reads_once.ensures.rightmost _ one other u (responds_exchanged q front a b back one sorted first) second;
}
