use Rattle.nodejs_semver.proofs.Algebra.Accepting.{both_accept, one_accepts}
use Rattle.nodejs_semver.proofs.Algebra.Clauses.{intersection-all, intersection-releases, intersection-set, of_result}
use Rattle.nodejs_semver.proofs.range.RangeOf.intersect.Goals as goal

pub returns : goal.returns
returns g c = let of = of_result _ _ c.common.ensures.list in record {
  list = c.common.ensures.list;
  set = of _ (intersection-set c.args.self.now c.args.other.now);
  all = of _ (intersection-all c.args.self.now c.args.other.now);
  both = of _ (both_accept c.args.self.now c.args.other.now);
  one = of _ (one_accepts c.args.self.now c.args.other.now);
  releases = of _ (intersection-releases c.args.self.now c.args.other.now);
  memory = c.common.ensures.memory;
}
