use Rattle.nodejs_semver.proofs.Common.{Span, Start, cut_cmp, is_lt, lower_cut, rules, subst, sym, upper_cut}
use Rattle.std.proofs.lemmas.List.Sorted.{IsPartitionPoint-from_clause}
use Rattle.nodejs_semver.proofs.Algebra.{Differences.{along_drop, falls_short, parted}, Near.{all_near, begins_parted, nearest}}
use Rattle.nodejs_semver.specs.Internal.Along.{IsAlong}
use Rattle.nodejs_semver.proofs.range.interval_lists.near.Goals as goal

pub returns-then-not-are_along : goal.returns-then-not-are_along
returns-then-not-are_along g c = all_near g.met.V.Ord.total c.args.interval.now c.args.others.now

pub returns : goal.returns
returns g c =
    let o = g.met.V.Ord.total in
    let s : Span g.row.V.Denot = c.args.interval.now in
    let along : IsAlong g.V.Ord.cmp Start c.args.others.now = c.requires c.if-not-are_along.false in
    let first = IsPartitionPoint-from_clause (falls_short o s) _ _ c.partition_point-first.ensures.partitioned (parted o s c.args.others.now along) (λ a r q k. search rules) in
    let end = IsPartitionPoint-from_clause (λ t. is_lt (cut_cmp g.V.Ord.cmp (lower_cut t.lower) (upper_cut s.upper))) c.split_at.result.1.now _ c.partition_point-end.ensures.partitioned
    (begins_parted o s Start c.split_at.result.1.now (subst (IsAlong g.V.Ord.cmp Start) (sym c.split_at.ensures.back) (along_drop o Start c.args.others.now _ along))) (λ a r q k. search rules) in
    nearest o s c.args.others.now c.split_at.result.1.now c.split_at-2.result.0.now _ _ first c.split_at.ensures.back end c.split_at-2.ensures.front
