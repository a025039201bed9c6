use Rattle.nodejs_semver.proofs.Common.{ap, false, flat_behind, is_some, option_to_list, rules, sym, ◌++◌, ◌∙◌, ◌≡◌}
use Rattle.std.proofs.lemmas.List.Sorted.{IsPartitionPoint-from_clause}
use Rattle.nodejs_semver.proofs.Algebra.Differences.{falls_short, parted, clips-to_end, clips-to_none}
use Rattle.nodejs_semver.proofs.range.interval_lists.push_clipped.Goals as goal

pub returns : goal.returns
returns g c =
    let o = g.met.V.Ord.total in
    let point = IsPartitionPoint-from_clause (falls_short o c.args.interval.now) _ _ c.partition_point-first.ensures.partitioned (parted o c.args.interval.now c.args.pieces.now c.requires) (λ a r q k. search rules) in
    c.loop-piece.invariant ∙ ap (λ l. c.args.found.now.items ++ l)
    (clips-to_end o c.args.interval.now c.args.pieces.now _ c.partition_point-first.ensures.bound point c.split_at.result.1.now _ c.split_at.ensures.back c.loop-piece-test.false)

pub returns-in_default : goal.returns-in_default
returns-in_default g c =
    let o = g.met.V.Ord.total in
    let point = IsPartitionPoint-from_clause (falls_short o c.args.interval.now) _ _ c.partition_point-first.ensures.partitioned (parted o c.args.interval.now c.args.pieces.now c.requires) (λ a r q k. search rules) in
    let gone : is_some c.in_ok-part.field-0 ≡ false = search rules in
    c.loop-piece.invariant ∙ ap (λ l. c.args.found.now.items ++ l)
    (clips-to_none o c.args.interval.now c.args.pieces.now _ c.partition_point-first.ensures.bound point c.split_at.result.1.now _ c.piece-item.result c.in_ok-part.field-0 c.split_at.ensures.back c.requires c.loop-piece-test.true c.piece-item.is c.in_ok-part.ensures.bounds gone)

pub loop-piece-preserved : goal.loop-piece-preserved
loop-piece-preserved g c = flat_behind _ c.split_at.result.1.now _ c.piece-item.result c.args.found.now.items _ _ _ c.loop-piece-test.true
    c.piece-item.is (ap option_to_list (sym c.in-Some.is ∙ c.in_ok-part.ensures.bounds)) c.loop-piece.invariant
    c.in_ok-push.ensures.items
