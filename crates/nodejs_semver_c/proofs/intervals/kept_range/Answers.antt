use Rattle.std.proofs.Common.{inl, rules, sym, true≢false}
use Rattle.std.proofs.lemmas.Result.{err_from_is_err_and}
use Rattle.nodejs_semver_c.proofs.Ranging.{range_kept, range_made, refused_one, refused_room}
use Rattle.nodejs_semver_c.proofs.intervals.kept_range.Goals as goal

pub returns-in_default-clause-refused : goal.returns-in_default-clause-refused
returns-in_default-clause-refused c =
    refused_room c.args.intervals.now _ (λ le. true≢false (sym (c.in_default.ensures.succeeds le))) c.fault_without_memory.ensures

pub returns-in_err-fill-clause-refused : goal.returns-in_err-fill-clause-refused
returns-in_err-fill-clause-refused c =
    let p = err_from_is_err_and c.from_residual.result c.from_residual.ensures.1 in
    rw (p.1, p.2) (inl (refused_one c.args.intervals.now _ c.in_err-fill.ensures.refused))

pub of_some-requires : goal.of_some-requires
of_some-requires c =
    let (items, all) = c.in_ok-fill.ensures.ok in
    (search rules, (search rules, range_made c.args.intervals.now _ items all (rw c.if-is_empty.false at c.is_empty.ensures)))

pub returns-clause-ok : goal.returns-clause-ok
returns-clause-ok c =
    let (items, all) = c.in_ok-fill.ensures.ok in
    range_kept c.args.intervals.now _ _ items all (rw c.if-is_empty.false at c.is_empty.ensures) c.of_some.ensures
