use Rattle.nodejs_semver.proofs.Common.{Err, MemoryOnlyIf, length, parts, rest_view, rules, ⊤, ◌<◌}
use Rattle.npm_reading.proofs.Grammar.RangeReads.{all-read, memory-pieces, none-read, range-read, ranged_range, read-part}
use Rattle.npm_reading.proofs.Grammar.RangeReads.{read-refused}
use Rattle.npm_reading.proofs.ranges.fill_any.Goals as goal

pub returns-in_err-is_some-clause-refused : goal.returns-in_err-is_some-clause-refused
returns-in_err-is_some-clause-refused c =
    let e = c.from_residual.ensures in
    let h = read-refused c.args.loose {A = ⊤} (Err c.in_err-is_some.field-0.0) c.args.include c.args.text.now c.parts.is_some c.parts.found.items c.in-Some.text.now
    c.next_part.result.0.now (rest_view c.next_part.result.1) c.utf8.text (rw c.in-Some.is at c.parts.invariant) c.next_part.ensures.value
    c.in_err-is_some.ensures.refused in
    search rules

pub returns-in_err-is_some-clause-memory : goal.returns-in_err-is_some-clause-memory
returns-in_err-is_some-clause-memory c =
    let e = c.from_residual.ensures in
    let many : MemoryOnlyIf {A = ⊤} (Err c.in_err-is_some.field-0.0) (1 < length (parts c.args.text.now)) = search rules in
    let h = memory-pieces {A = ⊤} (Err c.in_err-is_some.field-0.0) c.args.text.now many in
    search rules

pub parts-preserved : goal.parts-preserved
parts-preserved c =
    read-part _ _ _ _ _ _ _ _ _ _ (rw c.in-Some.is at c.parts.invariant) c.next_part.ensures.value c.in_ok-is_some.ensures.added

pub returns-then-is_some-clause-ok : goal.returns-then-is_some-clause-ok
returns-then-is_some-clause-ok c =
    range-read _ _ _ _ _ c.utf8.text (rw (c.in_default.is, c.if-is_some.true) at c.parts.invariant) c.set_ranged.ensures

pub returns-then-is_some-clause-range : goal.returns-then-is_some-clause-range
returns-then-is_some-clause-range c = rw c.set_ranged.ensures (ranged_range c.parts.found.items c.parts.invariant.are.spans)

pub returns-else-is_some-clause-refused : goal.returns-else-is_some-clause-refused
returns-else-is_some-clause-refused c =
    let none = all-read _ _ _ _ _ (rw (c.in_default.is, c.if-is_some.false) at c.parts.invariant) in
    none-read c.args.loose c.args.include c.args.text.now c.utf8.text none
