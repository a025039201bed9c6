use Rattle.nodejs_semver.proofs.Common.{arith, eqb-true, length, on_err_weaker, sym, ◌∙◌}
use Rattle.std.proofs.lemmas.Bool.{eqb-false}
use Rattle.nodejs_semver.proofs.{Questions.Least.{least_of_none}, Questions.Spans.{all_allocate}}
use Rattle.nodejs_semver.proofs.range.RangeOf.least_of_all.Goals as goal

pub returns-then-is_empty-clause-least : goal.returns-then-is_empty-clause-least
returns-then-is_empty-clause-least g c = least_of_none c.args.ranges.now c.in_ok-least.least
    (omega (arith, eqb-true (length c.args.ranges.now) 0 (sym c.is_empty.ensures ∙ c.if-is_empty.true))) c.in_ok-least.ensures.value

pub returns-clause-memory : goal.returns-clause-memory
returns-clause-memory g c = on_err_weaker c.least_among.result (λ m. all_allocate c.args.ranges.now m) c.least_among.ensures.memory

pub least_among-requires : goal.least_among-requires
least_among-requires g c =
    let some = eqb-false (length c.args.ranges.now) 0 (sym c.is_empty.ensures ∙ c.if-is_empty.false) in
    (omega arith, (omega (arith, some), λ k d h. absurd (omega arith)))
