use Rattle.nodejs_semver.proofs.Common.{arith, common_steps, nat_tests, rules, sym, take_rest, true, ◌∙◌, ◌≡◌}
use Rattle.{npm_reading.proofs.Grammar.CommonReads.short-any, semver_core.specs.Internal.Fronts.begins_wildcard}
use Rattle.npm_reading.proofs.common.short_front.Goals as goal

pub returns-then-is_over : goal.returns-then-is_over
returns-then-is_over c =
    let wild : begins_wildcard c.args.text.now ≡ true = first_of (search rules, grind (arith, nat_tests, common_steps)) in
    short-any c.args.text.now _ wild (take_rest c.args.text.now 1) (sym c.is_over.ensures ∙ c.if-is_over.true)
