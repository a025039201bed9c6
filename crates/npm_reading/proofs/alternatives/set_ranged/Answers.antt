use Rattle.nodejs_semver.proofs.Common.{arith, common_steps, false, list_any, rules, sym, tests, ◌∙◌, ◌≡◌}
use Rattle.{npm_words.specs.Internal.Meaning.is_unbounded}
use Rattle.std.proofs.lemmas.Iterator.{Search.any_from_yields_List, YieldsList-from_slice}
use Rattle.npm_reading.proofs.alternatives.set_ranged.Goals as goal

pub returns-else-is_empty : goal.returns-else-is_empty
returns-else-is_empty c =
    let none : list_any is_unbounded c.deref.result.now ≡ false =
    sym (any_from_yields_List is_unbounded _ _ _ c.any.ensures.ran (YieldsList-from_slice _ c.iter.ensures.rest) (λ x b q k. search (rules, tests)))
    ∙ c.if-any.false in
    grind (arith, common_steps)
