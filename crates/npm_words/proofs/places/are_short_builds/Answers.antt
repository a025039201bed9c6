use Rattle.npm_words.proofs.Common.{YieldsList-from_slice_split, all_from_yields_List, eqb, is_short_build, rules, tests}
use Rattle.npm_words.proofs.places.are_short_builds.Goals as goal

pub returns : goal.returns
returns c =
    all_from_yields_List is_short_build _ _ _ c.all.ensures.ran
    (YieldsList-from_slice_split _ (λ b. eqb b 46) c.args.text.now c.split.ensures.rest c.split.ensures.done c.split.ensures.closure
    (λ x b q k. search (rules, tests))) (λ x b q k. search (rules, tests))
