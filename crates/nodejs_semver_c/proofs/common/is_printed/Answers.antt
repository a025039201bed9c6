use Rattle.npm_words.proofs.Common.{YieldsList-from_slice_split, all_from_yields_List, eqb, is_strict_identifier, rules, tests}
use Rattle.nodejs_semver_c.proofs.common.is_printed.Goals as goal

pub returns-else-is_empty : goal.returns-else-is_empty
returns-else-is_empty c =
    all_from_yields_List is_strict_identifier _ _ _ c.all.ensures.ran
    (YieldsList-from_slice_split _ (λ b. eqb b 46) c.args.text.now c.split.ensures.rest c.split.ensures.done c.split.ensures.closure
    (λ x b q k. search (rules, tests))) (λ x b q k. search (rules, tests))
