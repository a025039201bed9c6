use Rattle.npm_words.proofs.Common.{List, ap, arith, common_steps, drop, length, length-prefix_len, marks_len, nat_tests, not, prefix_len, rules}
use Rattle.{npm_words.proofs.Common.{take, take_rest, tests, ℕ, ◌-◌, ◌==◌, ◌∙◌, ◌≡◌}, std.proofs.iter.Yields.fronts}
use Rattle.std.proofs.lemmas.Iterator.{Consumers.count_from_yields_List, Search.YieldsList-from_take_while, YieldsList, YieldsList-from_slice}
use Rattle.std.specs.Iterator.Adapters.{take_while_source}
use Rattle.npm_words.proofs.words.is_short.Goals as goal

pub returns-else-not-loose : goal.returns-else-not-loose
returns-else-not-loose c =
    let text = c.args.text.now in
    let rest = take (length text - c.marks_len.result) (drop c.marks_len.result text) in
    let source : YieldsList fronts (λ y. y.now) (take_while_source c.take_while.result) rest =
    rw c.take_while.ensures.source (YieldsList-from_slice rest c.iter.ensures.rest) in
    let n : c.count.result ≡ length (take (prefix_len (λ b. not (b == 43)) rest) rest) =
    count_from_yields_List _ _ c.count.ensures.ran (YieldsList-from_take_while _ (λ b. not (b == 43)) source c.take_while.ensures.closure c.take_while.ensures.done
    (λ x b q k. search (rules, tests))) in
    let same : rest ≡ drop (marks_len text) text = take_rest text c.marks_len.result ∙ ap (λ (k : ℕ). drop k text) c.marks_len.ensures.value in
    let len : c.count.result ≡ prefix_len (λ b. not (b == 43)) (drop (marks_len text) text) =
    n ∙ length-prefix_len (λ b. not (b == 43)) rest ∙ ap (λ (t : List ℕ). prefix_len (λ b. not (b == 43)) t) same in
    grind (arith, nat_tests, common_steps)
