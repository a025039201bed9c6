use Rattle.npm_words.proofs.Common.{Bool, Front, List, None, Some, ap, arith, capped_in, capped_partial, drop, drop_ends, end_front, ended_as}
use Rattle.npm_words.proofs.Common.{first_as, length, length-append, length-drop, npm_partial_view, rules, take, ℕ, ◌++◌, ◌+◌, ◌-◌, ◌>>?◌, ◌∙◌, ◌≡◌}
use Rattle.npm_words.{proofs.{Common.◌≤◌, Grammar.Hyphens.partial-le}, specs.{Internal.Words.places_front, Table.Partial}}
use Rattle.std.proofs.{Math.Seq.take-append-add, lemmas.List.{drop-append-le, take-append-drop}}
use Rattle.npm_words.proofs.hyphens.end_front.Goals as goal

end-is : (loose : Bool) (text behind : List ℕ) (o : Front Partial) → behind ≡ drop_ends text → o ≡ first_as capped_partial (places_front loose behind)
    → (o >>? λ p. Some (ended_as text behind p)) ≡ first_as capped_in (end_front loose text)
unfolding end_front
end-is loose text behind o e h = rw (h, e) (grind arith)

-- the marks from a place on, with so much of what stands behind them
end-text : (text marks behind last : List ℕ) (k n : ℕ) → marks ++ behind ≡ text → last ≡ drop k marks → k ≤ length marks → n ≤ length behind
    → (let start = length marks - length last in take (length text - n - start) (drop start text)) ≡ drop k marks ++ take (length behind - n) behind
end-text text marks behind last k n e is within fits =
    let start : length marks - length (drop k marks) ≡ k = omega (arith, length-drop k marks) in
    let count : length (marks ++ behind) - n - k ≡ length (drop k marks) + (length behind - n) =
    omega (arith, length-append marks behind, length-drop k marks) in
    rw (← e, is, start, count, drop-append-le k marks behind within) (take-append-add (drop k marks) behind (length behind - n))

pub overflow_sub-text : goal.overflow_sub-text
overflow_sub-text c = let shorter = partial-le _ _ _ _ c.in_ok-partial.ensures in search rules

pub slice_bounds-text-count : goal.slice_bounds-text-count
slice_bounds-text-count c = let shorter = partial-le _ _ _ _ c.in_ok-partial.ensures in search rules

pub slice_bounds-text-start : goal.slice_bounds-text-start
slice_bounds-text-start c = let shorter = partial-le _ _ _ _ c.in_ok-partial.ensures in search rules

pub returns-in_err-partial : goal.returns-in_err-partial
returns-in_err-partial c = rw c.from_residual.ensures (end-is _ _ _ None c.skip_marks-behind.ensures.value c.in_err-partial.ensures)

pub returns : goal.returns
returns c =
    let text = c.args.text.now in
    let behind = c.skip_marks-behind.result.now in
    let rest = c.in_ok-partial.rest.now in
    let marks = take (length text - length behind) text in
    let whole : marks ++ behind ≡ text = rw c.skip_marks-behind.ensures.ends at (take-append-drop (length text - length behind) text) in
    ap (λ (t : List ℕ). Some ((marks, npm_partial_view c.in_ok-partial.partial, t), rest))
    (end-text text marks behind c.last_marks.result.now _ (length rest) whole c.last_marks.ensures.value (omega arith) (partial-le _ _ _ _ c.in_ok-partial.ensures))
    ∙ end-is _ _ _ (Some (npm_partial_view c.in_ok-partial.partial, rest)) c.skip_marks-behind.ensures.value c.in_ok-partial.ensures
