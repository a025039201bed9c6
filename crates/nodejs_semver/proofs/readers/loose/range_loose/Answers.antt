use Rattle.nodejs_semver.proofs.Common.{◌≡◌, ◌+◌, ℕ, List, arith, ap, inl, length, ◌∙◌, MatchResult-from_err, list_all}
use Rattle.nodejs_semver.proofs.Common.{flat_map, Span, VersionValue, MAX_SAFE_INTEGER, if_any, is_range_span, parts, denotes, part_denotes}
use Rattle.nodejs_semver.proofs.Common.{IfOk-weaker, nat_tests}
use Rattle.nodejs_semver.proofs.{Values.{spans_same}, Bounds.Table.{all-bounded}}
use Rattle.nodejs_semver.proofs.Dividing.MeaningLaw.{filled_denotes, filled_text, found_so, meant_none, meant_so, meant_some}
use Rattle.nodejs_semver.proofs.readers.loose.range_loose.Goals as goal

pub of_intervals-requires : goal.of_intervals-requires
of_intervals-requires c =
    let valid = ap (λ (l : List (Span VersionValue)). list_all (is_range_span (MAX_SAFE_INTEGER + 1)) l) (c.in_ok-add_parts.ensures.added
    ∙ ap (λ (ps : List (List ℕ)). flat_map (part_denotes MAX_SAFE_INTEGER) ps) c.next_part.ensures.value) ∙ all-bounded MAX_SAFE_INTEGER (parts c.args.text.now) in
    (omega arith, (omega arith, rw spans_same valid))

found-is : (c : goal.After-owned_range) → c.add_parts.new.found.items ≡ denotes MAX_SAFE_INTEGER c.args.text.now
found-is c = grind (arith, filled_text)

pub returns-clause-some : goal.returns-clause-some
returns-clause-some c =
    IfOk-weaker c.owned_range.result (λ r. r ≡ c.of_intervals.result) _ (λ r e. rw e
    (meant_some MAX_SAFE_INTEGER c.args.text.now c.add_parts.new.found.items c.of_intervals.result c.utf8.text
    (found-is c) (c.of_intervals.ensures ∙ ap if_any (spans_same _)))) c.owned_range.ensures.whole

pub returns-clause-none : goal.returns-clause-none
returns-clause-none c = grind (arith, IfOk-weaker, meant_none, spans_same)

pub returns-clause-memory : goal.returns-clause-memory
returns-clause-memory c = grind (arith, nat_tests, found_so, found-is, spans_same)

pub returns-in_err-add_parts-clause-memory : goal.returns-in_err-add_parts-clause-memory
returns-in_err-add_parts-clause-memory c =
    let whole = filled_denotes MAX_SAFE_INTEGER c.args.text.now _ c.utf8.text c.requires.some_part c.next_part.ensures.value in
    MatchResult-from_err c.from_residual.result _ _ c.from_residual.ensures.0 (λ _. meant_so _ MAX_SAFE_INTEGER c.args.text.now c.utf8.text
    (inl (omega (arith, c.in_err-add_parts.ensures.memory, ap length whole))))
