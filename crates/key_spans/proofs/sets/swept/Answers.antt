use Rattle.std.proofs.Common.{Bor, Bool, List, Some, None, ap, length, option_map, subst, sym, ◌+◌, ◌<◌, ◌≡◌, ◌∙◌}
use Rattle.std.specs.Cmp.Lexicographic.{nat_list_cmp_total, slice_cmp}
use Rattle.std.specs.Option.{option_to_list}
use Rattle.std.specs.Ordering.{nat_cmp}
use Rattle.std.specs.Prelude.{ℕ}
use Rattle.key_spans.proofs.Bytes.{same_bytes}
use Rattle.key_spans.proofs.Ends.{IsMiddle, begin, even_ends, fewer, left_one, none_kept, stepped, swept}
use Rattle.key_spans.specs.Internal.Ends.{after, ends, first_end, keeps, least}
use Rattle.key_spans.specs.Internal.Pieces.{stretches}
use Rattle.key_spans.specs.Internal.Sets.{Stretch}
use Rattle.key_spans.proofs.sets.swept.Goals as goal

pub ends-init : goal.ends-init
ends-init c =
    let xs : List (List ℕ) = ends (stretches c.args.first.now) in
    let ys : List (List ℕ) = ends (stretches c.args.second.now) in
    let k : Bool → Bool → Bool = keeps c.args.operation in
    subst (λ l. IsMiddle (slice_cmp nat_cmp) k xs ys l c.of-other.result c.new-found.result) (sym c.of-one.ensures)
    (subst (λ l. IsMiddle (slice_cmp nat_cmp) k xs ys xs l c.new-found.result) (sym c.of-other.ensures)
    (subst (IsMiddle (slice_cmp nat_cmp) k xs ys xs ys) (sym c.new-found.ensures)
    (begin (slice_cmp nat_cmp) k (none_kept c.args.operation) xs ys)))

-- the place is the least of the next ends
at : (c : goal.In_ok-turn) → least (slice_cmp nat_cmp) (first_end c.ends.one) (first_end c.ends.other) ≡ Some c.in-Some.place.now
at c = (λ i. least (slice_cmp nat_cmp) (sym c.end.ensures i) (sym c.end-in-ends.ensures i))
    ∙ (sym c.lesser.ensures ∙ ap (option_map (λ (b : Bor (List ℕ)). b.now)) c.in-Some.is)

pub ends-smaller : goal.ends-smaller
ends-smaller c =
    subst (λ l. length l + length c.pass-in-Some.new.self < length c.ends.one + length c.ends.other) (sym c.pass.ensures)
    (subst (λ l. length (after (slice_cmp nat_cmp) c.in-Some.place.now c.ends.one) + length l < length c.ends.one + length c.ends.other)
    (sym c.pass-in-Some.ensures)
    (fewer nat_list_cmp_total same_bytes (keeps c.args.operation) c.ends.one c.ends.other c.in-Some.place.now (at c)))

pub ends-preserved : goal.ends-preserved
ends-preserved c = stepped nat_list_cmp_total same_bytes (keeps c.args.operation)
    (ends (stretches c.args.first.now)) (ends (stretches c.args.second.now)) c.ends.one c.ends.other c.ends.found
    c.pass.new.self c.pass-in-Some.new.self c.turn.new.self c.in-Some.place.now c.is_inside.result c.is_inside-in-Some.result c.keeps.result
    (even_ends (stretches c.args.first.now)) (even_ends (stretches c.args.second.now)) c.ends.invariant (at c)
    c.pass.ensures c.pass-in-Some.ensures c.is_inside.ensures c.is_inside-in-Some.ensures c.keeps.ensures c.in_ok-turn.ensures

-- no end is to come
none : (c : goal.After-found-2) → least (slice_cmp nat_cmp) (first_end c.ends.one) (first_end c.ends.other) ≡ None
none c = (λ i. least (slice_cmp nat_cmp) (sym c.end.ensures i) (sym c.end-in-ends.ensures i))
    ∙ (sym c.lesser.ensures ∙ ap (option_map (λ (b : Bor (List ℕ)). b.now)) c.in_default.is)

pub returns : goal.returns
returns c =
    let xs : List (Stretch (List ℕ)) = stretches c.args.first.now in
    let ys : List (Stretch (List ℕ)) = stretches c.args.second.now in
    let left : List (List ℕ) = option_to_list (option_map (λ (b : Bor (List ℕ)). b.now) c.found-2.inside.start) in
    swept nat_list_cmp_total same_bytes (keeps c.args.operation) (none_kept c.args.operation) xs ys c.found-2.inside.parts.items
    c.ends.one c.ends.other left
    (subst (IsMiddle (slice_cmp nat_cmp) (keeps c.args.operation) (ends xs) (ends ys) c.ends.one c.ends.other) (sym c.found-2.view_is) c.ends.invariant)
    (left_one nat_list_cmp_total same_bytes (keeps c.args.operation) (λ (b : Bor (List ℕ)). b.now) c.found-2.inside.start) (none c)
