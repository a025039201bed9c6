-- The pieces of a text between its dots: the first one, and those behind it.
use Rattle.std.proofs.Common.{◌≡◌, ◌<◌, ◌≤◌, ◌+◌, ◌∷◌, ◌∙◌, ◌==◌, List, [], ℕ, Option, Some, add-one, add-zero, add_comm}
use Rattle.std.proofs.Common.{ap, arith, drop, drop-cons, false, get_or, inl, inr, length, map, refl, sym, take, true}
use Rattle.std.specs.Cmp.Lexicographic.{slice_cmp}
use Rattle.std.specs.Ordering.{is_ne, ordering_then}
use Rattle.std.specs.declared.cmp.Ordering.{Ordering}
use Rattle.std.specs.declared.cmp.Ordering.TheVariants.{Equal, Greater, Less}
use Rattle.semver_core.specs.Internal.CommonReading.{grown, number_of_run}
use Rattle.semver_core.specs.Text.Identifiers.{identifier_of, listed, pieces}
use Rattle.semver_core.specs.Values.Order.{id_cmp, pre_cmp}
use Rattle.nodejs_semver_c.specs.Internal.Dotted.{first_len, piece_from, spelled}
use Rattle.semver_core.proofs.Common.{cases_Bool, drop_all, nat_tests}
use Rattle.std.proofs.Common.{zero-add}
use Rattle.std.proofs.lemmas.List.Sums.{prefix_len-le-length}

-- ---- the loops

pub piece_step : (n : Option ℕ) (xs : List ℕ) (i : ℕ) → i < length xs → (get_or xs i 0 == 46) ≡ false
    → piece_from n i (drop i xs) ≡ piece_from (grown n (get_or xs i 0)) (i + 1) (drop (i + 1) xs)
unfolding piece_from
piece_step n xs i lt h = rw (drop-cons xs i 0, add-one i, h) refl

pub piece_stop : (n : Option ℕ) (xs : List ℕ) (i : ℕ) → i < length xs → (get_or xs i 0 == 46) ≡ true → piece_from n i (drop i xs) ≡ (i, n)
unfolding piece_from
piece_stop n xs i lt h = rw (drop-cons xs i 0, h) refl

pub piece_past : (n : Option ℕ) (xs : List ℕ) (i : ℕ) → length xs ≤ i → piece_from n i (drop i xs) ≡ (i, n)
unfolding piece_from
piece_past n xs i le = rw (drop_all i xs le) refl

pub ruleset piece_ends = (piece_step, piece_stop, piece_past)

-- ---- what they find

pub piece_found : (n : Option ℕ) (at : ℕ) (t : List ℕ)
    → piece_from n at t ≡ (at + first_len t, number_of_run n (take (first_len t) t))
unfolding piece_from number_of_run
piece_found n at [] = rw (add-zero at) refl
piece_found n at (c ∷ rest) = elim (cases_Bool (c == 46)) [
  | inl stop ↦ rw (stop, add-zero at) refl
  | inr more ↦
      let sum : at + 1 + first_len rest ≡ at + (1 + first_len rest) = omega arith in
      let next = piece_found (grown n c) (at + 1) rest in
      rw (more, next, sum, add_comm 1 (first_len rest), add-one (first_len rest)) refl
]

-- what stands behind the first piece, from its dot on
abbrev further : List ℕ → List (List ℕ)
further [] = []
further (c ∷ rest) = pieces rest

pieces_cut : (text : List ℕ) → pieces text ≡ take (first_len text) text ∷ further (drop (first_len text) text)
pieces_cut [] = refl
pieces_cut (c ∷ rest) = elim (cases_Bool (c == 46)) [
  | inl dot ↦ rw dot refl
  | inr other ↦ rw (other, pieces_cut rest, add_comm 1 (first_len rest), add-one (first_len rest)) refl
]

-- the piece that was found at the front of a text
pub front_end : (text : List ℕ) (r : ℕ × Option ℕ) → r ≡ piece_from (Some 0) 0 text → r.0 ≡ first_len text
front_end text r e = ap (λ (q : ℕ × Option ℕ). q.0) (e ∙ piece_found (Some 0) 0 text) ∙ zero-add (first_len text)

pub front_number : (text : List ℕ) (r : ℕ × Option ℕ) → r ≡ piece_from (Some 0) 0 text → r.1 ≡ number_of_run (Some 0) (take r.0 text)
front_number text r e =
    rw (front_end text r e) (ap (λ (q : ℕ × Option ℕ). q.1) (e ∙ piece_found (Some 0) 0 text))

pub front_fits : (text : List ℕ) (r : ℕ × Option ℕ) → r ≡ piece_from (Some 0) 0 text → r.0 ≤ length text
front_fits text r e = rw (front_end text r e) (prefix_len-le-length _ text)

behind : (text : List ℕ) (n : ℕ) → n < length text → further (drop n text) ≡ pieces (drop (n + 1) text)
behind text n lt = rw (drop-cons text n 0 lt, add-one n) refl

past : (text : List ℕ) (n : ℕ) → length text ≤ n → further (drop n text) ≡ []
past text n le = rw (drop_all n text le) refl

-- two texts by the order of their first pieces
module _ (a b : List ℕ) (r s : ℕ × Option ℕ) (first : r ≡ piece_from (Some 0) 0 a) (second : s ≡ piece_from (Some 0) 0 b)
    (order : Ordering) (is : order ≡ id_cmp (identifier_of (take r.0 a)) (identifier_of (take s.0 b))) where
  by_first : slice_cmp id_cmp (spelled a) (spelled b) ≡ ordering_then order
      (slice_cmp id_cmp (map identifier_of (further (drop r.0 a))) (map identifier_of (further (drop s.0 b))))
  by_first = rw (pieces_cut a, pieces_cut b, ← front_end a r first, ← front_end b s second, is) refl

  pub differ : is_ne order ≡ true → order ≡ slice_cmp id_cmp (spelled a) (spelled b)
  differ h = sym (by_first ∙ kept order _ h)
    where
      kept : (o rest : Ordering) → is_ne o ≡ true → ordering_then o rest ≡ o
      kept Less rest h = refl
      kept Equal rest h = cc h
      kept Greater rest h = refl

  module _ (h : is_ne order ≡ false) where
    same : order ≡ Equal
    same = equal order h
      where
        equal : (o : Ordering) → is_ne o ≡ false → o ≡ Equal
        equal Less h = cc h
        equal Equal h = refl
        equal Greater h = cc h

    pub both_go_on : r.0 < length a → s.0 < length b → slice_cmp id_cmp (spelled a) (spelled b)
        ≡ slice_cmp id_cmp (spelled (drop (r.0 + 1) a)) (spelled (drop (s.0 + 1) b))
    both_go_on x y = by_first ∙ rw (same, behind a r.0 x, behind b s.0 y) refl

    pub first_goes_on : r.0 < length a → length b ≤ s.0 → Greater ≡ slice_cmp id_cmp (spelled a) (spelled b)
    first_goes_on x y = sym (by_first ∙ rw (same, behind a r.0 x, past b s.0 y, pieces_cut (drop (r.0 + 1) a)) refl)

    pub second_goes_on : length a ≤ r.0 → s.0 < length b → Less ≡ slice_cmp id_cmp (spelled a) (spelled b)
    second_goes_on x y = sym (by_first ∙ rw (same, past a r.0 x, behind b s.0 y, pieces_cut (drop (s.0 + 1) b)) refl)

    pub both_end : length a ≤ r.0 → length b ≤ s.0 → Equal ≡ slice_cmp id_cmp (spelled a) (spelled b)
    both_end x y = sym (by_first ∙ rw (same, past a r.0 x, past b s.0 y) refl)

-- ---- texts that may be empty

listed_none : (text : List ℕ) → (length text == 0) ≡ true → listed text ≡ []
unfolding listed
listed_none [] h = refl
listed_none (c ∷ rest) h = absurd (grind (arith, nat_tests, h))

listed_some : (text : List ℕ) → (length text == 0) ≡ false → listed text ≡ spelled text
unfolding listed
listed_some [] h = absurd (grind (arith, nat_tests, h))
listed_some (c ∷ rest) h = refl

pub none_none : (a b : List ℕ) → (length a == 0) ≡ true → (length b == 0) ≡ true
    → (Equal ≡ slice_cmp id_cmp (listed a) (listed b)) × (Equal ≡ pre_cmp (listed a) (listed b))
none_none a b x y = rw (listed_none a x, listed_none b y) (refl, refl)

pub none_some : (a b : List ℕ) → (length a == 0) ≡ true → (length b == 0) ≡ false
    → (Less ≡ slice_cmp id_cmp (listed a) (listed b)) × (Greater ≡ pre_cmp (listed a) (listed b))
none_some a b x y = rw (listed_none a x, listed_some b y, pieces_cut b) (refl, refl)

pub some_none : (a b : List ℕ) → (length a == 0) ≡ false → (length b == 0) ≡ true
    → (Greater ≡ slice_cmp id_cmp (listed a) (listed b)) × (Less ≡ pre_cmp (listed a) (listed b))
some_none a b x y = rw (listed_some a x, listed_none b y, pieces_cut a) (refl, refl)

pub some_some : (a b : List ℕ) → (length a == 0) ≡ false → (length b == 0) ≡ false
    → (slice_cmp id_cmp (spelled a) (spelled b) ≡ slice_cmp id_cmp (listed a) (listed b))
    × (slice_cmp id_cmp (spelled a) (spelled b) ≡ pre_cmp (listed a) (listed b))
some_some a b x y = rw (listed_some a x, listed_some b y, pieces_cut a, pieces_cut b) (refl, refl)

pub ruleset ends = (none_none, none_some, some_none, some_some)
