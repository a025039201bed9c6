-- The lists of identifiers behind a mark that `coerce` finds: as long as they can be, strict or not.
use Rattle.npm_words.proofs.Common.{Bool, Id, List, [], all_weaker, and-true, and_parts, ap, arith, begins, begins_identifier, begins_padded}
use Rattle.npm_words.proofs.Common.{cases_Bool, drop, eqb-true, false, get_or, has_leading_zero, identifier_of, inl, inr, is_ascii_digit}
use Rattle.npm_words.proofs.Common.{is_identifier, is_identifier_char, length, length-drop, list_all, listed, map, nat_tests, not, onto_first}
use Rattle.npm_words.proofs.Common.{or_parts, pieces, prefix_len, refl, suc, sym, take, take_rest, take_while, true, zero, ℕ, ◌&&◌, ◌++◌, ◌+◌, ◌-◌}
use Rattle.npm_words.{proofs.{Common.{◌<◌, ◌==◌, ◌∙◌, ◌∷◌, ◌≡◌, ◌≤◌}, Grammar.Runs.{run-behind, while-on}}, specs.Coerced.IsMarkedList}
use Rattle.npm_words.specs.{Coerced.{begins_identifier_in, goes_on_in, is_identifier_in, marked, unmarked}, Internal.Tuples.{IsStretch, list_len_in}}
use Rattle.{npm_words.specs.Internal.Tuples.marked_len, semver_core.proofs.Reading.{IdentifierLists.written-spelled, Qualifiers.byte-begins}}
use Rattle.semver_core.proofs.Text.{Ends.{is_spelled, nothing_listed, nothing_spelled}, Runs.{drop_one, prefix_each, take_one}}
use Rattle.{semver_core.specs.Text.Identifiers.is_listed, std.proofs.{Common.add-one, Math.Seq.drop-cons, lemmas.List.Splits.length-slice_split}}
use Rattle.std.proofs.lemmas.List.{drop-drop, drop_all}

-- ---- an identifier at the front

while-off : (p : ℕ → Bool) (t : List ℕ) → begins p t ≡ false → take_while p t ≡ []
while-off p t h = grind arith

-- what is digits alone goes on, behind these, with nothing
digits-alone : (t : List ℕ) → list_all is_ascii_digit (take_while is_identifier_char t) ≡ not (begins_identifier (drop (prefix_len is_ascii_digit t) t))
digits-alone [] = refl
digits-alone (c ∷ t) = grind (arith, nat_tests, while-on is_identifier_char c t, run-behind is_ascii_digit (c ∷ []) t, digits-alone t)

is-id : (t : List ℕ) → is_identifier (take_while is_identifier_char t) ≡ begins_identifier t
is-id [] = refl
is-id (c ∷ t) = grind (arith, nat_tests, while-on is_identifier_char c t, prefix_each is_identifier_char t)

-- a leading zero, once all are digits
zero-while : (t : List ℕ) → list_all is_ascii_digit (take_while is_identifier_char t) ≡ true
    → has_leading_zero (take_while is_identifier_char t) ≡ begins_padded t
zero-while [] h = refl
zero-while (c ∷ []) h = grind (arith, nat_tests)
zero-while (c ∷ d ∷ t) h = grind (arith, nat_tests, while-on is_identifier_char c (d ∷ t), while-on is_identifier_char d t)

pub begins_plain : (strict : Bool) (t : List ℕ) → (strict && begins_padded t) ≡ false → begins_identifier_in strict t ≡ begins_identifier t
begins_plain strict t h = grind (arith, cases_Bool, is-id, zero-while, and-true)

-- a number with a leading zero goes on, behind its digits, as no number
pub begins_long : (t : List ℕ) → begins_padded t ≡ true → begins_identifier_in true t ≡ begins_identifier (drop (prefix_len is_ascii_digit t) t)
begins_long t h = grind (arith, nat_tests, is-id t, zero-while t, digits-alone t)

pub ruleset identifier_begins = (begins_plain, begins_long, take_rest)

-- ---- how far a list goes

pub len_step : (strict : Bool) (text : List ℕ) (i : ℕ) → i < length text → goes_on_in strict (drop i text) ≡ true
    → list_len_in strict (drop i text) ≡ 1 + list_len_in strict (drop (i + 1) text)
unfolding list_len_in
len_step strict text i inside h =
    rw (drop-cons text i 0 inside, add-one i, rw (drop-cons text i 0 inside) at h) refl

pub len_stop : (strict : Bool) (t : List ℕ) → goes_on_in strict t ≡ false → list_len_in strict t ≡ 0
unfolding list_len_in
len_stop strict t h = grind arith

pub len_past : (strict : Bool) (text : List ℕ) (i : ℕ) → length text ≤ i → list_len_in strict (drop i text) ≡ 0
unfolding list_len_in
len_past strict text i past = rw (drop_all i text past) refl

pub ruleset list_lens = (len_step, len_stop, len_past, take_rest)

-- ---- the pieces of a list

abbrev first_piece : List (List ℕ) → List ℕ
first_piece ps = get_or ps 0 []

abbrev later : List (List ℕ) → List (List ℕ)
later ps = drop 1 ps

all-pieces : (p : List ℕ → Bool) (ps : List (List ℕ)) → p (first_piece ps) ≡ true → list_all p (later ps) ≡ true → list_all p ps ≡ true
all-pieces p ps h k = grind arith

on-first : (c : ℕ) (ps : List (List ℕ)) → (first_piece (onto_first c ps) ≡ c ∷ first_piece ps) × (later (onto_first c ps) ≡ later ps)
on-first c ps = grind arith

quiet-begins : (strict : Bool) (more : List ℕ) → goes_on_in strict more ≡ false → begins_identifier more ≡ false
quiet-begins strict more h = grind (arith, or_parts)

-- the pieces of the longest list at the front: the first is what the text begins with, and the others are identifiers
taken : (strict : Bool) (t : List ℕ) → (first_piece (pieces (take (list_len_in strict t) t)) ≡ take_while is_identifier_char t)
    × (list_all (is_identifier_in strict) (later (pieces (take (list_len_in strict t) t))) ≡ true)
unfolding list_len_in
taken strict [] = (refl, refl)
taken strict (c ∷ t) = elim (cases_Bool (goes_on_in strict (c ∷ t))) [
  | inr stop ↦ rw stop (sym (while-off is_identifier_char (c ∷ t) (quiet-begins strict (c ∷ t) stop)), refl)
  | inl more ↦
      let e : 1 + list_len_in strict t ≡ suc (list_len_in strict t) = omega arith in
      let onto = on-first c (pieces (take (list_len_in strict t) t)) in
      rw (more, e) (grind (arith, nat_tests, eqb-true, taken strict t, onto, while-on is_identifier_char c t, all-pieces))
]

list-ended : (strict : Bool) (t : List ℕ) → goes_on_in strict (drop (list_len_in strict t) t) ≡ false
unfolding list_len_in
list-ended strict [] = refl
list-ended strict (c ∷ t) = let e : 1 + list_len_in strict t ≡ suc (list_len_in strict t) = omega arith in grind (arith, e, list-ended strict t)

len-le : (strict : Bool) (t : List ℕ) → list_len_in strict t ≤ length t
unfolding list_len_in
len-le strict [] = omega arith
len-le strict (c ∷ t) = grind (arith, len-le strict t)

-- from each place in a list it goes on to the same end
within : (strict : Bool) (t : List ℕ) (i : ℕ) → i < list_len_in strict t → i + list_len_in strict (drop i t) ≡ list_len_in strict t
unfolding list_len_in
within strict [] i h = absurd (omega (arith, h))
within strict (c ∷ t) zero h = omega arith
within strict (c ∷ t) (suc i) h = elim (cases_Bool (goes_on_in strict (c ∷ t))) [
  | inr stop ↦ absurd (omega (arith, rw stop at h))
  | inl more ↦ rw more (omega (arith, within strict t i (omega (arith, rw more at h))))
]

-- ---- a written list is read

parts : (strict : Bool) (ps : List (List ℕ)) → 0 < length ps → list_all (is_identifier_in strict) ps ≡ true
    → (is_identifier_in strict (first_piece ps) ≡ true) × (list_all is_identifier_char (first_piece ps) ≡ true)
    × (list_all (is_identifier_in strict) (later ps) ≡ true)
parts strict [] some h = absurd (omega (arith, some))
parts strict (p ∷ ps) some h = grind (arith, and_parts)

pieces-some : (t : List ℕ) → 0 < length (pieces t)
pieces-some t = omega (arith, length-slice_split (λ c. c == 46) t)

are-read : (strict : Bool) (t more : List ℕ) → list_all is_identifier_char (first_piece (pieces t)) ≡ true
    → list_all (is_identifier_in strict) (later (pieces t)) ≡ true → goes_on_in strict more ≡ false
    → (list_len_in strict (t ++ more) ≡ length t) × (take_while is_identifier_char (t ++ more) ≡ first_piece (pieces t))
unfolding list_len_in
are-read strict [] more h k stop = (len_stop strict more stop, while-off is_identifier_char more (quiet-begins strict more stop))
are-read strict (c ∷ t) more h k stop =
    let all = parts strict (pieces t) (pieces-some t) in
    grind (arith, nat_tests, and_parts, eqb-true, on-first, while-on is_identifier_char c (t ++ more), all, are-read strict t more)

-- ---- a list behind its mark

plain-ids : (strict : Bool) (ps : List (List ℕ)) → list_all (is_identifier_in strict) ps ≡ true → list_all is_identifier ps ≡ true
plain-ids strict ps h = all_weaker (is_identifier_in strict) is_identifier (λ t is. (and_parts _ _ is).0) ps h

abbrev pub MarkedAt : Bool → Bool → ℕ → List ℕ → ℕ → Type 0
MarkedAt included strict mark text len = IsMarkedList included strict mark (take len text) (drop len text) (listed (drop 1 (take len text)))
    × (is_listed (drop 1 (take len text)) ≡ true)

pub marked-found : (included strict : Bool) (mark : ℕ) (text : List ℕ) → MarkedAt included strict mark text (marked_len included strict mark text)
marked-found included strict mark text =
    elim (cases_Bool (included && begins (λ c. c == mark) text && begins_identifier_in strict (drop 1 text))) [
      | inr none ↦ rw (none, nothing_spelled) (unmarked text none, nothing_listed)
      | inl some ↦
          let y = drop 1 text in
          let n = list_len_in strict y in
          let two = and_parts (included && begins (λ c. c == mark) text) (begins_identifier_in strict y) some in
          let one = and_parts included (begins (λ c. c == mark) text) two.0 in
          let r = taken strict y in
          let all = all-pieces (is_identifier_in strict) (pieces (take n y)) (rw r.0 two.1) r.1 in
          let runs = plain-ids strict (pieces (take n y)) all in
          let whole = byte-begins mark text one.1 in
          let taken = ap (λ (t : List ℕ). take (1 + n) t) whole ∙ take_one n mark y in
          let left = ap (λ (t : List ℕ). drop (1 + n) t) whole ∙ drop_one n mark y in
          let spelled = written-spelled (take n y) (map identifier_of (pieces (take n y))) (record { runs = runs; spelled = refl }) in
          rw (some, taken, left, spelled) (marked (take n y) (drop n y) one.0 all (list-ended strict y), is_spelled (take n y) runs)
    ]

pub marked-read : (included strict : Bool) (mark : ℕ) (p more : List ℕ) (l : List Id) → IsMarkedList included strict mark p more l
    → (marked_len included strict mark (p ++ more) ≡ length p) × (listed (drop 1 p) ≡ l)
marked-read included strict mark p more l (unmarked rest h) = (rw h refl, nothing_spelled)
marked-read included strict mark p more l (marked t rest inc all stop) =
    let is = parts strict (pieces t) (pieces-some t) all in (
      grind (arith, nat_tests, is, are-read strict t rest is.1 is.2 stop),
      written-spelled t (map identifier_of (pieces t)) (record { runs = plain-ids strict (pieces t) all; spelled = refl }),
    )

-- ---- a stretch

pub stretch_none : (strict : Bool) (text : List ℕ) → IsStretch strict text (record { from = 0; to = 0 })
stretch_none strict text = record { fits = omega arith; each = λ i past before. absurd (omega arith) }

pub stretch_new : (strict : Bool) (text : List ℕ) (at to : ℕ) → at ≤ length text → to ≡ at + list_len_in strict (drop at text)
    → IsStretch strict text (record { from = at; to = to })
stretch_new strict text at to inside e = record {
  fits = omega (arith, e, inside, len-le strict (drop at text), length-drop at text);
  each = λ i past before.
      let k : at + (i - at) ≡ i = omega arith in
      omega (arith, e, past, rw (drop-drop (i - at) at text, k) at (within strict (drop at text) (i - at) (omega (arith, before, past, e))));
}

pub ruleset stretches = (stretch_new, take_rest)
