-- A text that spells a list of identifiers spells the first one and then the others.
use Rattle.semver_core.proofs.Common.{is_empty, Id, identifier_of, is_identifier, pieces, is_listed, listed, id_cmp, List}
use Rattle.semver_core.proofs.Common.{Option, Some, [], arith, drop, eqb, false, inl, inr, length, refl, take, true, zero-add}
use Rattle.semver_core.proofs.Common.{ℕ, ◌+◌, ◌<◌, ◌∙◌, ◌∷◌, ◌≡◌, ◌≤◌, nat_tests, cases_Bool, eqb-true, drop-drop, slice_cmp}
use Rattle.semver_core.proofs.Common.{list_all, onto_first, ◌==◌, Equal, Greater, Less, number_of_run, run_from, map}
use Rattle.semver_core.proofs.Common.{AlphaNumeric, begins, is_identifier_char, is_normal, is_u64_text, ltb, not, take_all}
use Rattle.semver_core.proofs.Common.{◌&&◌, take_rest}
use Rattle.std.specs.Option.{is_none}
use Rattle.semver_core.proofs.Text.Runs.{drop_one, take_one}
use Rattle.semver_core.{specs.Internal.CommonReading.{id_by, run_len}, proofs.Text.Digits.{id_spelled, scan_end, scan_fits}}
use Rattle.semver_core.proofs.Text.{Listed.{front_utf8, listed_begins, listed_none, listed_some}, Pieces.{first_char, runs_tail, tail_onto, tail_runs}}

-- what stands behind the first run and its dot
abbrev pub others : List ℕ → List ℕ
others text = drop (run_len text + 1) text

abbrev pub later : List ℕ → List (List ℕ)
later [] = []
later (c ∷ rest) = pieces (c ∷ rest)

later_some : (text : List ℕ) → list_all is_identifier (pieces text) ≡ true → later text ≡ pieces text
later_some text h = grind arith

pub pieces_split : (text : List ℕ) → tail_runs (pieces text) ≡ true
    → (pieces text ≡ take (run_len text) text ∷ later (others text)) × (list_all is_identifier (later (others text)) ≡ true)
pieces_split [] h = (refl, refl)
pieces_split (c ∷ rest) h = elim (cases_Bool (eqb c 46)) [
  | inl dot ↦
      let runs : list_all is_identifier (pieces rest) ≡ true = rw dot at h in
      rw (eqb-true c 46 dot, later_some rest runs) (refl, runs)
  | inr other ↦
      let split : tail_runs (onto_first c (pieces rest)) ≡ true = rw other at h in
      let next = pieces_split rest (tail_onto c (pieces rest) split) in
      let here = first_char c (pieces rest) split in
      let taken : take (run_len (c ∷ rest)) (c ∷ rest) ≡ c ∷ take (run_len rest) rest = rw here (take_one (run_len rest) c rest) in
      let len : run_len (c ∷ rest) + 1 ≡ 1 + (run_len rest + 1) = rw here (omega arith) in
      let dropped : others (c ∷ rest) ≡ others rest = rw len (drop_one (run_len rest + 1) c rest) in
      rw (taken, dropped, other, next.0) (refl, next.1)
]

listed_later : (text : List ℕ) → listed text ≡ map identifier_of (later text)
unfolding listed
listed_later text = grind arith

is_listed_later : (text : List ℕ) → is_listed text ≡ list_all is_identifier (later text)
unfolding is_listed
is_listed_later text = grind arith

pub listed_first : (text : List ℕ) → is_listed text ≡ true → 0 < length text
    → (listed text ≡ identifier_of (take (run_len text) text) ∷ listed (others text)) × (is_listed (others text) ≡ true)
listed_first [] h some = absurd (omega arith)
listed_first (c ∷ rest) h some =
    grind (arith, is_listed_later, listed_later, pieces_split (c ∷ rest), runs_tail)

-- the run that `scan_run` found at the front
pub front_end : (text : List ℕ) (r : ℕ × Option ℕ) → r ≡ run_from (Some 0) 0 (drop 0 text) → r.0 ≡ run_len text
front_end text r e = (scan_end text 0 r e).0 ∙ zero-add (run_len text)

pub front_number : (text : List ℕ) (r : ℕ × Option ℕ) → r ≡ run_from (Some 0) 0 (drop 0 text)
    → r.1 ≡ number_of_run (Some 0) (take (run_len text) text)
front_number text r e = (scan_end text 0 r e).1

pub front_fits : (text : List ℕ) (r : ℕ × Option ℕ) → r ≡ run_from (Some 0) 0 (drop 0 text) → r.0 ≤ length text
front_fits text r e = (scan_fits text 0 r e (omega arith)).1

pub ids_first : (text : List ℕ) (n : ℕ) (id : Id) → n ≡ run_len text → is_listed text ≡ true → 0 < length text
    → id ≡ identifier_of (take n text) → listed text ≡ id ∷ listed (drop 1 (drop n text))
ids_first text n id e h some is = rw (is, e, drop-drop 1 (run_len text) text) (listed_first text h some).0

pub ids_others : (text : List ℕ) (n : ℕ) → n ≡ run_len text → is_listed text ≡ true → 0 < length text
    → is_listed (drop 1 (drop n text)) ≡ true
ids_others text n e h some = rw (e, drop-drop 1 (run_len text) text) (listed_first text h some).1

pub ruleset firsts = (ids_first, ids_others, front_end, front_number, front_fits, front_utf8, listed_begins, take_rest)

-- ---- the order of two texts

spelled_some : (text : List ℕ) → (length text == 0) ≡ false → (id : Id) × ((ids : List Id) × (listed text ≡ id ∷ ids))
spelled_some text some = inside (listed text) (listed_some text (grind (arith, nat_tests)))
  where
    inside : (ids : List Id) → 0 < length ids → (id : Id) × ((others : List Id) × (ids ≡ id ∷ others))
    inside [] h = absurd (omega arith)
    inside (id ∷ others) h = (id, (others, refl))

none_spelled : (text : List ℕ) → (length text == 0) ≡ true → listed text ≡ []
none_spelled text none = listed_none text (eqb-true (length text) 0 none)

pub both_end : (a b : List ℕ) → (length a == 0) ≡ true → (length b == 0) ≡ true → Equal ≡ slice_cmp id_cmp (listed a) (listed b)
both_end a b x y = grind (arith, none_spelled)

pub first_ends : (a b : List ℕ) → (length a == 0) ≡ true → (length b == 0) ≡ false → Less ≡ slice_cmp id_cmp (listed a) (listed b)
first_ends a b x y = let s = spelled_some b y in rw (none_spelled a x, s.1.1) refl

pub second_ends : (a b : List ℕ) → (length a == 0) ≡ false → (length b == 0) ≡ true
    → Greater ≡ slice_cmp id_cmp (listed a) (listed b)
second_ends a b x y = let s = spelled_some a x in rw (s.1.1, none_spelled b y) refl

pub ruleset compared = (both_end, first_ends, second_ends)

-- a text is empty where it spells none
pub spelled_release : (text : List ℕ) → (length text == 0) ≡ is_empty (listed text)
unfolding listed
spelled_release [] = refl
spelled_release (c ∷ rest) = grind (arith, nat_tests, spelled_some (c ∷ rest))

-- ---- a text that spells itself

whole_run : (text : List ℕ) → (run_len text == length text) ≡ list_all is_identifier_char text
whole_run [] = refl
whole_run (c ∷ rest) = grind (arith, nat_tests, whole_run rest)

written : (n : Option ℕ) (text : List ℕ) → id_by n text ≡ identifier_of text → is_none n ≡ not (is_u64_text text)
written n text e = grind arith

pub run_normal : (text : List ℕ) (r : ℕ × Option ℕ) → begins is_identifier_char text ≡ true → r ≡ run_from (Some 0) 0 (drop 0 text)
    → is_normal (AlphaNumeric text) ≡ (r.0 == length text && is_none r.1)
run_normal [] r begin e = cc begin
run_normal (c ∷ rest) r begin e =
    let text = c ∷ rest in
    let number = written (number_of_run (Some 0) text) text (id_spelled text) in
    let all = take_all (length text) text (omega arith) in
    grind (arith, nat_tests, whole_run text, front_end text r e, front_number text r e)
