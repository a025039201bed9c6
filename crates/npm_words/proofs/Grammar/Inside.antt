-- The partials inside a malformed word, in front of a `=`: the functions find them exactly where the statement has them.
use Rattle.npm_words.proofs.Common.{Bool, List, None, Option, Some, [], and_parts, ap, arith, bytes_eq-Decides, cases_Bool, codes, common_steps, drop}
use Rattle.npm_words.proofs.Common.{drop_at, empty_is, false, if◌then◌else◌, inl, inr, is_ascii_digit, is_empty, length, length-append, length-drop}
use Rattle.npm_words.proofs.Common.{nat_tests, not, prefix_len, refl, subst, suc, sym, take, take-append-drop, take_at, take_rest, takes, true, zero}
use Rattle.npm_words.proofs.{Common.{ℕ, ◌&&◌, ◌++◌, ◌-◌, ◌<◌, ◌==◌, ◌||◌, ◌∙◌, ◌∷◌, ◌≡◌, ◌≤◌}, Grammar.Characters.empty-length}
use Rattle.npm_words.proofs.Grammar.{InsideParts.{inside-starts, partial-found, partial-less, partial-max, starts_place}, Runs.{run-exact, steps-go}}
use Rattle.npm_words.{proofs.Grammar.Runs.steps-stop, specs.Internal.{Inside.{are_inside, behind_partial, from_place, is_apart}, Words.takes_on}}
use Rattle.{npm_words.specs.Malformed.{AreInside, IsInside, IsTaken, begins_place, more, none}, semver_core.proofs.Text.Runs.prefix_each}
use Rattle.{semver_core.proofs.Text.Runs.prefix_ends, std.{proofs.Math.Bool.or-true, specs.List.{ends_with, position}}}

-- ---- the first place

abbrev is_placed : List ℕ → Bool
is_placed text = not (is_empty (from_place text))

starts : (text : List ℕ) → is_placed text ≡ true → starts_place (from_place text) ≡ true
starts text h = grind (arith, nat_tests, common_steps, prefix_ends is_apart text)

-- what is left is shorter
less : (text : List ℕ) → is_placed text ≡ true → length (behind_partial (from_place text)) < length text
less text h = omega (arith, partial-less (from_place text) (starts text h), length-drop (prefix_len is_apart text) text)

-- ---- the loop

nil-inside : are_inside 0 [] ≡ true
unfolding are_inside
nil-inside = refl

step : (n : ℕ) (text : List ℕ) → are_inside (suc n) text ≡ (if is_placed text then are_inside n (behind_partial (from_place text)) else is_empty text)
unfolding are_inside
step n text = grind arith

stop : (text : List ℕ) → is_placed text ≡ false → are_inside (length text) text ≡ is_empty text
stop = steps-stop are_inside _ _ _ nil-inside step less

go : (text : List ℕ) → is_placed text ≡ true
    → are_inside (length text) text ≡ (let rest = behind_partial (from_place text) in are_inside (length rest) rest)
go = steps-go are_inside _ _ _ nil-inside step less

pub place_byte : (b : ℕ) → begins_place (b ∷ []) ≡ (is_ascii_digit b || (b == 120 || (b == 88 || b == 42)))
place_byte b = grind (arith, nat_tests, common_steps)

-- where the first place is
abbrev pub first_place : List ℕ → Option ℕ
first_place text = position (λ b. begins_place (b ∷ [])) text

first-none : (text : List ℕ) → first_place text ≡ None → is_placed text ≡ false
first-none text h = grind (arith, nat_tests, common_steps, length-drop)

first-some : (text : List ℕ) (at : ℕ) → first_place text ≡ Some at → (is_placed text ≡ true) × (take (length text - at) (drop at text) ≡ from_place text)
first-some text at h = (grind (arith, nat_tests, common_steps, empty-length, length-drop), grind (arith, nat_tests, common_steps, take_rest))

module _ (text : List ℕ) where
  pub inside-stops : first_place text ≡ None → (length text == 0) ≡ are_inside (length text) text
  inside-stops h = sym (empty-length text) ∙ sym (stop text (first-none text h))

  module _ (at : ℕ) (h : first_place text ≡ Some at) (next : List ℕ) (f : next ≡ behind_partial (take (length text - at) (drop at text))) where
    same : next ≡ behind_partial (from_place text)
    same = f ∙ ap behind_partial (first-some text at h).1

    pub inside-less : length next < length text
    inside-less = omega (arith, less text (first-some text at h).0, ap length same)

    pub inside-goes : are_inside (length text) text ≡ are_inside (length next) next
    inside-goes = rw same (go text (first-some text at h).0)

-- ---- what is found is there, and what is there is found

pub inside-found : (n : ℕ) (text : List ℕ) → length text ≤ n → are_inside n text ≡ true → AreInside text
unfolding are_inside
inside-found zero [] k h = none
inside-found zero (c ∷ text) k h = cc h
inside-found (suc n) text k h = elim (cases_Bool (is_placed text)) [
  | inr off ↦ subst AreInside (sym (empty_is text (rw off at (sym (step n text) ∙ h)))) none
  | inl on ↦
      let first = from_place text in
      let rest = behind_partial first in
      let f = partial-found first (starts text on) in
      let each = inside-found n rest (omega (arith, k, less text on)) (rw on at (sym (step n text) ∙ h)) in
      let split : text ≡ take (prefix_len is_apart text) text ++ (f.piece ++ rest) =
      sym (take-append-drop (prefix_len is_apart text) text) ∙ ap (λ (t : List ℕ). take (prefix_len is_apart text) text ++ t) f.split in
      subst AreInside (sym split) (more (take (prefix_len is_apart text) text) f.piece rest (prefix_each is_apart text) f.is
      (λ y z e i. omega (arith, partial-max y z i, ap (λ t. length (behind_partial t)) (f.split ∙ e), ap length e, length-append y z, length-append f.piece rest)) each)
]

-- the longest one is what is read
longest-read : (x rest : List ℕ) → IsInside x → ((y z : List ℕ) → x ++ rest ≡ y ++ z → IsInside y → length y ≤ length x) → behind_partial (x ++ rest) ≡ rest
longest-read x rest i longest =
    let left = behind_partial (x ++ rest) in
    let f = partial-found (x ++ rest) (inside-starts x rest i) in
    let same : length x ≡ length f.piece =
    omega (arith, partial-max x rest i, longest f.piece left f.split f.is, ap length f.split, length-append x rest, length-append f.piece left) in
    cc (drop_at f.piece left (length f.piece) refl, drop_at x rest (length f.piece) same, f.split)

pub inside-read : (text : List ℕ) → AreInside text → are_inside (length text) text ≡ true
inside-read text none = nil-inside
inside-read text (more front x rest h i longest k) =
    let starts = inside-starts x rest i in
    let first : from_place (front ++ (x ++ rest)) ≡ x ++ rest = run-exact is_apart front (x ++ rest) h (grind (arith, nat_tests, common_steps)) in
    let on : is_placed (front ++ (x ++ rest)) ≡ true = rw first (grind arith) in
    go (front ++ (x ++ rest)) on ∙ rw (first, longest-read x rest i longest) (inside-read rest k)

-- ---- pieces

-- a `=` ends the text
equal-there : (text : List ℕ) → ends_with ◌==◌ text (codes "=") ≡ true → text ≡ take (length text - 1) text ++ codes "="
equal-there text h =
    let last = (bytes_eq-Decides (codes "=") (drop (length text - 1) text)).0 h in
    sym (take-append-drop (length text - 1) text) ∙ ap (λ r. take (length text - 1) text ++ r) (sym last)

equal-read : (front : List ℕ) → (take (length (front ++ codes "=") - 1) (front ++ codes "=") ≡ front) × (ends_with ◌==◌ (front ++ codes "=") (codes "=") ≡ true)
equal-read front =
    let n : length (front ++ codes "=") - 1 ≡ length front = omega (arith, length-append front (codes "=")) in
    rw n (take_at front (codes "=") (length front) refl, rw (drop_at front (codes "=") (length front) refl) refl)

pub taken-found : (piece rest : List ℕ) → takes_on piece rest ≡ true → IsTaken piece rest
unfolding takes_on
taken-found piece rest h = elim (cases_Bool (takes piece rest)) [
  | inl first ↦ inl first
  | inr other ↦
      let front = take (length piece - 1) piece in
      let a = and_parts (ends_with ◌==◌ piece (codes "=")) (are_inside (length front) front && begins_place rest) (rw other at h) in
      let b = and_parts (are_inside (length front) front) (begins_place rest) a.1 in
      inr (front, equal-there piece a.0, inside-found (length front) front (omega arith) b.0, b.1)
]

pub taken-read : (piece rest : List ℕ) → IsTaken piece rest → takes_on piece rest ≡ true
unfolding takes_on
taken-read piece rest (inl first) = rw first refl
taken-read piece rest (inr (front, split, is, place)) =
    let e = equal-read front in rw (split, e.0, e.1, inside-read front is, place) (or-true _)

pub taken-not : (piece rest : List ℕ) → (IsTaken piece rest → ⊥) → takes_on piece rest ≡ false
taken-not piece rest h = grind (arith, taken-found piece rest)

pub not-taken : (piece rest : List ℕ) → takes_on piece rest ≡ false → IsTaken piece rest → ⊥
not-taken piece rest off t = cc (taken-read piece rest t, off)
