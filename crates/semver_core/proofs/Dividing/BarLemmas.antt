-- The parts of a text, cut at its bars.
use Rattle.semver_core.proofs.Common.{trim, [], IsCharBoundary, IsUtf8, List, None, Option, Some, arith}
use Rattle.semver_core.proofs.Common.{drop, false, get_or, inl, inr, length, refl, suc, true, ℕ, ◌+◌, ◌<◌}
use Rattle.semver_core.proofs.Common.{◌∷◌, ◌≡◌, ◌≤◌, nat_tests, cases_Bool, IsCharBoundary-after_ascii}
use Rattle.semver_core.proofs.Common.{second_so}
use Rattle.semver_core.specs.Internal.Parts.{bars_at, begins_bars, cut_bars, front_part, later_parts, parts}
use Rattle.std.proofs.lemmas.List.{drop_more, get_or-drop}
use Rattle.std.proofs.lemmas.Str.{IsCharBoundary-before_ascii}

pub bars_fit : (text : List ℕ) → bars_at text ≤ length text
unfolding bars_at
bars_fit [] = omega arith
bars_fit (b ∷ rest) = grind (arith, bars_fit rest)

-- where bars stand, both fit
pub bars_room : (text : List ℕ) → bars_at text < length text → bars_at text + 2 ≤ length text
unfolding bars_at
bars_room [] h = absurd (omega arith)
bars_room (b ∷ rest) h = grind (arith, second_so, bars_room rest)

pub bars_at-stop : (text : List ℕ) → begins_bars text ≡ true → bars_at text ≡ 0
unfolding bars_at
bars_at-stop text h = grind arith

pub bars_at-more : (text : List ℕ) (i : ℕ) → i < length text → begins_bars (drop i text) ≡ false → bars_at (drop i text) ≡ suc (bars_at (drop (i + 1) text))
unfolding bars_at
bars_at-more text i lt h = grind (arith, nat_tests, drop_more text i 0 lt)

pub bars_at-nil : bars_at [] ≡ 0
unfolding bars_at
bars_at-nil = refl

-- what a list of parts has after its first one
abbrev pub parts_after : Option (List ℕ) → List (List ℕ)
parts_after None = []
parts_after (Some t) = cut_bars false t

-- the parts are the one at the front, and those of what follows
pub cut_bars-front : (text : List ℕ) → cut_bars false text ≡ (front_part text).0 ∷ parts_after (front_part text).1
unfolding bars_at cut_bars
cut_bars-front [] = refl
cut_bars-front (b ∷ rest) = elim (cases_Bool (begins_bars (b ∷ rest))) [
  | inl here ↦ grind arith
  | inr other ↦
      let sum : suc (bars_at rest) + 2 ≡ suc (bars_at rest + 2) = omega arith in
      rw (other, cut_bars) (grind (arith, nat_tests, sum, cut_bars-front rest))
]

here-low : (text : List ℕ) → begins_bars text ≡ true → (get_or text 0 0 < 128) × (get_or text 1 0 < 128)
here-low text h = grind (arith, nat_tests)

bars-begin : (text : List ℕ) → bars_at text < length text → begins_bars (drop (bars_at text) text) ≡ true
unfolding bars_at
bars-begin [] h = absurd (omega arith)
bars-begin (b ∷ rest) h = grind (arith, bars-begin rest)

bars-low : (text : List ℕ) → bars_at text < length text → (get_or text (bars_at text) 0 < 128) × (get_or text (bars_at text + 1) 0 < 128)
bars-low text h = grind (arith, here-low (drop (bars_at text) text), bars-begin, get_or-drop)

pub bars_boundary : (text : List ℕ) (at : ℕ) → at ≡ bars_at text → at < length text → IsCharBoundary text at
bars_boundary text at e h = grind (arith, IsCharBoundary-before_ascii, bars-low)

pub bars_behind : (text : List ℕ) (at : ℕ) → IsUtf8 text → at ≡ bars_at text → at < length text → IsCharBoundary text (at + 2)
bars_behind text at u e h =
    let room = bars_room text (omega arith) in
    let low = bars-low text (omega arith) in
    grind (arith, IsCharBoundary-after_ascii text (at + 1) u)

-- the parts are the one at the front, trimmed, and those of what follows
pub parts-front : (text : List ℕ) → parts text ≡ trim (front_part text).0 ∷ later_parts (front_part text).1
parts-front text = grind (arith, cut_bars-front)

pub ruleset at_bars = (bars_fit, bars_room, bars_boundary, bars_behind)
