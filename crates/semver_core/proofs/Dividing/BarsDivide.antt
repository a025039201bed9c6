-- For proofs. A text has one division at its bars, which is the one that `cut_bars` computes.
use Rattle.semver_core.specs.Internal.Parts.{cut_bars}
use Rattle.semver_core.specs.Text.Bars.{IsCutAtBars, has_bars, is_bar, more_pieces, one_piece}
use Rattle.semver_core.specs.Text.Characters.{begins, ends}
use Rattle.std.proofs.Common.{[], IsUtf8, List, arith, false, inl, inr, length, length-append, refl, subst, sym, ℕ, ◌&&◌, ◌++◌, ◌<◌, ◌∷◌}
use Rattle.std.proofs.Common.{◌≡◌}
use Rattle.std.proofs.Math.Seq.{get_or-append_seam}
use Rattle.std.proofs.lemmas.Bool.{and_parts, and_right, cases_Bool, eqb-true, or_from}
use Rattle.std.proofs.lemmas.List.{drop_at, take_at}
use Rattle.std.proofs.lemmas.Str.{IsCharBoundary-after_ascii, IsCharBoundary-before_ascii, IsUtf8-drop, IsUtf8-take}
use Rattle.std.specs.List.{AllByRecursion, onto_first}

-- ---- no other division

whole-piece : (piece : List ℕ) → has_bars piece ≡ false → cut_bars false piece ≡ piece ∷ []
unfolding cut_bars
whole-piece [] h = refl
whole-piece (b ∷ rest) h = grind (arith, whole-piece rest)

front-piece : (piece t : List ℕ) → has_bars piece ≡ false → ends is_bar piece ≡ false
    → cut_bars false (piece ++ 124 ∷ (124 ∷ t)) ≡ piece ∷ cut_bars false t
unfolding cut_bars
front-piece [] t h ends = refl
front-piece (b ∷ rest) t h ends = grind (arith, front-piece rest t)

pub bars_once : (text : List ℕ) (pieces : List (List ℕ)) → IsCutAtBars text pieces → pieces ≡ cut_bars false text
bars_once text pieces (one_piece piece h) = sym (whole-piece piece h)
bars_once text pieces (more_pieces piece rest others h ended cut) = grind (arith, front-piece, bars_once rest others cut)

-- ---- this division

-- one byte more in front
onto : (b : ℕ) (text : List ℕ) (pieces : List (List ℕ)) → (is_bar b && begins is_bar text) ≡ false → IsCutAtBars text pieces → IsCutAtBars (b ∷ text) (onto_first b pieces)
onto b text pieces here (one_piece piece h) =
    one_piece (b ∷ piece) (or_from (is_bar b && begins is_bar piece) (has_bars piece) here h)
onto b text pieces here (more_pieces [] rest others h ended cut) =
    more_pieces (b ∷ []) rest others (grind arith) (grind arith) cut
onto b text pieces here (more_pieces (c ∷ piece) rest others h ended cut) =
    more_pieces (b ∷ c ∷ piece) rest others (grind arith) ended cut

pub bars_divide : (text : List ℕ) → IsCutAtBars text (cut_bars false text)
unfolding cut_bars
bars_divide [] = one_piece [] refl
bars_divide (b ∷ []) =
    let none = and_right (is_bar b) false refl in
    rw (none, cut_bars) (onto b [] ([] ∷ []) none (one_piece [] refl))
bars_divide (b ∷ c ∷ t) = elim (cases_Bool (is_bar b && is_bar c)) [
  | inl here ↦
      let both = and_parts (is_bar b) (is_bar c) here in
      rw (eqb-true b 124 both.0, eqb-true c 124 both.1, cut_bars) (more_pieces [] t (cut_bars false t) refl refl (bars_divide t))
  | inr other ↦ rw (other, cut_bars) (onto b (c ∷ t) (cut_bars false (c ∷ t)) other (bars_divide (c ∷ t)))
]

-- ---- the pieces of a text are UTF-8

utf8-bar : (piece t : List ℕ) → IsUtf8 (piece ++ 124 ∷ (124 ∷ t)) → IsUtf8 piece × IsUtf8 t
utf8-bar piece t u =
    let text = piece ++ 124 ∷ (124 ∷ t) in
    let long : length piece < length text = omega (arith, length-append piece (124 ∷ (124 ∷ t))) in
    let cut = IsCharBoundary-before_ascii text (length piece) long (omega (arith, get_or-append_seam piece 124 (124 ∷ t) 0)) in
    let front : IsUtf8 piece = subst (λ (x : List ℕ). IsUtf8 x) (take_at piece (124 ∷ (124 ∷ t)) (length piece) refl) (IsUtf8-take text (length piece) u cut) in
    let back : IsUtf8 (124 ∷ (124 ∷ t)) = subst (λ (x : List ℕ). IsUtf8 x) (drop_at piece (124 ∷ (124 ∷ t)) (length piece) refl) (IsUtf8-drop text (length piece) u cut) in
    (front, IsUtf8-drop (124 ∷ (124 ∷ t)) 2 back (IsCharBoundary-after_ascii (124 ∷ (124 ∷ t)) 1 back (omega arith) (omega arith)))

pub pieces-utf8 : (text : List ℕ) (pieces : List (List ℕ)) → IsCutAtBars text pieces → IsUtf8 text → AllByRecursion IsUtf8 pieces
pieces-utf8 text pieces (one_piece piece h) u = (u, tt)
pieces-utf8 text pieces (more_pieces piece rest others h ended cut) u =
    let both = utf8-bar piece rest u in
    (both.0, pieces-utf8 rest others cut both.1)
