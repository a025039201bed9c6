-- Whitespace and boundaries: what the bytes tell is what the characters are.
use Rattle.semver_core.proofs.Reading.Bytes.{begins_component, component-solid, dark-starts, solid-dark}
use Rattle.semver_core.proofs.Text.SpaceLaw.{space_len-dark, space_len-inside, space_len-white}
use Rattle.semver_core.proofs.Text.Spaces.{after_spaces-end, drop_spaces-none, space_len-nil}
use Rattle.semver_core.proofs.Text.Trims.{drop_spaces-blank, fronted}
use Rattle.semver_core.specs.Internal.Boundaries.{after_some_space, from_boundary, is_boundary}
use Rattle.semver_core.specs.Internal.Fronts.{after_byte}
use Rattle.semver_core.specs.Internal.Spaces.{after_spaces, drop_spaces, space_len}
use Rattle.semver_core.specs.Text.Boundaries.{IsBoundary, IsFirstBoundary, SkipsBlank}
use Rattle.semver_core.specs.Text.Characters.{BeginsBlank, IsBlank, IsTrim}
use Rattle.std.proofs.Common.{[], IsCharBoundary, IsUtf8, List, Some, ap, append_assoc, arith, drop, encode_utf8_all, false, inl, inr, length}
use Rattle.std.proofs.Common.{length-append, refl, subst, suc, sym, true, zero, ℕ, ◌++◌, ◌+◌, ◌<◌, ◌∙◌, ◌∷◌, ◌≡◌, ◌≤◌}
use Rattle.std.proofs.Math.Seq.{get_or-append_seam}
use Rattle.std.proofs.lemmas.Bool.Decides.{nat_tests}
use Rattle.std.proofs.lemmas.Bool.{cases_Bool}
use Rattle.std.proofs.lemmas.List.{drop_at, drop_more, take_at}
use Rattle.std.proofs.lemmas.Str.{IsCharBoundary-after_ascii, IsCharBoundary-at_seam, IsUtf8-drop, IsUtf8-nil, IsUtf8-past_char, IsUtf8-take}
use Rattle.std.proofs.lemmas.Str.{encodes-append, len_utf8_bounds}
use Rattle.std.specs.Char.{encode_utf8}

-- ---- whitespace at the front

pub spaces-le : (text : List ℕ) → length (drop_spaces text) ≤ length text
spaces-le text = let e = after_spaces-end 0 text in omega (arith, ap length e.1, length-append e.0 (drop_spaces text))

-- no whitespace is left in front
pub spaces-gone : (n : ℕ) (text : List ℕ) → space_len (after_spaces n text) ≡ 0
unfolding after_spaces
spaces-gone n [] = space_len-nil
spaces-gone (suc n) (b ∷ rest) = spaces-gone n rest
spaces-gone zero (b ∷ rest) = go (λ n. spaces-gone n rest) (space_len (b ∷ rest)) refl
  where
    go : ((n : ℕ) → space_len (after_spaces n rest) ≡ 0) → (n : ℕ) → space_len (b ∷ rest) ≡ n → space_len (after_spaces 0 (b ∷ rest)) ≡ 0
    go f n e = grind (arith, drop_spaces-none)

pub front-dark : (text : List ℕ) → begins_component text ≡ true → space_len text ≡ 0
front-dark text h = solid-dark text (component-solid text h)

-- the whitespace at the front
pub spaced : (text : List ℕ) → IsUtf8 text → (space : List ℕ) × IsBlank space × (text ≡ space ++ drop_spaces text)
spaced text u =
    let f = fronted u.0 in
    let rest = encode_utf8_all f.rest in
    let blank = drop_spaces-blank f.before rest f.blank in
    let left = drop_spaces-none rest (dark-starts f.rest f.dark) in
    grind (arith, encodes-append f.before f.rest)

-- ---- the first boundary

pub from_boundary-stop : (text : List ℕ) → is_boundary text ≡ true → from_boundary text ≡ text
unfolding from_boundary
from_boundary-stop [] h = refl
from_boundary-stop (b ∷ rest) h = rw (h, from_boundary) refl

pub from_boundary-more : (text : List ℕ) (i : ℕ) → i < length text → is_boundary (drop i text) ≡ false
    → from_boundary (drop i text) ≡ from_boundary (drop (i + 1) text)
unfolding from_boundary
from_boundary-more text i lt h = grind (arith, nat_tests, drop_more text i 0 lt)

pub from_boundary-nil : from_boundary [] ≡ []
unfolding from_boundary
from_boundary-nil = refl

pub boundary-le : (text : List ℕ) → length (from_boundary text) ≤ length text
unfolding from_boundary
boundary-le [] = omega arith
boundary-le (b ∷ rest) = grind (arith, boundary-le rest)

pub no-boundary : (b : ℕ) (rest : List ℕ) → space_len (b ∷ rest) ≡ 0 → is_boundary (b ∷ rest) ≡ false
unfolding is_boundary
no-boundary b rest h = rw h refl

-- ---- UTF-8 behind a byte, and behind characters

pub tail-utf8 : (b : ℕ) (text : List ℕ) → b < 128 → IsUtf8 (b ∷ text) → IsUtf8 text
tail-utf8 b text h u = IsUtf8-drop (b ∷ text) 1 u (IsCharBoundary-after_ascii (b ∷ text) 0 u (omega arith) (omega (arith, h)))

past-all : (cs rest : List ℕ) → IsUtf8 (encode_utf8_all cs ++ rest) → IsUtf8 rest
past-all [] rest u = u
past-all (c ∷ cs) rest u =
    let whole = append_assoc (encode_utf8 c) (encode_utf8_all cs) rest in
    past-all cs rest (IsUtf8-past_char (encode_utf8_all (c ∷ cs) ++ rest) (encode_utf8_all cs ++ rest) c u whole)

pub skips-utf8 : (text rest : List ℕ) → SkipsBlank text rest → IsUtf8 text → IsUtf8 rest
skips-utf8 text rest h u = grind (arith, past-all h.2.characters rest)

-- ---- boundaries

-- a place where whitespace is told by bytes is one between characters
pub suffix-utf8 : (front rest : List ℕ) → IsUtf8 (front ++ rest) → 0 < space_len rest → IsUtf8 rest
suffix-utf8 front [] u h = absurd (omega (arith, space_len-nil))
suffix-utf8 front (b ∷ rest) u h =
    let here = get_or-append_seam front b rest 0 in
    let cut : IsCharBoundary (front ++ (b ∷ rest)) (length front) = grind (arith, length-append, space_len-inside) in
    rw (drop_at front (b ∷ rest) (length front) refl) at (IsUtf8-drop (front ++ (b ∷ rest)) (length front) u cut)

suffix-blank : (front rest : List ℕ) → IsUtf8 (front ++ rest) → 0 < space_len rest → BeginsBlank rest
suffix-blank front rest u h = let v = suffix-utf8 front rest u h in first v.0 v.1.1
  where
    first : (cs : List ℕ) → encode_utf8_all cs ≡ rest → BeginsBlank rest
    first [] e = absurd (omega (arith, h, ap space_len (sym e) ∙ space_len-nil))
    first (c ∷ cs) e = grind (arith, space_len-dark)

pub blank-len : (text : List ℕ) → BeginsBlank text → 0 < space_len text
blank-len text h = omega (arith, ap space_len h.spelled ∙ space_len-white h.character h.rest h.passes, (len_utf8_bounds h.character).0)

pub suffix-boundary : (front rest : List ℕ) → IsUtf8 (front ++ rest) → is_boundary rest ≡ true → IsBoundary rest
unfolding is_boundary
suffix-boundary front [] u h = inl refl
suffix-boundary front (b ∷ rest) u h = inr (suffix-blank front (b ∷ rest) u (grind (arith, h, nat_tests)))

pub boundary-utf8 : (front rest : List ℕ) → IsUtf8 (front ++ rest) → IsBoundary rest → IsUtf8 rest
boundary-utf8 front rest u (inl empty) = rw empty IsUtf8-nil
boundary-utf8 front rest u (inr blank) = suffix-utf8 front rest u (blank-len rest blank)

pub boundary-of : (rest : List ℕ) → IsBoundary rest → is_boundary rest ≡ true
unfolding is_boundary
boundary-of rest h = grind (arith, blank-len)

-- ---- whitespace that is skipped

pub skips-is : (text : List ℕ) → IsUtf8 text → SkipsBlank text (drop_spaces text)
skips-is text u = grind (arith, nat_tests, spaces-gone 0 text, blank-len, spaced text u)

pub skips-of : (text rest : List ℕ) → IsUtf8 text → SkipsBlank text rest → drop_spaces text ≡ rest
skips-of text rest u h =
    let v = skips-utf8 text rest h u in
    let none : space_len rest ≡ 0 = grind (arith, h.3, suffix-blank [] rest v) in
    grind (arith, drop_spaces-blank h.2.characters rest h.2.each, drop_spaces-none)

pub some_space-is : (front text rest : List ℕ) → IsUtf8 (front ++ text) → after_some_space text ≡ Some rest → IsUtf8 text
    × BeginsBlank text × SkipsBlank text rest
some_space-is front text rest u h =
    let some : 0 < space_len text = grind (arith, nat_tests) in
    let v = suffix-utf8 front text u some in
    (v, suffix-blank front text u some, grind (arith, nat_tests, skips-is text v))

pub byte-is : (c : ℕ) (text rest : List ℕ) → after_byte c text ≡ Some rest → text ≡ c ∷ rest
byte-is c text rest h = grind arith

-- ---- the next boundary

pub first-is : (front text : List ℕ) → IsUtf8 (front ++ text) → IsFirstBoundary text (from_boundary text)
first-is front [] u = rw from_boundary-nil ([], refl, inl refl, λ x y e h. omega arith)
first-is front (b ∷ text) u = elim (cases_Bool (is_boundary (b ∷ text))) [
  | inl here ↦
      let stop = suffix-boundary front (b ∷ text) u here in
      rw (from_boundary-stop (b ∷ text) here)
      ([], refl, stop, λ before after e h. omega arith)
  | inr goes ↦
      rw (from_boundary-more (b ∷ text) 0 (omega arith) goes)
      (longer goes (first-is (front ++ (b ∷ [])) text (rw append_assoc u)))
]
  where
    longer : is_boundary (b ∷ text) ≡ false → IsFirstBoundary text (from_boundary text) → IsFirstBoundary (b ∷ text) (from_boundary text)
    longer goes f = (b ∷ f.0, ap (λ (t : List ℕ). b ∷ t) f.1, f.2, first)
      where
        first : (before after : List ℕ) → b ∷ text ≡ before ++ after → IsBoundary after → length (b ∷ f.0) ≤ length before
        first [] after e h = cc (sym goes ∙ (ap (λ (t : List ℕ). is_boundary t) e ∙ boundary-of after h))
        first (c ∷ before) after e h = let less = f.3 before after (ap (λ (t : List ℕ). drop 1 t) e) h in omega arith

pub first-of : (text rest : List ℕ) → IsUtf8 text → IsFirstBoundary text rest → from_boundary text ≡ rest
first-of text rest u h =
    let f = first-is [] text u in
    let one = f.3 h.0 rest h.1 h.2 in
    let two = h.3 f.0 (from_boundary text) f.1 f.2 in
    let same : length h.0 ≡ length f.0 = omega (arith, one, two) in
    cc (drop_at f.0 (from_boundary text) (length f.0) refl, drop_at h.0 rest (length f.0) same, f.1, h.1)

-- what is trimmed is UTF-8
pub trim-utf8 : (text middle : List ℕ) → IsUtf8 text → IsTrim text middle → IsUtf8 middle
trim-utf8 text middle u h =
    let front = encode_utf8_all h.characters in
    let back = encode_utf8_all h.after in
    let whole : text ≡ encode_utf8_all h.before ++ (front ++ back) =
    h.divided ∙ (encodes-append h.before (h.characters ++ h.after) ∙ ap (λ (t : List ℕ). encode_utf8_all h.before ++ t) (encodes-append h.characters h.after)) in
    let v = past-all h.before (front ++ back) (subst (λ (t : List ℕ). IsUtf8 t) whole u) in
    let cut = IsCharBoundary-at_seam (front ++ back) front back refl (past-all h.characters back v) in
    grind (arith, take_at, IsUtf8-take)
