-- Fields of a text, which are texts, and the number of one.
use Rattle.std.proofs.Common.{◌≡◌, ◌==◌, ◌+◌, ◌^◌, ◌<◌, ◌∷◌, [], ℕ, zero, suc, true, false, not, List, Some, Result, Ok, Err, IsUtf8, arith, get_or, if◌then◌else◌, inl, inr, length, length-drop, nat_lt, refl, slice_get, sym}
use Rattle.std.proofs.lemmas.Bool.Decides.{nat_tests}
use Rattle.std.proofs.lemmas.List.Elements.{All-cons, All-filter, All-from_get_or, All-get_or, All-nil}
use Rattle.std.proofs.lemmas.List.Splits.{slice_split_first, slice_split_none}
use Rattle.std.proofs.lemmas.List.Sums.{fails_before_first, passes_at_first}
use Rattle.std.proofs.lemmas.Option.{get_or_from_slice_get, slice_get_within}
use Rattle.std.proofs.lemmas.Str.{IsCharBoundary-after_ascii, IsCharBoundary-before_ascii, IsUtf8-drop, IsUtf8-take}
use Rattle.std.proofs.lemmas.Str.Parse.{parse_digits}
use Rattle.std.specs.Char.{is_ascii_digit}
use Rattle.std.specs.List.{All, after_first, before_first, list_all, position_or_len, slice_split}
use Rattle.std.specs.Result.{result_unwrap_or}
use Rattle.std.specs.Str.Parse.{ParsesUnsigned, digits_value}
use Rattle.semver_core.proofs.Common.{cases_lt}
use Rattle.semver_core.proofs.Text.Runs.{numerals}
use Rattle.npm_semver.specs.Readings.{fields, is_blank, nth_field}

blank_ascii : (b : ℕ) → is_blank b ≡ true → b < 128
blank_ascii b h = grind (arith, nat_tests, h)

-- what stands between blanks is a text
parts_texts : (k : ℕ) (text : List ℕ) → length text < k → IsUtf8 text → All IsUtf8 (slice_split is_blank text)
parts_texts zero text short u = absurd (omega (arith, short))
parts_texts (suc k) text short u = elim (cases_lt (position_or_len is_blank text) (length text)) [
  | inl within ↦
      let at = position_or_len is_blank text in
      let low = blank_ascii (get_or text at 0) (passes_at_first is_blank text 0 within) in
      let front : IsUtf8 (before_first is_blank text) = IsUtf8-take text at u (IsCharBoundary-before_ascii text at within low) in
      let back : IsUtf8 (after_first is_blank text) = IsUtf8-drop text (at + 1) u (IsCharBoundary-after_ascii text at u within low) in
      let fewer : length (after_first is_blank text) < k = omega (arith, short, within, length-drop (at + 1) text) in
      rw (slice_split_first is_blank text 0 within)
      (All-cons IsUtf8 (before_first is_blank text) (slice_split is_blank (after_first is_blank text)) front (parts_texts k (after_first is_blank text) fewer back))
  | inr past ↦
      let none : All (λ b. is_blank b ≡ false) text =
      All-from_get_or (λ b. is_blank b ≡ false) text 0 (λ i lt. fails_before_first is_blank text i 0 (omega (arith, past, lt))) in
      rw (slice_split_none is_blank text none) (All-cons IsUtf8 text [] u (All-nil IsUtf8))
]

field_text : (n : ℕ) (text part : List ℕ) → IsUtf8 text → slice_get (fields text) n ≡ Some part → IsUtf8 part
field_text n text part u is =
    let parts : All IsUtf8 (fields text) =
    All-filter (λ p. not (length p == 0)) IsUtf8 (slice_split is_blank text) (parts_texts (suc (length text)) text (omega arith) u) in
    let found : IsUtf8 (get_or (fields text) n []) = All-get_or IsUtf8 (fields text) n [] (slice_get_within (fields text) n part is) parts in
    rw (get_or_from_slice_get (fields text) n part [] is) at found

pub nth_is : (n before : ℕ) (text part whole : List ℕ) → n ≡ suc before → IsUtf8 text → Some part ≡ slice_get (fields text) before
    → (IsUtf8 part → whole ≡ part) → Some whole ≡ nth_field n text
nth_is n before text part whole e u is same = rw (e, same (field_text before text part u (sym is))) is

-- the number that digits write
pub number_read : {E : Type 0} (ds : List ℕ) (r : Result ℕ E) → ParsesUnsigned 64 10 ds r → list_all is_ascii_digit ds ≡ true
    → result_unwrap_or r 0 ≡ (if nat_lt (digits_value 10 ds) (2 ^ 64) then digits_value 10 ds else 0)
number_read {E} ds (Ok n) h d = let ((some, small), same) = parse_digits numerals {E = E} 64 ds (Ok n) h d in grind (arith, nat_tests, small, same)
number_read {E} [] (Err e) h d = refl
number_read {E} (c ∷ cs) (Err e) h d = elim (cases_lt (digits_value 10 (c ∷ cs)) (2 ^ 64)) [
  | inl small ↦ absurd (parse_digits numerals {E = E} 64 (c ∷ cs) (Err e) h d (omega arith, small))
  | inr large ↦ grind (arith, nat_tests, large)
]
