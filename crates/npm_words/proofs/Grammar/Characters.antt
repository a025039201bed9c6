-- The characters of words, of their partials and signs, and of the whitespace between them.
use Rattle.npm_words.proofs.Common.{Bool, Id, IsBlank, IsIdentifiers, IsPlace, IsPlaces, IsSignText, IsStrictBuild, List, Option, [], all_weaker}
use Rattle.npm_words.proofs.Common.{arith, caret_equal, common_steps, compared, ends, get_or, is_ascii_digit, is_empty, is_identifier_char}
use Rattle.npm_words.proofs.Common.{is_whitespace, late_above, late_below, length, list_all, nat_le, nat_tests, no_sign, not, pieces, refl, runs_tail}
use Rattle.npm_words.proofs.{Common.{sign, spelling, tilde_twice, true, ℕ, ◌&&◌, ◌++◌, ◌-◌, ◌<◌, ◌==◌, ◌||◌, ◌∷◌, ◌≡◌}, Grammar.Runs.encoded-all}
use Rattle.{npm_words.specs.{Grammar.IsPreRelease, RangeText.tilde_sign, Table.{Partial, Sign}}, semver_core.proofs.Reading.Bytes.all-join}
use Rattle.{semver_core.{proofs.Text.Listed.plain_runs, specs.Internal.CommonReading.is_plain}, std.specs.Char.is_ascii_graphic}

-- `<`, `=`, `>`, `^` or `~`
abbrev pub is_sign : ℕ → Bool
is_sign b = nat_le 60 b && nat_le b 62 || (b == 94 || b == 126)

-- ---- the characters of partials

abbrev pub is_part : ℕ → Bool
is_part b = is_identifier_char b || (b == 46 || (b == 43 || b == 42))

place-part : (loose : Bool) (x : List ℕ) (a : Option ℕ) → IsPlace loose x a → list_all is_part x ≡ true
place-part loose x a h = let digits = all_weaker is_ascii_digit is_part (λ b k. grind (arith, nat_tests)) in grind (arith, nat_tests)

pieces-part : (t : List ℕ) (l : List Id) → IsIdentifiers t l → list_all is_part t ≡ true
pieces-part t l h = all_weaker is_plain is_part (λ b k. grind (arith, nat_tests)) t (plain_runs t (runs_tail (pieces t) h.runs))

pre-part : (loose wild : Bool) (fits : List ℕ → Bool) (p : List ℕ) (l : List Id) → IsPreRelease loose wild fits p l → list_all is_part p ≡ true
pre-part loose wild fits p l h = grind (arith, nat_tests, common_steps, pieces-part)

build-part : (p : List ℕ) (l : List Id) → IsStrictBuild p l → list_all is_part p ≡ true
build-part p l h = grind (arith, nat_tests, common_steps, pieces-part)

pub partial-part : (loose : Bool) (x : List ℕ) (p : Partial) → IsPlaces loose x p → list_all is_part x ≡ true
partial-part loose x p h = grind (arith, nat_tests, common_steps, all-join, build-part, place-part, pre-part)

-- ---- the characters of whitespace and of signs

-- a character of a sign, or none that is visible
abbrev pub is_signal : ℕ → Bool
is_signal b = is_sign b || not (is_ascii_graphic b)

blank-signal : (x : List ℕ) → IsBlank x → list_all is_signal x ≡ true
blank-signal x h =
    rw h.spelled (encoded-all is_whitespace is_signal (λ n k. grind (arith, nat_tests)) (λ c k w. grind (arith, nat_tests)) h.characters h.each)

spelling-signal : (s : Sign) (y : List ℕ) → list_all is_signal y ≡ true → list_all is_signal (spelling s ++ y) ≡ true
spelling-signal s y h = grind (arith, nat_tests, common_steps)

pub sign-signal : (signs : List ℕ) (s : Sign) → IsSignText signs s → list_all is_signal signs ≡ true
sign-signal signs s no_sign = refl
sign-signal signs s (sign t y h) = spelling-signal t y (blank-signal y h)
sign-signal signs s (late_above y h) = all-join is_signal y (61 ∷ []) (blank-signal y h) refl
sign-signal signs s (late_below y h) = all-join is_signal y (61 ∷ []) (blank-signal y h) refl
sign-signal signs s (caret_equal y z h k) = all-join is_signal y (61 ∷ z) (blank-signal y h) (blank-signal z k)
sign-signal signs s (tilde_sign c y z h k which) =
    all-join is_signal y (spelling (compared c) ++ z) (blank-signal y h) (spelling-signal (compared c) z (blank-signal z k))
sign-signal signs s (tilde_twice c y z h some k which) =
    all-join is_signal y (spelling (compared c) ++ z) (blank-signal y h) (spelling-signal (compared c) z (blank-signal z k))

pub empty-length : (text : List ℕ) → is_empty text ≡ (length text == 0)
empty-length text = grind (arith, nat_tests, common_steps)

-- ---- the last character

pub last-byte : (p : ℕ → Bool) (x rest : List ℕ) (d : ℕ) → 0 < length x → p (get_or (x ++ rest) (length x - 1) d) ≡ ends p x
last-byte p [] rest d some = absurd (omega (arith, some))
last-byte p (c ∷ []) rest d some = refl
last-byte p (c ∷ e ∷ x) rest d some = grind (arith, last-byte p (e ∷ x) rest d (omega arith))
