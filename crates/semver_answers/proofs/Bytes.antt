-- The bytes of short texts as numbers, and what is put behind the output.
use Rattle.std.proofs.Common.{◌≡◌, ◌<◌, ◌≤◌, ◌+◌, ◌*◌, ◌/◌, ◌%◌, ◌^◌, ◌++◌, ◌∷◌, ◌∙◌, ℕ, Bool, suc, zero, true, List, [], refl, ap, arith, take, length, length-append}
use Rattle.std.proofs.Common.{append-nil, append_assoc, ltb-true, w64, sym}
use Rattle.std.proofs.lemmas.{Bool.{and_parts, Decides.{nat_tests}}, Fmt.{decimal_digit, decimal_step}}
use Rattle.std.proofs.lemmas.List.Folds.{list_all-append}
use Rattle.std.proofs.Math.Seq.{take-append_seam}
use Rattle.std.proofs.Math.Nat.{div-div-eq-div-mul}
use Rattle.std.specs.Fmt.{decimal}
use Rattle.std.specs.List.{list_all}
use Rattle.std.specs.Prelude.{nat_lt}
use Rattle.std.specs.Int.{byte_at, bytes_low_first, to_le_bytes}
use Rattle.semver_answers.specs.Internal.Puts.{Extends, le_value, part_text, release_text}

-- the text of a number of two digits
text_two : (n : ℕ) → 10 ≤ n → n < 100 → decimal n ≡ (48 + n / 10) ∷ (48 + n % 10) ∷ []
text_two n le lt = rw (decimal_step n le (omega arith), decimal_digit (n / 10) (omega arith)) refl

pub digits_one : (n : ℕ) → n < 10 → 48 + n ≡ le_value (decimal n)
unfolding le_value
digits_one n lt = rw (decimal_digit n lt) (omega arith)

pub digits_two : (n : ℕ) → 10 ≤ n → n < 100 → 48 + n / 10 + 256 * (48 + n % 10) ≡ le_value (decimal n)
unfolding le_value
digits_two n le lt = rw (text_two n le lt) (omega arith)

pub ruleset digits = (digits_one, digits_two)

pub part_one : (n : ℕ) → n < 10 → 48 + n + 11776 ≡ le_value (part_text n)
unfolding le_value
part_one n lt = rw (decimal_digit n lt) (omega arith)

pub part_two : (n : ℕ) → 10 ≤ n → n < 100 → 48 + n / 10 + 256 * (48 + n % 10) + 3014656 ≡ le_value (part_text n)
unfolding le_value
part_two n le lt = rw (text_two n le lt) (omega arith)

pub ruleset part = (part_one, part_two)

pub width_one : (n : ℕ) → n < 10 → 1 ≡ length (decimal n)
width_one n lt = rw (decimal_digit n lt) refl

pub width_two : (n : ℕ) → 10 ≤ n → n < 100 → 2 ≡ length (decimal n)
width_two n le lt = rw (text_two n le lt) refl

pub ruleset width = (width_one, width_two)

-- the digits and a dot before more bytes
pub before_one : (n p r : ℕ) (text : List ℕ) → n < 10 → p ≡ le_value (part_text n) → r ≡ le_value text → p + r * 65536 ≡ le_value (part_text n ++ text)
unfolding le_value
before_one n p r text lt e is = rw (e, is, decimal_digit n lt) (omega arith)

pub before_two : (n p r : ℕ) (text : List ℕ) → 10 ≤ n → n < 100 → p ≡ le_value (part_text n) → r ≡ le_value text → p + r * 16777216 ≡ le_value (part_text n ++ text)
unfolding le_value
before_two n p r text le lt e is = rw (e, is, text_two n le lt) (omega arith)

pub ruleset before = (before_one, before_two)

-- the bytes of a number
byte_shift : (i n : ℕ) → byte_at (suc i) n ≡ byte_at i (n / 256)
byte_shift zero n = refl
byte_shift (suc i) n =
    let power : 256 ^ suc (suc i) ≡ 256 * 256 ^ suc i = grind arith in
    rw (power, ← div-div-eq-div-mul n 256 (256 ^ suc i)) refl

bytes_shift : (i k n : ℕ) → bytes_low_first (suc i) k n ≡ bytes_low_first i k (n / 256)
bytes_shift i zero n = refl
bytes_shift i (suc k) n = rw (byte_shift i n, bytes_shift (suc i) k n) refl

abbrev is_byte : ℕ → Bool
is_byte b = nat_lt b 256

low_bytes : (xs : List ℕ) (k : ℕ) → list_all is_byte xs ≡ true → length xs ≤ k → take (length xs) (bytes_low_first 0 k (le_value xs)) ≡ xs
unfolding le_value
low_bytes [] k each le = refl
low_bytes (c ∷ rest) zero each le = absurd (omega arith)
low_bytes (c ∷ rest) (suc k) each le =
    let small : c < 256 = ltb-true c 256 ((and_parts (is_byte c) (list_all is_byte rest) each).0) in
    let here : (c + 256 * le_value rest) % 256 ≡ c = omega (arith, small) in
    let next : (c + 256 * le_value rest) / 256 ≡ le_value rest = omega (arith, small) in
    let more = low_bytes rest k ((and_parts (is_byte c) (list_all is_byte rest) each).1) (omega arith) in
    rw (here, bytes_shift 0 k (c + 256 * le_value rest), next) (ap (λ t. c ∷ t) more)

decimal_bytes : (n : ℕ) → n < 100 → list_all is_byte (decimal n) ≡ true
decimal_bytes n lt = grind (arith, nat_tests, decimal_digit n, text_two n)

release_bytes : (a b c : ℕ) → a < 100 → b < 100 → c < 100 → list_all is_byte (release_text a b c) ≡ true
release_bytes a b c la lb lc =
    rw (list_all-append, list_all-append, list_all-append, list_all-append, decimal_bytes a la, decimal_bytes b lb, decimal_bytes c lc) refl

release_length : (a b c : ℕ) → length (release_text a b c) ≡ length (decimal a) + length (decimal b) + length (decimal c) + 2
release_length a b c = rw (length-append, length-append, length-append, length-append) (omega arith)

pub short_text : (a b c n len : ℕ) → a < 100 → b < 100 → c < 100 → n ≡ le_value (release_text a b c)
    → len ≡ length (decimal a) + length (decimal b) + length (decimal c) + 2 → len ≤ 8 → take len (to_le_bytes w64 n) ≡ release_text a b c
short_text a b c n len la lb lc e l le =
    let len_is : len ≡ length (release_text a b c) = l ∙ sym (release_length a b c) in
    rw (e, len_is) (low_bytes (release_text a b c) 8 (release_bytes a b c la lb lc) (omega (arith, len_is, le)))

pub digits_text : (n k len : ℕ) → n < 100 → k ≡ le_value (decimal n) → len ≡ length (decimal n) → len ≤ 2 → take len (to_le_bytes w64 k) ≡ decimal n
digits_text n k len lt e l le = rw (e, l) (low_bytes (decimal n) 8 (decimal_bytes n lt) (omega (arith, l, le)))

-- what goes on with some bytes, goes on with them and more
pub goes_on : (old mid new text : List ℕ) → mid ≡ old ++ text → Extends mid new → Extends old new
goes_on old mid new text e (more, grown) = (text ++ more, grown ∙ ap (λ l. l ++ more) e ∙ append_assoc old text more)

pub as_it_was : (old new : List ℕ) → new ≡ old → Extends old new
as_it_was old new e = ([], e ∙ sym (append-nil old))

pub ruleset extended = (goes_on, as_it_was)

pub cut_back : (old new : List ℕ) (n : ℕ) → n ≡ length old → Extends old new → take n new ≡ old
cut_back old new n e (more, grown) = rw (e, grown) (take-append_seam old more)

pub onward : (old mid new : List ℕ) → Extends old mid → Extends mid new → Extends old new
onward old mid new (more, grown) h = goes_on old mid new more grown h
