-- Serves proofs. Whitespace is told by its code point: the bytes of a character are whitespace where the character is.
use Rattle.semver_core.proofs.Common.{is_whitespace, List, ap, arith, false, inl, inr, refl, true, ℕ, ◌*◌, ◌++◌, ◌+◌, ◌<◌}
use Rattle.semver_core.proofs.Common.{◌∙◌, ◌∷◌, ◌≡◌, ◌≤◌, nat_tests, cases_lt, lt-ltb, len_utf8, encode_utf8, space_len}
use Rattle.semver_core.proofs.Common.{if◌then◌else◌, ◌%◌, ◌/◌, le-ltb, encode_ascii}
use Rattle.semver_core.specs.Internal.Spaces.{space_len_two, space_len_three, goes_on_with}
use Rattle.std.{proofs.lemmas.Str.len_utf8_ascii, specs.Int.is_in_range}

goes_on : (n : ℕ) → goes_on_with (128 + n % 64) ≡ true
goes_on n = grind (arith, nat_tests)

-- bytes from 128 on
high : (a : ℕ) (rest : List ℕ) → 128 ≤ a → space_len (a ∷ rest) ≡ space_len_two a rest
unfolding space_len
high a rest h = rw (le-ltb a 128 h) refl

not_three : (a b : ℕ) (rest : List ℕ) → is_in_range 0xE0 0xEF a ≡ false → space_len_three a b rest ≡ 0
not_three a b rest h = grind arith

two_bytes : (a b c : ℕ) (rest : List ℕ) → 192 ≤ a → a < 224 → goes_on_with b ≡ true → (a % 32) * 64 + b % 64 ≡ c
    → space_len (a ∷ b ∷ rest) ≡ (if is_whitespace c then 2 else 0)
two_bytes a b c rest l h g e = grind (arith, nat_tests, high, not_three)

three_bytes : (a b c d : ℕ) (rest : List ℕ) → 224 ≤ a → a < 240 → goes_on_with b ≡ true → goes_on_with c ≡ true
    → ((a % 16) * 64 + b % 64) * 64 + c % 64 ≡ d → space_len (a ∷ b ∷ c ∷ rest) ≡ (if is_whitespace d then 3 else 0)
three_bytes a b c d rest l h g k e =
    let not_two : is_in_range 0xC0 0xDF a ≡ false = grind (arith, nat_tests) in
    let first : is_in_range 0xE0 0xEF a ≡ true = grind (arith, nat_tests) in
    high a (b ∷ c ∷ rest) (omega arith) ∙ rw (not_two, first, g, k, e) refl

four_bytes : (a b : ℕ) (rest : List ℕ) → 240 ≤ a → space_len (a ∷ b ∷ rest) ≡ 0
four_bytes a b rest l = grind (arith, nat_tests, high, not_three)

-- a byte inside a character begins none
pub space_len-inside : (b : ℕ) (rest : List ℕ) → 128 ≤ b → b < 192 → space_len (b ∷ rest) ≡ 0
space_len-inside b rest l h = grind (arith, nat_tests, high, not_three)

-- the characters of one byte, of two, of three and of four
pub front_is_first_character : (c : ℕ) (rest : List ℕ) → space_len (encode_utf8 c ++ rest) ≡ (if is_whitespace c then len_utf8 c else 0)
unfolding space_len encode_utf8
front_is_first_character c rest = elim (cases_lt c 128) [
  | inl one ↦ rw (encode_ascii c one, len_utf8_ascii c one, lt-ltb c 128 one) refl
  | inr low ↦ elim (cases_lt c 2048) [
    | inl two ↦
        rw (le-ltb c 128 low, lt-ltb c 2048 two)
        (two_bytes (192 + c / 64) (128 + c % 64) c rest (omega arith) (omega arith) (goes_on c) (omega arith))
    | inr mid ↦ elim (cases_lt c 65536) [
      | inl three ↦
          rw (le-ltb c 128 low, le-ltb c 2048 mid, lt-ltb c 65536 three)
          (three_bytes (224 + c / 4096) (128 + (c / 64) % 64) (128 + c % 64) c rest
          (omega arith) (omega arith) (goes_on (c / 64)) (goes_on c) (omega arith))
      | inr four ↦
          -- whitespace has at most three bytes
          let dark : is_whitespace c ≡ false = grind (arith, nat_tests) in
          rw (dark, le-ltb c 128 low, le-ltb c 2048 mid, le-ltb c 65536 four)
          (four_bytes (240 + c / 262144) (128 + (c / 4096) % 64) ((128 + (c / 64) % 64) ∷ (128 + c % 64) ∷ rest) (omega arith))
    ]
  ]
]

-- what that says of a character that is whitespace, and of one that is not
pub space_len-white : (c : ℕ) (rest : List ℕ) → is_whitespace c ≡ true → space_len (encode_utf8 c ++ rest) ≡ len_utf8 c
space_len-white c rest h = front_is_first_character c rest ∙ ap (λ b. if b then len_utf8 c else 0) h

pub space_len-dark : (c : ℕ) (rest : List ℕ) → is_whitespace c ≡ false → space_len (encode_utf8 c ++ rest) ≡ 0
space_len-dark c rest h = front_is_first_character c rest ∙ ap (λ b. if b then len_utf8 c else 0) h
