-- For proofs and private contracts: whitespace as the bytes of a text spell it, as functions. They are proved to be about
-- its characters (`front_is_first_character`, `trim_is_middle`).
use Rattle.std.specs.Prelude.{ℕ, zero, suc, ◌+◌, ◌*◌, ◌%◌, ◌&&◌, nat_lt, Bool, true, false, List, [], ◌∷◌, if◌then◌else◌}
use Rattle.std.specs.Int.{is_in_range}
use Rattle.semver_core.specs.Text.Characters.{is_whitespace}
use Rattle.semver_core.specs.Lists.{is_empty}

-- a byte that goes on with a character
abbrev pub goes_on_with : ℕ → Bool
goes_on_with b = is_in_range 0x80 0xBF b

-- whether two bytes spell a whitespace character, and whether three do
abbrev pub is_space_of_two : ℕ → ℕ → Bool
is_space_of_two a b = is_in_range 0xC0 0xDF a && goes_on_with b && is_whitespace ((a % 32) * 64 + b % 64)

abbrev pub is_space_of_three : ℕ → ℕ → ℕ → Bool
is_space_of_three a b c =
    is_in_range 0xE0 0xEF a && goes_on_with b && goes_on_with c && is_whitespace (((a % 16) * 64 + b % 64) * 64 + c % 64)

-- how many bytes the whitespace character at the front of a text takes, and 0 where none stands there
abbrev pub space_len_three : ℕ → ℕ → List ℕ → ℕ
space_len_three a b [] = 0
space_len_three a b (c ∷ rest) = if is_space_of_three a b c then 3 else 0

abbrev pub space_len_two : ℕ → List ℕ → ℕ
space_len_two a [] = 0
space_len_two a (b ∷ rest) = if is_space_of_two a b then 2 else space_len_three a b rest

unfoldable pub space_len : List ℕ → ℕ
space_len [] = 0
space_len (a ∷ rest) = if nat_lt a 0x80 then (if is_whitespace a then 1 else 0) else space_len_two a rest

-- the text behind the whitespace at its front. The number counts bytes that still belong to a whitespace character.
unfoldable pub after_spaces : ℕ → List ℕ → List ℕ
after_spaces n [] = []
after_spaces (suc n) (b ∷ rest) = after_spaces n rest
after_spaces zero (b ∷ rest) = elim (space_len (b ∷ rest)) [ zero ↦ b ∷ rest | suc n ↦ after_spaces n rest ]

abbrev pub drop_spaces : List ℕ → List ℕ
drop_spaces text = after_spaces 0 text

-- the text before the whitespace at its end
unfoldable pub drop_end_spaces : List ℕ → List ℕ
drop_end_spaces [] = []
drop_end_spaces (b ∷ rest) = elim (is_empty (drop_spaces (b ∷ rest))) [ true ↦ [] | false ↦ b ∷ drop_end_spaces rest ]

-- the text without the whitespace at its front and at its end
abbrev pub trim : List ℕ → List ℕ
trim text = drop_end_spaces (drop_spaces text)
