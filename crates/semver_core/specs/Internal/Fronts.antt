-- For proofs and private contracts. What is at the front of a text, read from the left: a number, a component of a partial, a list
-- of identifiers, a qualifier.
use Rattle.semver_core.specs.Internal.Reading.{list_len, ◌>>?◌}
use Rattle.semver_core.specs.Lists.{is_empty}
use Rattle.semver_core.specs.Text.Characters.{begins, is_identifier_char}
use Rattle.std.specs.Borrow.{Bor}
use Rattle.std.specs.Char.{is_ascii_digit}
use Rattle.std.specs.List.{list_all, prefix_len}
use Rattle.std.specs.Prelude.{[], Bool, List, None, Option, Some, drop, false, if◌then◌else◌, nat_le, not, take, take_while, ℕ, ◌&&◌, ◌==◌, ◌||◌, ◌∷◌}
use Rattle.std.specs.Str.Parse.{digits_value}

-- `x`, `X` or `*`
abbrev pub is_wildcard : ℕ → Bool
is_wildcard b = b == 120 || b == 88 || b == 42

-- a value and the text behind it
abbrev pub Front : Type 0 → Type 0
Front A = Option (A × List ℕ)

abbrev pub front_view : {A : Type 0} → Option (A × Bor (List ℕ)) → Front A
front_view None = None
front_view (Some p) = Some (p.0, p.1.now)

-- the number that a whole text writes in decimal digits, where it is not above the limit
unfoldable pub number_of : ℕ → List ℕ → Option ℕ
number_of limit text =
    if not (is_empty text) && list_all is_ascii_digit text && nat_le (digits_value 10 text) limit
    then Some (digits_value 10 text) else None

-- what follows a given byte
abbrev pub after_byte : ℕ → List ℕ → Option (List ℕ)
after_byte c [] = None
after_byte c (b ∷ rest) = if b == c then Some rest else None

-- the whole run of digits at the front of a text, where it is a number
abbrev pub number_front : ℕ → List ℕ → Front ℕ
number_front limit text =
    number_of limit (take_while is_ascii_digit text) >>? λ n. Some (n, drop (prefix_len is_ascii_digit text) text)

abbrev pub begins_wildcard : List ℕ → Bool
begins_wildcard text = begins is_wildcard text

-- the text begins with `0` and a digit
abbrev pub begins_padded : List ℕ → Bool
begins_padded [] = false
begins_padded (c ∷ []) = false
begins_padded (c ∷ d ∷ rest) = c == 48 && is_ascii_digit d

-- the number at the front, which may have leading zeros or not
unfoldable pub number_with : Bool → ℕ → List ℕ → Front ℕ
number_with zeros limit text = if not zeros && begins_padded text then None else number_front limit text

-- such a number behind a dot
unfoldable pub dotted_with : Bool → ℕ → List ℕ → Front ℕ
dotted_with zeros limit text = after_byte 46 text >>? λ rest. number_with zeros limit rest

-- a wildcard or a number
unfoldable pub component_front : ℕ → List ℕ → Front (Option ℕ)
component_front limit text =
    if begins_wildcard text then Some (None, drop 1 text) else (number_front limit text >>? λ n. Some (Some n.0, n.1))

-- a wildcard or a number behind a dot
unfoldable pub dotted_front : ℕ → List ℕ → Front (Option ℕ)
dotted_front limit text = after_byte 46 text >>? λ rest. component_front limit rest

abbrev pub begins_identifier : List ℕ → Bool
begins_identifier text = begins is_identifier_char text

abbrev pub split_list : List ℕ → List ℕ × List ℕ
split_list text = (take (list_len text) text, drop (list_len text) text)

-- the identifiers at the front of what stands behind their mark, or nothing of the text
abbrev pub marked_list : List ℕ → List ℕ → List ℕ × List ℕ
marked_list text behind = if begins_identifier behind then split_list behind else ([], text)

abbrev pub begins_byte : ℕ → List ℕ → Bool
begins_byte c text = begins (λ b. b == c) text

-- the text of the pre-release at the front, and what stands behind it
unfoldable pub pre_release_front : List ℕ → List ℕ × List ℕ
pre_release_front text = if begins_byte 45 text then marked_list text (drop 1 text) else marked_list text text

-- the text of the pre-release at the front, which may want its `-` or not, and what stands behind it
unfoldable pub pre_release_with : Bool → List ℕ → List ℕ × List ℕ
pre_release_with dash text = if not dash || begins_byte 45 text then pre_release_front text else ([], text)

-- the text of the build at the front, and what stands behind it
unfoldable pub build_front : List ℕ → List ℕ × List ℕ
build_front text = if begins_byte 43 text then marked_list text (drop 1 text) else ([], text)

-- the text without an optional `v`
abbrev pub drop_v : List ℕ → List ℕ
drop_v [] = []
drop_v (b ∷ rest) = if b == 118 then rest else b ∷ rest
