-- Statement: identifiers, and lists of them joined by dots.
use Rattle.std.specs.Prelude.{◌≡◌, ◌==◌, ◌&&◌, ◌||◌, ◌^◌, nat_lt, ℕ, Bool, true, false, if◌then◌else◌, List}
use Rattle.std.specs.Prelude.{[], ◌∷◌, length, map}
use Rattle.std.specs.Char.{is_ascii_digit}
use Rattle.std.specs.List.{list_all, slice_split}
use Rattle.std.specs.Str.Parse.{digits_value}
use Rattle.semver_core.specs.Lists.{is_empty}
use Rattle.semver_core.specs.Text.Characters.{begins, is_identifier_char}

-- an identifier: a number, or a text as its bytes
pub data Id : Type 0 where
  Numeric : ℕ → Id
  AlphaNumeric : List ℕ → Id

-- the text of an identifier: characters of identifiers, one or more
abbrev pub is_identifier : List ℕ → Bool
is_identifier text = nat_lt 0 (length text) && list_all is_identifier_char text

-- the text is digits alone of a value that fits 64 bits
abbrev pub is_u64_text : List ℕ → Bool
is_u64_text text = list_all is_ascii_digit text && nat_lt (digits_value 10 text) (2 ^ 64)

-- the identifier that such a text spells: that number, and else the text
abbrev pub identifier_of : List ℕ → Id
identifier_of text = if is_u64_text text then Numeric (digits_value 10 text) else AlphaNumeric text

-- the pieces of a text between its dots
abbrev pub pieces : List ℕ → List (List ℕ)
pieces text = slice_split (λ c. c == 46) text

-- the text is texts of identifiers joined by dots, which spell these
pub record IsIdentifiers (text : List ℕ) (list : List Id) : Type 0 where
  pub runs : list_all is_identifier (pieces text) ≡ true
  pub spelled : list ≡ map identifier_of (pieces text)

-- the text is empty, or texts of identifiers joined by dots
unfoldable pub is_listed : List ℕ → Bool
is_listed text = is_empty text || list_all is_identifier (pieces text)

-- the identifiers that such a text spells
unfoldable pub listed : List ℕ → List Id
listed text = if is_empty text then [] else map identifier_of (pieces text)

-- an identifier list that ends here would go on with this text
abbrev pub goes_on : List ℕ → Bool
goes_on [] = false
goes_on (c ∷ rest) = is_identifier_char c || (c == 46 && begins is_identifier_char rest)

-- an identifier list, read as long as possible
pub record IsLongestIdentifiers (text rest : List ℕ) (list : List Id) : Type 0 where
  pub identifiers : IsIdentifiers text list
  pub ended : goes_on rest ≡ false
