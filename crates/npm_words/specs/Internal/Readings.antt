-- For proofs and private contracts. The numbers and pre-releases that node-semver finds in a text,
-- as functions.
use Rattle.std.specs.Prelude.{◌&&◌, not, ℕ, Bool, false, List}
use Rattle.std.specs.Char.{is_ascii_digit}
use Rattle.std.specs.List.{list_all}
use Rattle.semver_core.specs.Text.Identifiers.{Id}
use Rattle.npm_words.specs.Grammar.{IsPreRelease, has_leading_zero, is_strict_list}

-- an identifier of a strict pre-release: if it is digits alone, it has no leading zero
abbrev pub is_strict_identifier : List ℕ → Bool
is_strict_identifier text = not (list_all is_ascii_digit text && has_leading_zero text)

abbrev pub IsStrictPreRelease : List ℕ → List Id → Type 0
IsStrictPreRelease = IsPreRelease false false is_strict_list
