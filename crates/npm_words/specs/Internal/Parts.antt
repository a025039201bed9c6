-- For proofs and private contracts. The signs and the partial versions of node-semver's range
-- texts, seen without places in memory.
use Rattle.npm_words.specs.Table as Spec
use Rattle.std.specs.Prelude.{◌≡◌, ◌&&◌, [], codes, if◌then◌else◌, nat_le, nat_lt, ℕ, Bool, List, true, false}
use Rattle.std.specs.List.{list_all}
use Rattle.std.specs.Str.{bytes_eq}
use Rattle.semver_core.specs.Printing.RoundTrip.{is_normal}
use Rattle.semver_core.specs.Values.Versions.{VersionValue, release_value}
use Rattle.semver_core.specs.declared.TheConstants.{MAX_SAFE_INTEGER}
use Rattle.semver_pieces.specs.Internal.Views.{comparator_view}
use Rattle.npm_words.specs.Table.{Comparison, caret, compared, major, minor, tilde, whole, wildcard}
use Rattle.npm_words.specs.Table.{written_zeros, zeros}
use Rattle.semver_core.specs.Text.Comparators.{above, below}
use Rattle.npm_words.specs.declared.partial.Partial.{Partial}
use Rattle.npm_words.specs.declared.partial.Partial.TheVariants.{Major, Minor, Whole, Wildcard}
use Rattle.npm_words.specs.declared.partial.Sign.{Sign}
use Rattle.npm_words.specs.declared.partial.Sign.TheVariants.{Caret, Compared, Tilde}

abbrev pub npm_partial_view : Partial → Spec.Partial
npm_partial_view Wildcard = wildcard
npm_partial_view (Major M) = major M
npm_partial_view (Minor M m) = minor M m
npm_partial_view (Whole v) = whole v

abbrev pub npm_sign_view : Sign → Spec.Sign
npm_sign_view (Compared c) = compared (comparator_view c)
npm_sign_view Caret = caret
npm_sign_view Tilde = tilde

-- three numbers, and their release
abbrev pub Numbers : Type 0
Numbers = ℕ × ℕ × ℕ

abbrev pub release : Numbers → VersionValue
release n = release_value n.0 n.1 n.2

-- none of three numbers is past the limit
abbrev pub within : Numbers → Bool
within n = nat_le n.0 MAX_SAFE_INTEGER && nat_le n.1 MAX_SAFE_INTEGER && nat_le n.2 MAX_SAFE_INTEGER

-- the identifiers of a partial are in normal form
abbrev pub are_normal : Spec.Partial → Bool
are_normal (whole v) = list_all is_normal v.pre_release && list_all is_normal v.build
are_normal p = true

-- a word of a wildcard has no comparators, unless its sign is `<` or `>`
abbrev pub is_wildcard : Spec.Partial → Bool
is_wildcard wildcard = true
is_wildcard p = false

abbrev pub has_no_comparators : Spec.Sign → Spec.Partial → Bool
has_no_comparators (compared above) p = false
has_no_comparators (compared below) p = false
has_no_comparators s p = is_wildcard p

-- so many numbers at the front of a partial are written `0` in its text; of a wildcard none counts
abbrev pub AreZeros : Spec.Partial → ℕ → List ℕ → Type 0
AreZeros p z text = is_wildcard p ≡ false → z ≡ written_zeros text

-- a version without its build
abbrev pub no_build : VersionValue → VersionValue
no_build v = record v { build = [] }

-- a number at its front that is 0 is written otherwise
abbrev pub is_padded : ℕ → Spec.Partial → Bool
is_padded z p = nat_lt z (zeros p)

-- a comparator of numbers that are so written
abbrev pub noted : Bool → Comparison → Comparison
noted padded c = if padded && bytes_eq c.text (codes "0.0.0") then record c { text = codes "00.0.0" } else c
