-- Statement: how node-semver's readings have numbers, pre-releases and build metadata written. In
-- parentheses stand the names of the grammar that node-semver publishes.
use Rattle.std.specs.Prelude.{◌≡◌, ◌==◌, ◌&&◌, ◌||◌, not, ℕ, Bool, true, false, List, [], ◌∷◌, ◌++◌}
use Rattle.std.specs.Prelude.{codes, drop}
use Rattle.std.specs.Char.{is_ascii_alphabetic, is_ascii_digit}
use Rattle.std.specs.List.{list_all}
use Rattle.semver_core.specs.Text.Characters.{begins, is_identifier_char}
use Rattle.semver_core.specs.Text.Identifiers.{Id, IsIdentifiers, pieces}
use Rattle.semver_core.specs.Text.Numbers.{IsNumber}
use Rattle.semver_core.specs.Values.Versions.{VersionValue}

-- the text has more than one character and begins with `0`
abbrev pub has_leading_zero : List ℕ → Bool
has_leading_zero text = elim text [ c ∷ (d ∷ rest) ↦ c == 48 | _ ↦ false ]

-- a number up to the limit, without leading zeros (nr)
abbrev pub IsStrictNumber : ℕ → List ℕ → ℕ → Type 0
IsStrictNumber limit digits n = IsNumber limit digits n × (has_leading_zero digits ≡ false)

-- the identifiers of a strict pre-release: one that is digits alone has no leading zero
abbrev pub is_strict_list : List ℕ → Bool
is_strict_list text = list_all (λ id. not (list_all is_ascii_digit id && has_leading_zero id)) (pieces text)

-- a pre-release may begin so without `-`: with a letter, with a digit behind a wildcard, and else
-- with one before a dot, which the patch number does not take, as `4.5` in `1.2.34.5`, or with a
-- `-` that no identifier follows, as in `1.2.3-`
abbrev pub begins_undashed : Bool → List ℕ → Bool
begins_undashed wild text = begins is_ascii_alphabetic text
    || (begins is_ascii_digit text
    && (wild || begins (λ b. b == 46) (drop 1 text) && begins is_identifier_char (drop 2 text))
    || begins (λ b. b == 45) text && not (begins is_identifier_char (drop 1 text)))

-- a pre-release (pre): `-` and identifiers joined by dots (parts), or nothing; loosely `-` may be
-- absent. `wild` says whether it stands behind a wildcard, and `fits` which texts of identifiers
-- may stand there.
pub data IsPreRelease (loose wild : Bool) (fits : List ℕ → Bool) : List ℕ → List Id → Type 0 where
  no_pre_release : IsPreRelease loose wild fits [] []
  dashed : (text : List ℕ) (list : List Id) → IsIdentifiers text list → fits text ≡ true
      → IsPreRelease loose wild fits (codes "-" ++ text) list
  bare : (text : List ℕ) (list : List Id) → IsIdentifiers text list → fits text ≡ true
      → (loose && begins_undashed wild text) ≡ true → IsPreRelease loose wild fits text list

-- build metadata (build): `+` and identifiers joined by dots, or nothing
pub data IsStrictBuild : List ℕ → List Id → Type 0 where
  no_build : IsStrictBuild [] []
  plus : (text : List ℕ) (list : List Id) → IsIdentifiers text list → IsStrictBuild (codes "+" ++ text) list

-- the whole text is this version, in a reading that has these marks, numbers and pre-releases
pub data IsWritten (Marks : List ℕ → Type 0) (Number : List ℕ → ℕ → Type 0)
    (PreRelease : List ℕ → List Id → Type 0) : List ℕ → VersionValue → Type 0 where
  written : (mark x y z pre build : List ℕ) (v : VersionValue) → Marks mark → Number x v.major
      → Number y v.minor
      → Number z v.patch → PreRelease pre v.pre_release → IsStrictBuild build v.build
      → IsWritten Marks Number PreRelease
      (mark ++ (x ++ (codes "." ++ (y ++ (codes "." ++ (z ++ (pre ++ build))))))) v
