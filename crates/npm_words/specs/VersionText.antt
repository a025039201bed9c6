-- Statement: the version texts of node-semver's strict reading, its default, and of its loose one.
use Rattle.std.specs.Prelude.{◌≡◌, ◌⊎◌, ◌≤◌, ℕ, Bool, true, false, List, [], codes, drop, length}
use Rattle.std.specs.List.{prefix_len}
use Rattle.std.specs.Str.{chars}
use Rattle.semver_core.specs.Text.Characters.{IsTrim}
use Rattle.semver_core.specs.Text.Numbers.{IsNumber}
use Rattle.semver_core.specs.Values.Versions.{VersionValue}
use Rattle.semver_core.specs.declared.TheConstants.{MAX_LENGTH}
use Rattle.npm_words.specs.Grammar.{IsPreRelease, IsStrictNumber, IsWritten, is_strict_list}
use Rattle.npm_words.specs.Malformed.{is_mark}
use Rattle.npm_words.specs.RangeText.{AreMarks}

-- strict: one `v` or none, no leading zeros, `-` before the pre-release
abbrev pub IsStrictVersion : ℕ → List ℕ → VersionValue → Type 0
IsStrictVersion limit = IsWritten (λ mark. (mark ≡ []) ⊎ (mark ≡ codes "v")) (IsStrictNumber limit)
    (IsPreRelease false false is_strict_list)

-- loose: any of `v`, `=` and whitespace, leading zeros, and a pre-release without `-`
abbrev pub IsLooseVersion : ℕ → List ℕ → VersionValue → Type 0
IsLooseVersion limit = IsWritten AreMarks (IsNumber limit) (IsPreRelease true false (λ ids. true))

-- the text, of at most 256 characters with the whitespace around it, is this version. (node-semver
-- counts UTF-16 units. A character that is two of them stands in no version text.)
abbrev pub IsWhole : (List ℕ → VersionValue → Type 0) → List ℕ → VersionValue → Type 0
IsWhole Is text v = (length (chars text) ≤ MAX_LENGTH) × (middle : List ℕ) × IsTrim text middle × Is middle v

abbrev pub IsVersionText : ℕ → List ℕ → VersionValue → Type 0
IsVersionText limit = IsWhole (IsStrictVersion limit)

abbrev pub IsLooseVersionText : ℕ → List ℕ → VersionValue → Type 0
IsLooseVersionText limit = IsWhole (IsLooseVersion limit)

-- the text is this version, read loosely or strictly
abbrev pub IsVersionTextIn : Bool → ℕ → List ℕ → VersionValue → Type 0
IsVersionTextIn loose = elim loose [ false ↦ IsVersionText | true ↦ IsLooseVersionText ]

-- node-semver's `clean`: without the whitespace around it, and without the `v` and `=` then at its
-- front, the text is this version
abbrev pub IsClean : ℕ → List ℕ → VersionValue → Type 0
IsClean limit text v = (middle : List ℕ) × IsTrim text middle
    × IsVersionText limit (drop (prefix_len is_mark middle) middle) v
