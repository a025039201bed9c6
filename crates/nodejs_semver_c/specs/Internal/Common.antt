-- For proofs and private contracts. Common texts of versions.
use Rattle.std.specs.Prelude.{◌≡◌, ◌≤◌, ◌++◌, ◌∷◌, Bool, IsUtf8, List, [], Ok, Some, ℕ, false, length, true}
use Rattle.semver_core.specs.Internal.Fronts.{dotted_with, number_with}
use Rattle.nodejs_semver.specs.Text.Meaning.{Means}
use Rattle.npm_reading.specs.Ranges.{IsRangeIn}
use Rattle.semver_core.specs.Cuts.{Span}
use Rattle.semver_core.specs.Increments.Table.{answer_of_inc}
use Rattle.semver_core.specs.Printing.Text.{version_text}
use Rattle.semver_core.specs.Text.Identifiers.{is_listed, listed}
use Rattle.semver_core.specs.Text.Parsing.{Parses}
use Rattle.semver_core.specs.Text.VersionText.{IsBuild, IsPreRelease}
use Rattle.semver_core.specs.declared.increment.IdentifierBase.{IdentifierBase}
use Rattle.semver_core.specs.declared.TheConstants.{MAX_LENGTH, MAX_SAFE_INTEGER}
use Rattle.semver_core.specs.Values.Versions.{VersionValue}
use Rattle.npm_words.specs.VersionText.{IsVersionTextIn}
use Rattle.nodejs_semver_c.specs.Kept.{kept_value}
use Rattle.nodejs_semver_c.specs.declared.kept.Version.{Version}

-- what follows the numbers is a pre-release and a build of these texts
abbrev pub AreLists : (text pre build : List ℕ) → Type 0
AreLists text pre build = (p b : List ℕ) × (text ≡ p ++ b) × IsPreRelease p b (listed pre)
    × IsBuild b [] (listed build) × (is_listed pre ≡ true) × (is_listed build ≡ true)

-- a release is at the front of the text, written without leading zeros, and this behind it
abbrev pub IsReleaseAt : List ℕ → Version → List ℕ → Type 0
IsReleaseAt text p rest = (length text ≤ MAX_LENGTH) × (p.pre_release.now ≡ []) × (p.build.now ≡ []) × (r s : List ℕ)
    × (number_with false MAX_SAFE_INTEGER text ≡ Some (p.major, r))
    × (dotted_with false MAX_SAFE_INTEGER r ≡ Some (p.minor, s))
    × (dotted_with false MAX_SAFE_INTEGER s ≡ Some (p.patch, rest))

-- the text is UTF-8 and read as this version, with nothing left over
abbrev pub IsCommonText : List ℕ → Version → Type 0
IsCommonText text p = IsUtf8 text × Parses MAX_SAFE_INTEGER text (kept_value p)
    × (is_listed p.pre_release.now ≡ true) × (is_listed p.build.now ≡ true)

-- the text is UTF-8, in each reading it is this version, and the version prints as it
abbrev pub IsReleaseText : List ℕ → Version → Type 0
IsReleaseText text p = IsUtf8 text × Parses MAX_SAFE_INTEGER text (kept_value p)
    × ((loose : Bool) → IsVersionTextIn loose MAX_SAFE_INTEGER text (kept_value p)) × (version_text (kept_value p) ≡ text)
    × (is_listed p.pre_release.now ≡ true) × (is_listed p.build.now ≡ true)

-- the word, and the next release by it, whatever the identifier and the base are
abbrev pub IsNextRelease : Version → List ℕ → Version → Type 0
IsNextRelease p word next = IsUtf8 word × (next.pre_release.now ≡ []) × (next.build.now ≡ p.build.now)
    × ((id : List ℕ) (base : IdentifierBase)
    → answer_of_inc (kept_value p) word (Some id) (Some base) ≡ Ok (kept_value next))

-- the text is UTF-8, and this interval alone in the port's reading and in npm's strict one
abbrev pub IsWordText : Bool → List ℕ → Span VersionValue → Type 0
IsWordText include text s = IsUtf8 text × Means MAX_SAFE_INTEGER text (s ∷ [])
    × IsRangeIn false MAX_SAFE_INTEGER include text (s ∷ [])
