-- Statement. Versions that are found in texts of other forms, and builds as they are written.
use Rattle.std.specs.Prelude.{◌≡◌, ◌⊎◌, Bool, ℕ, List, [], IsUtf8}
use Rattle.npm_words.specs.Builds.{IsBuildText}
use Rattle.npm_words.specs.VersionText.{IsVersionTextIn}
use Rattle.semver_core.specs.Failures.{NoValue}
use Rattle.semver_core.specs.Printing.Text.{version_text}
use Rattle.semver_core.specs.Values.Versions.{VersionValue}
use Rattle.semver_core.specs.declared.TheConstants.{MAX_SAFE_INTEGER}
use Rattle.nodejs_semver_c.specs.Answers.{RefusesText}
use Rattle.nodejs_semver_c.specs.declared.TheConstants.{BAD_VERSION}

-- an answer about the version that a text has in this form; or the text is rejected, with this status
-- if it has no such version, and all is as it was
abbrev pub OnForm : ℕ → (List ℕ → VersionValue → Type 0) → List ℕ → ℕ → Type 0 → (VersionValue → Type 0)
    → Type 0
OnForm none Is bytes status Same Answer = ((v : VersionValue) × IsUtf8 bytes × Is bytes v × Answer v)
    ⊎ ((RefusesText bytes status ⊎ ((status ≡ none) × IsUtf8 bytes × NoValue (Is bytes))) × Same)

-- an answer about the build of a version text as it is written; or the text is rejected, and all is
-- as it was
abbrev pub OnBuild : Bool → List ℕ → ℕ → Type 0 → (List ℕ → Type 0) → Type 0
OnBuild loose bytes status Same Answer = let Is = IsVersionTextIn loose MAX_SAFE_INTEGER in
    ((build : List ℕ) × IsUtf8 bytes × IsBuildText Is bytes build × Answer build)
    ⊎ ((RefusesText bytes status ⊎ ((status ≡ BAD_VERSION) × IsUtf8 bytes × NoValue (Is bytes))) × Same)

-- the text of a version without its build
abbrev pub released_text : VersionValue → List ℕ
released_text v = version_text (record v { build = [] })
