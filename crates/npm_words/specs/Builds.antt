-- Statement: the text of a build as it is written.
use Rattle.std.specs.Prelude.{◌≡◌, ◌==◌, ℕ, true, List}
use Rattle.std.specs.List.{after_first}
use Rattle.semver_core.specs.Text.Characters.{IsTrim}
use Rattle.semver_core.specs.Text.Identifiers.{is_listed, listed}
use Rattle.semver_core.specs.Values.Versions.{VersionValue}

-- the text is a version, as `Is` has it, and this is its build as it is written: what stands behind
-- the first `+` of the text without the whitespace around it, or nothing. It spells the build of
-- the version.
pub record IsBuildText (Is : List ℕ → VersionValue → Type 0) (text build : List ℕ) : Type 0 where
  pub version : VersionValue
  pub is : Is text version
  pub middle : List ℕ
  pub trimmed : IsTrim text middle
  pub written : build ≡ after_first (λ b. b == 43) middle
  pub identifiers : is_listed build ≡ true
  pub spelled : listed build ≡ version.build
