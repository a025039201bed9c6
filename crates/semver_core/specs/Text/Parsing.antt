-- Statement. What `parse` reads: a version text of at most 256 bytes.
use Rattle.std.specs.Prelude.{◌≤◌, List, ℕ, length}
use Rattle.semver_core.specs.Text.VersionText.{Reads}
use Rattle.semver_core.specs.Values.Versions.{VersionValue}
use Rattle.semver_core.specs.declared.TheConstants.{MAX_LENGTH}

pub record Parses (limit : ℕ) (text : List ℕ) (v : VersionValue) : Type 0 where
  pub short : length text ≤ MAX_LENGTH
  pub reads : Reads limit text v
