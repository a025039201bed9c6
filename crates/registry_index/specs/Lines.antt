-- Statement: what a line of a load says.
use Rattle.std.specs.Prelude.{⊤, ◌≡◌, ◌⊎◌, ◌==◌, Bool, List, length, ℕ}
use Rattle.std.specs.List.{after_first, before_first, position_or_len}
use Rattle.npm_words.specs.VersionText.{IsVersionText}
use Rattle.semver_core.specs.Failures.{NoValue}
use Rattle.semver_core.specs.Keys.{key}
use Rattle.semver_core.specs.Values.Versions.{VersionValue}
use Rattle.semver_core.specs.declared.TheConstants.{MAX_SAFE_INTEGER}
use Rattle.registry_index.specs.declared.trouble.Trouble.{Trouble}
use Rattle.registry_index.specs.declared.trouble.Trouble.TheVariants as trouble

abbrev pub is_tab : ℕ → Bool
is_tab c = c == 9

-- the line has no tab: none comes before its end
abbrev pub HasNoTab : List ℕ → Type 0
HasNoTab line = position_or_len is_tab line ≡ length line

-- the package stands before the first tab
abbrev pub package_in : List ℕ → List ℕ
package_in line = before_first is_tab line

-- the version stands behind it, up to the second tab or the end of the line
abbrev pub version_in : List ℕ → List ℕ
version_in line = before_first is_tab (after_first is_tab line)

-- what belongs to the version stands behind the second tab
abbrev pub rest_in : List ℕ → List ℕ
rest_in line = after_first is_tab (after_first is_tab line)

-- npm reads the text as a version, and the bytes are its key
abbrev pub IsKeyOf : (text bytes : List ℕ) → Type 0
IsKeyOf text bytes = (v : VersionValue) × IsVersionText MAX_SAFE_INTEGER text v × (bytes ≡ key v)

-- a line is refused only if it has no tab, or if npm rejects its version
abbrev pub IsRefused : (line : List ℕ) → Trouble → Type 0
IsRefused line (trouble.Line number why) = HasNoTab line
    ⊎ NoValue (IsVersionText MAX_SAFE_INTEGER (version_in line))
IsRefused line (trouble.Index error) = ⊤
