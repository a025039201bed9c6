-- Statement. What is told of the next version of one that is kept.
use Rattle.std.specs.Prelude.{◌≡◌, ◌||◌, ◌⊎◌, Bool, ℕ, List, IfOk, Option, Some, None, Result, Ok, true}
use Rattle.semver_core.specs.Increments.Table.{Fault}
use Rattle.semver_core.specs.Lists.{is_empty}
use Rattle.semver_core.specs.Printing.RoundTrip.{is_normal}
use Rattle.semver_core.specs.Text.Identifiers.{AlphaNumeric}
use Rattle.semver_core.specs.Values.Versions.{VersionValue}
use Rattle.semver_core.specs.declared.increment.IdentifierBase.{IdentifierBase}
use Rattle.nodejs_semver_c.specs.Answers.{FailsBy}
use Rattle.nodejs_semver_c.specs.Kept.{ComesBack, PutsVersion}
use Rattle.nodejs_semver_c.specs.declared.kept.Parts.{Parts}
use Rattle.nodejs_semver_c.specs.declared.TheConstants.{BAD_ARGUMENT}

-- the identifier is none, or one that its own text spells: no number, and none of several joined by dots
abbrev pub is_single : List ℕ → Bool
is_single id = is_empty id || is_normal (AlphaNumeric id)

-- the next version is told, or the status says why there is none
abbrev pub TellsResult : Result VersionValue Fault → (told_old told_new : Parts)
    → (old new : List ℕ) → ℕ → Type 0
TellsResult answer told_old told_new old new status =
    ((v : VersionValue) × (answer ≡ Ok v) × PutsVersion v told_old told_new old new status)
    ⊎ (FailsBy answer status × (told_new ≡ told_old) × (new ≡ old))

-- the same by a base, if there is one
abbrev pub TellsByBase : (IdentifierBase → Result VersionValue Fault) → Option IdentifierBase
    → (told_old told_new : Parts) → (old new : List ℕ) → ℕ → Type 0
TellsByBase next (Some base) told_old told_new old new status =
    TellsResult (next base) told_old told_new old new status
TellsByBase next None told_old told_new old new status =
    (status ≡ BAD_ARGUMENT) × (told_new ≡ told_old) × (new ≡ old)

-- and what is told leads back to the version if the identifier is single, by whatever base
abbrev pub TellsNext : (id : List ℕ) → (IdentifierBase → Result VersionValue Fault) → Option IdentifierBase
    → (told_old told_new : Parts) → (old new : List ℕ) → ℕ → Type 0
TellsNext id next base told_old told_new old new status =
    TellsByBase next base told_old told_new old new status
    × (is_single id ≡ true → (b : IdentifierBase) → IfOk (next b) ComesBack)
