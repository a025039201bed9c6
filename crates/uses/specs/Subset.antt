-- Statement: whether one range accepts all that another accepts.
use Rattle.std.specs.Prelude.{◌≡◌, ℕ, true, false, List, [], Some}
use Rattle.nodejs_semver.specs.Cuts.{Span}
use Rattle.nodejs_semver.specs.Versions.{VersionValue}
use Rattle.nodejs_semver.specs.Ranges.Gate.{accepts}
use Rattle.nodejs_semver.specs.Ranges.Least.{IsLeastOf, beyond}
use Rattle.nodejs_semver.specs.Ranges.View.{TakesMemory}
use Rattle.nodejs_semver.specs.Text.Meaning.{Means}
use Rattle.semver_core.specs.declared.TheConstants.{MAX_SAFE_INTEGER}
use Rattle.uses.specs.declared.subset.Answer.{Answer}
use Rattle.uses.specs.declared.subset.Answer.TheVariants.{Subset, Witness}

-- reading the text as a range takes memory
abbrev pub TakesReading : List ℕ → Type 0
TakesReading text = (r : List (Span VersionValue)) → Means MAX_SAFE_INTEGER text r → TakesMemory r

-- the second accepts what the first accepts; or this is the least version that the first accepts
-- and the second does not, without build metadata
abbrev pub IsAnswer : List (Span VersionValue) → List (Span VersionValue) → Answer → Type 0
IsAnswer r s Subset = (v : VersionValue) → accepts r v false ≡ true → accepts s v false ≡ true
IsAnswer r s (Witness w) = (accepts r w false ≡ true) × (accepts s w false ≡ false)
    × IsLeastOf (beyond r s) (Some w) × (w.build ≡ [])
