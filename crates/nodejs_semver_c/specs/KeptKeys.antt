-- Statement. What is told of the keys of versions that are kept.
use Rattle.std.specs.Prelude.{◌≡◌, ◌⊎◌, ℕ, List}
use Rattle.semver_core.specs.Keys.{key}
use Rattle.semver_core.specs.Values.Versions.{VersionValue}
use Rattle.nodejs_semver_c.specs.Answers.{Kept, Prints}
use Rattle.nodejs_semver_c.specs.declared.TheConstants.{NO_MEMORY}

-- the key is put in front of a buffer, or is too long for it; or memory is missing, and all is as it was
abbrev pub PrintsKey : VersionValue → (old new : List ℕ) → (len_old len_new status : ℕ) → Type 0
PrintsKey v old new len_old len_new status = Prints (key v) old new len_old len_new status
    ⊎ ((status ≡ NO_MEMORY) × Kept old new len_old len_new)
