-- Statement. The common version texts, which the fast reader returns: a division of `Reads`
-- with `v` or nothing as its mark, without whitespace, and with nothing left over.
use Rattle.std.specs.Prelude.{◌≡◌, ◌≤◌, ℕ, List, [], codes, drop, length}
use Rattle.semver_core.specs.Text.VersionText.{Reads}
use Rattle.semver_core.specs.Values.Versions.{VersionValue}

-- the whole text is this version, behind `v` or nothing
abbrev pub IsCommon : ℕ → List ℕ → VersionValue → Type 0
IsCommon limit text v = (r : Reads limit text v) × (r.mark ≡ codes "V" → ⊥) × (r.blank ≡ []) × (r.rest ≡ [])

-- the text begins with this version, behind `v` or nothing, and this is the place behind it
abbrev pub IsCommonFront : ℕ → List ℕ → VersionValue → ℕ → Type 0
IsCommonFront limit text v end = (r : Reads limit text v) × (r.mark ≡ codes "V" → ⊥) × (r.blank ≡ [])
    × (r.rest ≡ drop end text) × (end ≤ length text)
