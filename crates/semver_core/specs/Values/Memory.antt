-- Statement: which versions are made and copied with memory.
use Rattle.std.specs.Prelude.{◌&&◌, ◌||◌, not, Bool, [], ◌∷◌}
use Rattle.std.specs.Ordering.{is_eq}
use Rattle.semver_core.specs.Lists.{is_empty}
use Rattle.semver_core.specs.Text.Identifiers.{Numeric}
use Rattle.semver_core.specs.Values.Order.{pre_cmp}
use Rattle.semver_core.specs.Values.Versions.{VersionValue, is_release}

-- the version has build metadata, or a pre-release other than the number 0 alone
abbrev pub takes_memory : VersionValue → Bool
takes_memory v = not ((is_release v || is_eq (pre_cmp v.pre_release (Numeric 0 ∷ []))) && is_empty v.build)
