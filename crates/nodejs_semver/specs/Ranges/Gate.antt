-- Statement: which versions a range accepts.
use Rattle.std.specs.Prelude.{Bool, ◌&&◌, ◌||◌, List}
use Rattle.std.specs.List.{list_any}
use Rattle.semver_core.specs.Cuts.{Span, holds}
use Rattle.semver_core.specs.Values.Order.{precedence}
use Rattle.semver_core.specs.Values.Versions.{VersionValue}
use Rattle.semver_core.specs.Values.Gate.{lets_in}

-- some one span holds v and lets it in; where pre-releases are included it only has to hold v
abbrev pub accepts : List (Span VersionValue) → VersionValue → Bool → Bool
accepts ss v include = list_any (λ s. holds precedence s v && (include || lets_in s v)) ss
