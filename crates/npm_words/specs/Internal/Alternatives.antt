-- For proofs and private contracts. An alternative with the comparators of one more word.
use Rattle.std.specs.Prelude.{Option, Some, None}
use Rattle.semver_core.specs.Cuts.{Span, meet}
use Rattle.semver_core.specs.Values.Order.{precedence}
use Rattle.semver_core.specs.Values.Versions.{VersionValue}

-- what two intervals have in common that there may not be
abbrev pub met : Option (Span VersionValue) → Option (Span VersionValue) → Option (Span VersionValue)
met None o = None
met (Some s) None = None
met (Some s) (Some t) = meet precedence s t
