-- Statement: a range that is made simple for some versions.
use Rattle.std.specs.Prelude.{false, List, [], ◌∷◌, filter, if◌then◌else◌}
use Rattle.std.specs.List.{list_any}
use Rattle.semver_core.specs.Cuts.{Span}
use Rattle.semver_core.specs.Lists.{is_empty}
use Rattle.semver_core.specs.Values.Versions.{VersionValue}
use Rattle.nodejs_semver.specs.Ranges.Gate.{accepts}

-- the spans that accept one of the versions, and all spans where none does
abbrev pub simplified : List VersionValue → List (Span VersionValue) → List (Span VersionValue)
simplified vs ss = let used = filter (λ s. list_any (λ v. accepts (s ∷ []) v false) vs) ss in
    if is_empty used then ss else used
