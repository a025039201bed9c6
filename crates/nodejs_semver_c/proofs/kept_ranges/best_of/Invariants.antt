use Rattle.std.proofs.Common.{◌≡◌, map, take}
use Rattle.std.specs.Option.{option_copied, option_map}
use Rattle.nodejs_semver_c.specs.Internal.Choices.{IsBestAt, IsBestOf}
use Rattle.nodejs_semver_c.specs.Kept.{kept_value}
use Rattle.nodejs_semver_c.specs.KeptRanges.{kept_span}
use Rattle.nodejs_semver_c.proofs.kept_ranges.best_of.Given as goal

-- the best of the versions so far stands at the place
abbrev pub invariant-versions : goal.invariant-versions
invariant-versions l = IsBestAt (IsBestOf l.which (map kept_span l.range) l.include_prerelease) (map kept_value (take l.at l.versions))
    (option_map kept_value (option_copied l.best)) l.place × (l.index ≡ l.initial.index)
