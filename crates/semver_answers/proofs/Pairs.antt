-- What two intervals have in common.
use Rattle.std.specs.Prelude.{◌≡◌, ◌∷◌, ◌++◌, [], Bool, None, Some, false, true, if◌then◌else◌}
use Rattle.std.proofs.Common.{refl}
use Rattle.std.specs.Option.{is_some, option_to_list}
use Rattle.semver_core.specs.Cuts.{Span, greater_lower, is_interval, lesser_upper, meet}
use Rattle.semver_core.specs.Lists.{if_any}
use Rattle.semver_core.specs.Values.Order.{precedence}
use Rattle.semver_core.specs.Values.Versions.{VersionValue}
use Rattle.semver_answers.specs.Internal.Parts.{combined}
use Rattle.semver_answers.specs.declared.parts.Combination.TheVariants.{Intersection}

-- the greater lower bound and the lesser upper bound
abbrev pub common : (s t : Span VersionValue) → Span VersionValue
common s t = record { lower = greater_lower precedence s.lower t.lower; upper = lesser_upper precedence s.upper t.upper }

alone : {A : Type 0} (b : Bool) (x : A) → if_any ((option_to_list (if b then Some x else None) ++ []) ++ [])
    ≡ (if is_some (if b then Some x else None) then Some (x ∷ []) else None)
alone true x = refl
alone false x = refl

pub in_common : (s t : Span VersionValue) → combined Intersection (s ∷ []) (t ∷ [])
    ≡ (if is_some (meet precedence s t) then Some (common s t ∷ []) else None)
in_common s t = alone (is_interval precedence (common s t)) (common s t)
