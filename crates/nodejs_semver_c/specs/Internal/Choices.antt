-- The best of some versions and its place, as more of them are read.
use Rattle.std.specs.Prelude.{Bool, ℕ, List, Option, Some, None, ⊤}
use Rattle.std.specs.Ordering.{is_le, is_lt}
use Rattle.semver_core.specs.Cuts.{Span}
use Rattle.semver_core.specs.Values.Order.{precedence}
use Rattle.semver_core.specs.Values.Versions.{VersionValue}
use Rattle.nodejs_semver.specs.Ranges.Best.{IsMax, IsMin}
use Rattle.nodejs_semver.specs.Ranges.Gate.{accepts}
use Rattle.nodejs_semver_c.specs.Lists.{StandsAt}
use Rattle.nodejs_semver_c.specs.declared.choices.Best.{Best}
use Rattle.nodejs_semver_c.specs.declared.choices.Best.TheVariants.{Max, Min}

-- the best of some versions that a range accepts
abbrev pub IsBestOf : Best → List (Span VersionValue) → Bool → List VersionValue → Option VersionValue → Type 0
IsBestOf Max r include = IsMax (λ v. accepts r v include)
IsBestOf Min r include = IsMin (λ v. accepts r v include)

-- whether a version takes the place of the best so far, if it is accepted
abbrev pub is_beaten : Best → VersionValue → VersionValue → Bool
is_beaten Max best v = is_le (precedence best v)
is_beaten Min best v = is_lt (precedence v best)

-- it stands at this place, if there is one
abbrev pub IsPlace : List VersionValue → Option VersionValue → ℕ → Type 0
IsPlace vs None place = ⊤
IsPlace vs (Some v) place = StandsAt vs v place

abbrev pub IsBestAt : (List VersionValue → Option VersionValue → Type 0) → List VersionValue
    → Option VersionValue → ℕ → Type 0
IsBestAt IsFound vs best place = IsFound vs best × IsPlace vs best place
