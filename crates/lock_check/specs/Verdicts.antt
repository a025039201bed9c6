-- Statement: what a range says of a version, and the text of a range of the text of a locked
-- version.
use Rattle.std.specs.Prelude.{◌≡◌, ℕ, true, false, List, IfSome}
use Rattle.nodejs_semver.specs.Cuts.{Span}
use Rattle.nodejs_semver.specs.Versions.{VersionValue}
use Rattle.nodejs_semver.specs.Failures.{NoValue}
use Rattle.npm_words.specs.VersionText.{IsLooseVersionText}
use Rattle.nodejs_semver.specs.Ranges.Gate.{accepts}
use Rattle.nodejs_semver.specs.Ranges.Least.{IsLeastOf, least_build}
use Rattle.semver_core.specs.declared.TheConstants.{MAX_SAFE_INTEGER}
use Rattle.lock_check.specs.Readings.{IsNotWanted, IsUnknown, IsWanted}
use Rattle.lock_check.specs.declared.verdict.Judgement.{Judgement}
use Rattle.lock_check.specs.declared.verdict.Judgement.TheVariants.{NoRange, NoVersion, Read, Unsure}
use Rattle.lock_check.specs.declared.verdict.Verdict.{Verdict}
use Rattle.lock_check.specs.declared.verdict.Verdict.TheVariants.{Accepted, Rejected}

-- the range accepts the version; or it does not, and that is the least version that it accepts,
-- with the build of the bound from which it comes, None if it accepts none
abbrev pub IsVerdict : List (Span VersionValue) → VersionValue → Verdict → Type 0
IsVerdict r v Accepted = accepts r v false ≡ true
IsVerdict r v (Rejected least) = (accepts r v false ≡ false) × IsLeastOf (λ w. accepts r w false) least
    × IfSome least (λ w. w.build ≡ least_build r w)

-- the first text is a range to npm and the second one a version, of which that is the verdict; or
-- one of them is none, or it is unknown what the first is to npm
abbrev pub IsJudgement : List ℕ → List ℕ → Judgement → Type 0
IsJudgement wanted locked NoRange = IsNotWanted MAX_SAFE_INTEGER wanted
IsJudgement wanted locked Unsure = IsUnknown MAX_SAFE_INTEGER wanted
IsJudgement wanted locked NoVersion = (r : List (Span VersionValue)) × IsWanted MAX_SAFE_INTEGER wanted r
    × NoValue (IsLooseVersionText MAX_SAFE_INTEGER locked)
IsJudgement wanted locked (Read told) = (r : List (Span VersionValue)) × (v : VersionValue)
    × IsWanted MAX_SAFE_INTEGER wanted r × IsLooseVersionText MAX_SAFE_INTEGER locked v × IsVerdict r v told
