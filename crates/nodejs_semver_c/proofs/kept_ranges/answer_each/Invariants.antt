use Rattle.std.proofs.Common.{◌≡◌, ◌++◌, drop, if◌then◌else◌, map, take}
use Rattle.nodejs_semver.specs.Ranges.Gate.{accepts}
use Rattle.nodejs_semver_c.specs.Kept.{kept_value}
use Rattle.nodejs_semver_c.specs.KeptRanges.{kept_span}
use Rattle.nodejs_semver_c.specs.declared.TheConstants.{ANSWER_NO, ANSWER_YES}
use Rattle.nodejs_semver_c.proofs.kept_ranges.answer_each.Given as goal

-- the versions so far are answered, and what stands behind their answers is as it was
abbrev pub invariant-versions : goal.invariant-versions
invariant-versions l = l.answers ≡ map
    (λ p. if accepts (map kept_span l.range) (kept_value p) l.include_prerelease then ANSWER_YES else ANSWER_NO)
    (take l.at l.versions) ++ drop l.at l.initial.answers
