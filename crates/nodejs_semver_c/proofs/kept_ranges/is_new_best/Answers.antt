use Rattle.std.proofs.Common.{map, refl, sym}
use Rattle.nodejs_semver_c.proofs.Places.{best_more}
use Rattle.nodejs_semver_c.specs.KeptRanges.{kept_span}
use Rattle.nodejs_semver_c.proofs.kept_ranges.is_new_best.Goals as goal

pub returns-then-is_better : goal.returns-then-is_better
returns-then-is_better c = λ list. best_more c.args.which (map kept_span c.args.range.now) c.args.include_prerelease list _ _ _ _ c.is_better.ensures
    (rw (c.if-is_better.true, sym c.is_accepted.ensures) refl)

pub returns-else-is_better : goal.returns-else-is_better
returns-else-is_better c = λ list. best_more c.args.which (map kept_span c.args.range.now) c.args.include_prerelease list _ _ _ _ c.is_better.ensures
    (rw c.if-is_better.false refl)
