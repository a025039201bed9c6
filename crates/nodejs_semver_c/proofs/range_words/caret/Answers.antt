use Rattle.std.proofs.Common.{arith}
use Rattle.nodejs_semver_c.proofs.RangeWords.{caret_major, caret_minor, caret_patch}
use Rattle.nodejs_semver_c.proofs.range_words.caret.Goals as goal

pub returns-then-major-gt0 : goal.returns-then-major-gt0
returns-then-major-gt0 c =
    let is = c.in_ok-release.ensures in
    rw c.until.ensures (caret_major _ _ c.in_ok-release.release (is.at, is.some, is.rises) (omega (arith, c.if-major-gt0.true)))

pub returns-then-minor-gt0 : goal.returns-then-minor-gt0
returns-then-minor-gt0 c =
    let is = c.in_ok-release.ensures in
    rw c.until-then-minor-gt0.ensures (caret_minor _ _ c.in_ok-release.release (is.at, is.some, is.rises) c.if-include_prerelease.false
    (omega (arith, c.if-major-gt0.false)) (omega (arith, c.if-minor-gt0.true)))

pub returns-else-minor-gt0 : goal.returns-else-minor-gt0
returns-else-minor-gt0 c =
    let is = c.in_ok-release.ensures in
    rw c.until-else-minor-gt0.ensures (caret_patch _ _ c.in_ok-release.release (is.at, is.some, is.rises) c.if-include_prerelease.false
    (omega (arith, c.if-major-gt0.false)) (omega (arith, c.if-minor-gt0.false)))
