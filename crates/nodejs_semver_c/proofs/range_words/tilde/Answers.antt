use Rattle.nodejs_semver_c.proofs.RangeWords.{tilde_text}
use Rattle.nodejs_semver_c.proofs.range_words.tilde.Goals as goal

pub returns : goal.returns
returns c =
    let is = c.in_ok-release.ensures in rw c.until.ensures (tilde_text _ _ c.in_ok-release.release (is.at, is.some, is.rises))
