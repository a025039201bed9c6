use Rattle.npm_semver.proofs.LawLemmas.{next_above}
use Rattle.npm_semver.proofs.laws.next_versions.Goals as goal

pub returns : goal.returns
returns c = record {
  above = next_above
      (λ v w word id base plain other is. c.least_increments.ensures.above v w word id base plain (λ e. absurd (other e)) is);
}
