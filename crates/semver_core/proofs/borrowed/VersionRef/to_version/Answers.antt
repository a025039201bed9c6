use Rattle.semver_core.proofs.{Common.{VersionValue, ap, ◌∙◌}, Text.Listed.listed_empty}
use Rattle.semver_core.proofs.borrowed.VersionRef.to_version.Goals as goal

pub returns-clause-zero : goal.returns-clause-zero
returns-clause-zero c = λ zero none.
    c.from_texts.ensures.zero (ap (λ (v : VersionValue). v.pre_release) c.self.view_is ∙ zero)
    (listed_empty c.self.inside.build.now (ap (λ (v : VersionValue). v.build) c.self.view_is ∙ none))
