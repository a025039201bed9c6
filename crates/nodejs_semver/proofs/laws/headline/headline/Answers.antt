use Rattle.nodejs_semver.proofs.Common.{IfSome, IsLeastOf, List, MAX_SAFE_INTEGER, Span, VersionValue, accepts, false, least_build, rules, subst, ◌≡◌}
use Rattle.nodejs_semver.proofs.Dividing.MeaningLaw.{means_some, same_meaning}
use Rattle.nodejs_semver.proofs.Sets.{both_written, first_written}
use Rattle.nodejs_semver.proofs.laws.headline.headline.Goals as goal

pub returns : goal.returns
returns c =
    let found = c.in_ok-findings_of.ensures in
    let one = c.in_ok-first.ensures in
    let two = c.in_ok-second.ensures in record {
      read = (
        means_some MAX_SAFE_INTEGER c.args.a.now c.in_ok-first.first c.utf8.a one.ok one.some,
        means_some MAX_SAFE_INTEGER c.args.b.now c.in_ok-second.second c.utf8.b two.ok two.some,
      );
      refused = search rules;
      first = λ v. rw found.first (one.set v);
      both = λ v. both_written _ _ _ (found.both v) (one.set v) (two.set v);
      first_alone = λ v. first_written _ _ _ (found.first_alone v) (one.set v) (two.set v);
      least = λ list means. subst (λ (l : List (Span VersionValue)). IsLeastOf (λ v. accepts l v false) c.in_ok-findings_of.field-0.least)
          (same_meaning MAX_SAFE_INTEGER c.args.a.now c.in_ok-first.first list c.utf8.a one.ok means) found.least;
      build = λ list means. subst (λ (l : List (Span VersionValue)). IfSome c.in_ok-findings_of.field-0.least (λ v. v.build ≡ least_build l v))
          (same_meaning MAX_SAFE_INTEGER c.args.a.now c.in_ok-first.first list c.utf8.a one.ok means) found.build;
    }
