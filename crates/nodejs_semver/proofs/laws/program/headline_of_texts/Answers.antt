use Rattle.nodejs_semver.proofs.Common.{IfSome, IsLeastOf, IsTrue, List, MAX_SAFE_INTEGER, Span, VersionValue, Writes, accepts, false, least_build}
use Rattle.nodejs_semver.proofs.{Common.{subst, ◌↔◌, ◌≡◌}, Dividing.MeaningLaw.{means_some, same_meaning}}
use Rattle.nodejs_semver.proofs.Sets.{both_written, first_written}
use Rattle.nodejs_semver.proofs.Common.{Failure, IfOk-weaker, OnOk, Result, arith}
use Rattle.semver_core.specs.{Failures.{RefusedOnlyIf}, Text.Parsing.{Parses}}
use Rattle.nodejs_semver.proofs.laws.program.headline_of_texts.Goals as goal

on_ok : {A E P : Type 0} (r : Result A E) → P → OnOk r P
on_ok r p = grind arith

never_refused : {A E : Type 0} (P : Type 0) (r : Result A (Failure E)) → RefusedOnlyIf r ⊥ → RefusedOnlyIf r P
never_refused P r h = grind arith

pub returns : goal.returns
returns c =
    let a = c.args.a.now in
    let b = c.args.b.now in
    let r = c.findings_at.result in
    let found = c.findings_at.ensures in
    let one = c.in_ok-first.ensures in
    let two = c.in_ok-second.ensures in
    let same = λ (w : VersionValue) (p : Parses MAX_SAFE_INTEGER c.args.v.now w).
    c.one_reading.ensures MAX_SAFE_INTEGER c.in_ok-version.version w c.in_ok-version.ensures.ok.reads p.reads in record {
      read = on_ok r (
        means_some MAX_SAFE_INTEGER a c.in_ok-first.first c.utf8.a one.ok one.some,
        means_some MAX_SAFE_INTEGER b c.in_ok-second.second c.utf8.b two.ok two.some,
        (c.in_ok-version.version, c.in_ok-version.ensures.ok),
      );
      refused = never_refused _ r found.refused;
      first = IfOk-weaker r _ _ (λ x said w p. subst (λ (v : VersionValue). IsTrue x.in_first ↔ Writes MAX_SAFE_INTEGER a v) (same w p)
          (rw said (one.set _))) found.first;
      both = IfOk-weaker r _ _ (λ x said w p. subst (λ (v : VersionValue). IsTrue x.in_both ↔ (Writes MAX_SAFE_INTEGER a v × Writes MAX_SAFE_INTEGER b v))
          (same w p) (both_written _ _ _ said (one.set _) (two.set _))) found.both;
      first_alone = IfOk-weaker r _ _ (λ x said w p. subst (λ (v : VersionValue). IsTrue x.in_first_alone ↔ (Writes MAX_SAFE_INTEGER a v × (Writes MAX_SAFE_INTEGER b v → ⊥)))
          (same w p) (first_written _ _ _ said (one.set _) (two.set _))) found.first_alone;
      least = IfOk-weaker r _ _ (λ x said list means. subst (λ (l : List (Span VersionValue)). IsLeastOf (λ w. accepts l w false) x.least)
          (same_meaning MAX_SAFE_INTEGER a c.in_ok-first.first list c.utf8.a one.ok means) said) found.least;
      build = IfOk-weaker r _ _ (λ x said list means. subst (λ (l : List (Span VersionValue)). IfSome x.least (λ w. w.build ≡ least_build l w))
          (same_meaning MAX_SAFE_INTEGER a c.in_ok-first.first list c.utf8.a one.ok means) said) found.build;
    }
