use Rattle.nodejs_semver.proofs.Common.{Err, Failure, IsTrue, IsUtf8, List, MAX_SAFE_INTEGER, Means, MemoryOnlyIf, Span}
use Rattle.nodejs_semver.proofs.Common.{VersionValue, Writes, [], arith, length, subst, ℕ, ◌<◌, ◌↔◌, ◌∷◌}
use Rattle.semver_core.specs.{Failures.{RefusedOnlyIf}, declared.error.SemverError.{SemverError}}
use Rattle.nodejs_semver.proofs.Dividing.MeaningLaw.{same_meaning}
use Rattle.nodejs_semver.proofs.laws.program.membership.Goals as goal

-- a text that means one interval is read
one-is-read : (A : Type 0) (limit : ℕ) (text : List ℕ) (s : Span VersionValue) → IsUtf8 text → Means limit text (s ∷ [])
    → (e : Failure SemverError) → RefusedOnlyIf {A = A} (Err e) (Means limit text [])
    → MemoryOnlyIf {A = A} (Err e) ((r : List (Span VersionValue)) → Means limit text r → 1 < length r) → ⊥
one-is-read A limit text s u m e r h = grind (arith, same_meaning limit text (s ∷ []) [] u m)

pub returns-in_err-range-clause-answered : goal.returns-in_err-range-clause-answered
returns-in_err-range-clause-answered c = λ s w m p.
    absurd (one-is-read VersionValue MAX_SAFE_INTEGER c.args.a.now s c.utf8.a m c.in_err-range.field-0.0 c.in_err-range.ensures.refused c.in_err-range.ensures.memory)

pub returns-in_err-version-clause-answered : goal.returns-in_err-version-clause-answered
returns-in_err-version-clause-answered c = λ s w m p. absurd (c.in_err-version.ensures.refused w p)

pub returns-clause-member : goal.returns-clause-member
returns-clause-member c = λ w p.
    let same = c.one_reading.ensures MAX_SAFE_INTEGER c.in_ok-version.version w c.in_ok-version.ensures.ok.reads p.reads in
    subst (λ (x : VersionValue). IsTrue c.satisfies_with_prerelease.result ↔ Writes MAX_SAFE_INTEGER c.args.a.now x) same
    (rw c.satisfies_with_prerelease.ensures.gate (c.in_ok-range.ensures.set _))
