use Rattle.nodejs_semver.proofs.Common.{None, Some, Span, VersionValue, ap, is_eq, precedence_total, refl, span_of, sym, tied_itself, ◌∙◌, ◌≡◌}
use Rattle.nodejs_semver.{proofs.Questions.Index.{equal_is, say_named, say_plain}, specs.Internal.Index.{Indexed, entries_cover, named}}
use Rattle.std.proofs.lemmas.Cmp.{tied_back}
use Rattle.nodejs_semver.specs.Internal.Candidates as candidate
use Rattle.nodejs_semver.proofs.range.index.Index.say_all.Goals as goal

pub returns-in-None-None : goal.returns-in-None-None
returns-in-None-None g c = λ ss h.
    let t : Span VersionValue = span_of g.V.Versioned.value c.args.other.now in
    let lower : named t.lower ≡ None = sym (rw c.lower.ensures.value at c.named.ensures) ∙ c.in-None-None.is-0 in
    let upper : named t.upper ≡ None = sym (rw c.upper.ensures at c.named-2.ensures) ∙ c.in-None-None.is-1 in
    (rw c.release.ensures at c.cover.ensures) ∙ ap (λ (i : Indexed). entries_cover i.0 candidate.zero t) c.self.view_is
    ∙ say_plain t ss c.args.self.now h lower upper

pub returns-then-is_eq : goal.returns-then-is_eq
returns-then-is_eq g c = λ ss h.
    let t : Span VersionValue = span_of g.V.Versioned.value c.args.other.now in
    let lower : named t.lower ≡ Some c.in-Some-Some.numbers = sym (rw c.lower.ensures.value at c.named.ensures) ∙ c.in-Some-Some.is-0 in
    let upper : named t.upper ≡ Some c.in-Some-Some.others = sym (rw c.upper.ensures at c.named-2.ensures) ∙ c.in-Some-Some.is-1 in
    c.cover-then-is_eq.ensures ∙ ap (λ (i : Indexed). entries_cover i.1 c.in-Some-Some.numbers t) c.self.view_is
    ∙ say_named t ss c.args.self.now h c.in-Some-Some.numbers (Some c.in-Some-Some.numbers) (Some c.in-Some-Some.others) lower upper refl
    (tied_itself precedence_total c.in-Some-Some.numbers) (tied_back precedence_total c.in-Some-Some.numbers c.in-Some-Some.others
    (equal_is _ (ap is_eq (sym c.cmp_precedence.ensures) ∙ sym c.is_eq.ensures ∙ c.if-is_eq.true)))

pub returns-in-Some-None : goal.returns-in-Some-None
returns-in-Some-None g c = λ ss h.
    let t : Span VersionValue = span_of g.V.Versioned.value c.args.other.now in
    let lower : named t.lower ≡ Some c.in-Some-None.numbers = sym (rw c.lower.ensures.value at c.named.ensures) ∙ c.in-Some-None.is-0 in
    let upper : named t.upper ≡ None = sym (rw c.upper.ensures at c.named-2.ensures) ∙ c.in-Some-None.is-1 in
    c.cover-in-Some-None.ensures ∙ ap (λ (i : Indexed). entries_cover i.1 c.in-Some-None.numbers t) c.self.view_is
    ∙ say_named t ss c.args.self.now h c.in-Some-None.numbers (Some c.in-Some-None.numbers) None lower upper refl
    (tied_itself precedence_total c.in-Some-None.numbers) tt

pub returns-in-None-Some : goal.returns-in-None-Some
returns-in-None-Some g c = λ ss h.
    let t : Span VersionValue = span_of g.V.Versioned.value c.args.other.now in
    let lower : named t.lower ≡ None = sym (rw c.lower.ensures.value at c.named.ensures) ∙ c.in-None-Some.is-0 in
    let upper : named t.upper ≡ Some c.in-None-Some.numbers = sym (rw c.upper.ensures at c.named-2.ensures) ∙ c.in-None-Some.is-1 in
    c.cover-in-None-Some.ensures ∙ ap (λ (i : Indexed). entries_cover i.1 c.in-None-Some.numbers t) c.self.view_is
    ∙ say_named t ss c.args.self.now h c.in-None-Some.numbers None (Some c.in-None-Some.numbers) lower upper refl tt
    (tied_itself precedence_total c.in-None-Some.numbers)
