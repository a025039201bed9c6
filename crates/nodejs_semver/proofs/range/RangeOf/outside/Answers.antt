use Rattle.nodejs_semver.proofs.Common.{Bool, Higher, Lower, Span, VersionValue, YieldsList-from_slice, Ok, ap, lies_above}
use Rattle.nodejs_semver.proofs.Common.{lies_below, list_all, list_all-map, rules, refl, span_of, sym, tests, ◌∙◌, ◌≡◌}
use Rattle.std.proofs.lemmas.Iterator.Search.{all_from_yields_List}
use Rattle.nodejs_semver.proofs.range.RangeOf.outside.Goals as goal

pub returns-then-accepts : goal.returns-then-accepts
returns-then-accepts g c = rw (sym (rw c.items-intervals.ensures.value at c.accepts.ensures), c.if-accepts.true) refl

pub returns : goal.returns
returns g c =
    let v = g.W.Versioned.value c.args.version.now in
    let value = g.V.Versioned.value in
    let opposite : Span VersionValue → Bool = λ s. elim c.args.direction [ Higher ↦ lies_below s v | Lower ↦ lies_above s v ] in
    let all : c.all.result ≡ list_all opposite c.args.self.now =
    all_from_yields_List (λ s. opposite (span_of value s)) _ _ _ c.all.ensures.ran
    (YieldsList-from_slice c.items-intervals.result.now cc) (λ x b q k. search (rules, tests))
    ∙ sym (list_all-map opposite (span_of value) c.items-intervals.result.now) ∙ ap (list_all opposite) c.items-intervals.ensures.value in
    rw (sym (rw c.items-intervals.ensures.value at c.accepts.ensures), c.if-accepts.false) (ap Ok all)
