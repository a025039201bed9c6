use Rattle.std.proofs.Common.{◌≡◌, ◌+◌, ◌∷◌, ◌∙◌, ℕ, ap, drop, subst, sym}
use Rattle.std.proofs.Math.ListN.{drop_of_length-le}
use Rattle.std.proofs.lemmas.List.{drop_more}
use Rattle.std.specs.Prelude.{IfOk}
use Rattle.key_spans.specs.Internal.Kinds.{all_of_kind}
use Rattle.key_spans.specs.Internal.Pieces.{IsCanonicalOf}
use Rattle.nodejs_semver.specs.Internal.Shorthands.{spans_of}
use Rattle.nodejs_semver.specs.Ranges.View.{span_of}
use Rattle.key_spans.proofs.OfKind.{all_there, one_more}
use Rattle.key_spans.proofs.build.parts_of.Goals as goal

pub loop-interval-preserved : goal.loop-interval-preserved
loop-interval-preserved g c =
    let all = c.args.intervals.now in
    let i : ℕ = c.loop-interval.interval-index in
    one_more c.args.kind c.loop-interval.parts.items c.add_kind.new.parts.items _ _ _ (span_of g.V.Versioned.value c.interval-item.result)
    (ap (spans_of g.V.Versioned.value)
    (drop_more all i c.interval-item.result c.loop-interval-test.true ∙ ap (λ s. s ∷ drop (i + 1) all) (sym c.interval-item.is)))
    c.loop-interval.invariant c.in_ok-add_kind.ensures

pub returns : goal.returns
returns g c =
    let all : c.loop-interval.parts.items ≡ all_of_kind c.args.kind (spans_of g.V.Versioned.value c.args.intervals.now) =
    all_there c.args.kind c.loop-interval.parts.items _ _
    (ap (spans_of g.V.Versioned.value) (drop_of_length-le c.args.intervals.now c.loop-interval-test.false)) c.loop-interval.invariant in
    subst (λ l. IfOk c.canonical.result (λ parts. IsCanonicalOf l parts.items)) all c.canonical.ensures
