use Rattle.nodejs_semver.proofs.Common.{YieldsList-from_slice, holds, lets_in, list_any-map, precedence, rules, span_of, sym}
use Rattle.nodejs_semver.proofs.Common.{true, tests, ◌&&◌, ◌||◌, ◌∙◌}
use Rattle.std.proofs.lemmas.Iterator.Search.{any_from_yields_List}
use Rattle.nodejs_semver.proofs.range.gate.hold.Goals as goal

pub returns : goal.returns
returns g c =
    let v = g.W.Versioned.value c.args.version.now in
    any_from_yields_List (λ s. holds precedence (span_of g.V.Versioned.value s) v
    && (true || lets_in (span_of g.V.Versioned.value s) v)) _ _ _ c.any.ensures.ran
    (YieldsList-from_slice c.args.intervals.now cc) (λ x b q k. search (rules, tests))
    ∙ sym (list_any-map _ (span_of g.V.Versioned.value) c.args.intervals.now)
