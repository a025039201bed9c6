use Rattle.nodejs_semver.proofs.Common.{YieldsList-from_slice, holds, lets_in, precedence, rules, span_of, spans_of, tests, ◌&&◌}
use Rattle.std.proofs.lemmas.Iterator.Search.{find_from_yields_List}
use Rattle.nodejs_semver.proofs.Questions.Spans.{found_raisable, found_value}
use Rattle.nodejs_semver.proofs.range.neighbours.first_accepting.Goals as goal

pub returns-clause-value : goal.returns-clause-value
returns-clause-value g c =
    let value = g.V.Versioned.value in
    let v = c.args.version.now in
    found_value (span_of value) (λ s. s.now) (λ s. holds precedence s v && lets_in s v) c.args.intervals.now c.find.result
    (find_from_yields_List (λ s. holds precedence (span_of value s) v && lets_in (span_of value s) v) _ _ c.find.result c.find.ensures.ran
    (YieldsList-from_slice c.args.intervals.now cc) (λ x b q k. search (rules, tests)))

pub returns-clause-raisable : goal.returns-clause-raisable
returns-clause-raisable g c =
    let value = g.V.Versioned.value in
    let v = c.args.version.now in
    found_raisable (λ s. span_of value s.now) (λ s. holds precedence s v && lets_in s v) (spans_of value c.args.intervals.now) c.find.result
    (returns-clause-value g c) c.requires
