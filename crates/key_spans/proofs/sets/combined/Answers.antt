use Rattle.std.proofs.lemmas.Result.{IfOk-weaker}
use Rattle.key_spans.proofs.Combined.{combined, combined_few}
use Rattle.key_spans.proofs.Ends.{none_kept}
use Rattle.key_spans.specs.Internal.Ends.{keeps}
use Rattle.key_spans.proofs.sets.combined.Goals as goal

pub returns-clause-exact : goal.returns-clause-exact
returns-clause-exact c = IfOk-weaker c.spans_of.result _ _ (λ spans e. combined (keeps c.args.operation) (none_kept c.args.operation)
    c.args.first.now c.by_kind.result.0.now c.by_kind.result.1.now c.args.second.now c.by_kind-2.result.0.now c.by_kind-2.result.1.now
    spans.items c.in_ok-releases.releases.items c.in_ok-others.others.items c.by_kind.ensures c.by_kind-2.ensures
    c.in_ok-releases.ensures c.in_ok-others.ensures e) c.spans_of.ensures

pub returns-clause-few : goal.returns-clause-few
returns-clause-few c = IfOk-weaker c.spans_of.result _ _ (λ spans e. combined_few (keeps c.args.operation)
    c.args.first.now c.by_kind.result.0.now c.by_kind.result.1.now c.args.second.now c.by_kind-2.result.0.now c.by_kind-2.result.1.now
    spans.items c.in_ok-releases.releases.items c.in_ok-others.others.items c.by_kind.ensures c.by_kind-2.ensures
    c.in_ok-releases.ensures c.in_ok-others.ensures e) c.spans_of.ensures
