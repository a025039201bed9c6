use Rattle.nodejs_semver_c.proofs.Spanning.{spans_more}
use Rattle.nodejs_semver_c.proofs.kept_spans.tell_parts.Goals as goal

pub spans-preserved : goal.spans-preserved
spans-preserved c = spans_more c.args.spans.now c.spans.at c.index-spans-at.result _ c.args.told.now _
    c.spans-test.true c.index-spans-at.is c.told_span.ensures c.requires c.spans.invariant
