use Rattle.npm_semver.proofs.Keyed.{ok_then, refused_by}
use Rattle.npm_semver.proofs.subcommands.spans.read_spans.Goals as goal

pub returns-in-Ok-clause-ok : goal.returns-in-Ok-clause-ok
returns-in-Ok-clause-ok c = ok_then c.spans_in.result _ _ (λ spans are. are c.args.text.now c.in-Ok.ensures.ok) c.spans_in.ensures.ok

pub returns-in-Ok-clause-refused : goal.returns-in-Ok-clause-refused
returns-in-Ok-clause-refused c = refused_by c.spans_in.result _ _ (λ never. absurd never) c.spans_in.ensures.refused
