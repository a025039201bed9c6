use Rattle.lock_check.proofs.Judging.{on_ok, ruled}
use Rattle.lock_check.proofs.check.judged.Goals as goal

pub returns-clause-each : goal.returns-clause-each
returns-clause-each c =
    let rules = ruled c.args.lock c.package.result c.in_ok-overrides.overrides c.in_ok-scopes.scopes.overrides c.args.edges.now
    c.in_ok-scopes.scopes.of_edges c.package.ensures c.in_ok-overrides.ensures.root c.in_ok-overrides.ensures.laid
    c.in_ok-scopes.ensures.chosen c.in_ok-scopes.ensures.same in
    c.findings_of.ensures.each rules.0 rules.1 rules.2

pub returns-clause-kept : goal.returns-clause-kept
returns-clause-kept c = on_ok c.findings_of.result c.in_ok-overrides.ensures.kept

pub returns-clause-told : goal.returns-clause-told
returns-clause-told c = on_ok c.findings_of.result (c.in_ok-overrides.ensures.told c.args.lock c.package.ensures)

pub returns-clause-inside : goal.returns-clause-inside
returns-clause-inside c = on_ok c.findings_of.result (c.in_ok-overrides.ensures.inside c.args.lock c.package.ensures)

pub returns-clause-wrong : goal.returns-clause-wrong
returns-clause-wrong c = on_ok c.findings_of.result (c.in_ok-overrides.ensures.wrong c.args.lock c.package.ensures)
