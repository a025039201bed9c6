use Rattle.std.proofs.Common.{sym, ◌∙◌}
use Rattle.std.proofs.lemmas.List.{take_all}
use Rattle.npm_semver.proofs.Refused.{any_first, first_at, none_more}
use Rattle.npm_semver.proofs.refusal.first_lacking.Goals as goal

pub loop-reason-preserved : goal.loop-reason-preserved
loop-reason-preserved c = none_more _ _ _ c.loop-reason-test.true c.reason-item.is c.loop-reason.invariant
    (sym c.is_no_version.ensures ∙ c.if-is_no_version.false)

pub returns-then-is_no_version-clause-is : goal.returns-then-is_no_version-clause-is
returns-then-is_no_version-clause-is c = sym (any_first _ _
    (first_at _ _ _ c.loop-reason-test.true c.reason-item.is c.loop-reason.invariant (sym c.is_no_version.ensures ∙ c.if-is_no_version.true)))

pub returns-then-is_no_version-clause-first : goal.returns-then-is_no_version-clause-first
returns-then-is_no_version-clause-first c =
    first_at _ _ _ c.loop-reason-test.true c.reason-item.is c.loop-reason.invariant (sym c.is_no_version.ensures ∙ c.if-is_no_version.true)

pub returns-clause-is : goal.returns-clause-is
returns-clause-is c = sym (rw (take_all c.loop-reason.reason-index c.args.left_out.now c.loop-reason-test.false) at c.loop-reason.invariant)
