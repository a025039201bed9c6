use Rattle.std.proofs.Common.{arith, option_map, subst}
use Rattle.serde_json.specs.View.{view}
use Rattle.lock_check.specs.Internal.Overriding.{IsAboutIf, IsFirstHit, IsRuleAt}
use Rattle.lock_check.specs.declared.overrides.Scope.TheVariants.{Top}
use Rattle.lock_check.proofs.Laying.{before-first, before-more, nested-found, nested-found-top, nothing-found, own-found}
use Rattle.lock_check.proofs.Laying.{top-by-depth, top-by-rule}
use Rattle.lock_check.proofs.overrides.Overrides.found.Goals.{else-loop-test, then-loop-test+in_default}
use Rattle.lock_check.proofs.overrides.Overrides.found.Goals as goal

pub loop-init : goal.loop-init
loop-init c = λ root place all is.
    before-first c.args.self.now.rules.items (view root.fields.now) c.args.dependency place c.args.scope is

pub returns-in-Some-2 : goal.returns-in-Some-2
returns-in-Some-2 c = λ root place all is.
    let rules = c.args.self.now.rules.items in
    nested-found root rules c.args.dependency place c.loop.around c.loop.counter c.in-Some-2.number all
    (c.loop.invariant root place all is)
    (subst (IsFirstHit rules c.loop.around c.args.dependency) c.in-Some-2.is c.in_ok-number.ensures)

pub returns-then-branch : goal.returns-then-branch
returns-then-branch c = λ root place all is.
    let rules = c.args.self.now.rules.items in
    let d = c.args.dependency in
    own-found root rules d place c.loop.around c.loop.counter c.in-Some.rule.now all (c.loop.invariant root place all is)
    c.in-Some.ensures (subst (IsFirstHit rules c.loop.around d) c.in_default-2.is c.in_ok-number.ensures)
    (subst (IsAboutIf d c.in-Some.rule.now) c.if-branch.true c.in_ok-is_about.ensures)

pub loop-preserved : goal.loop-preserved
loop-preserved c = λ root place all is.
    let rules = c.args.self.now.rules.items in
    let d = c.args.dependency in
    before-more root rules d place c.loop.around c.loop.counter c.in-Some.rule.now all (c.loop.invariant root place all is)
    c.in-Some.ensures (subst (IsFirstHit rules c.loop.around d) c.in_default-2.is c.in_ok-number.ensures)
    (subst (IsAboutIf d c.in-Some.rule.now) c.if-branch.false c.in_ok-is_about.ensures)

pub returns-in-Ok-Some : goal.returns-in-Ok-Some
returns-in-Ok-Some c = λ root place all is.
    let rules = c.args.self.now.rules.items in
    let h = c.loop.invariant root place all is in
    nested-found-top root rules c.args.dependency place c.loop.around c.loop.counter c.in-Ok-Some.number all h
    (elim c.loop-test.branch [
      | else-loop-test w ↦ let short = h.short in let off = w.loop-test.false in let end = c.len-end.ensures in
          top-by-depth c.loop.around (omega arith)
      | then-loop-test+in_default w ↦ top-by-rule h.is
          (subst (λ r. IsRuleAt rules c.loop.around (option_map (λ x. x.now) r)) w.in_default.is w.rule.ensures)
    ]) (subst (IsFirstHit rules Top c.args.dependency) c.in-Ok-Some.field-0-is c.in-Ok-Some.ensures)

pub returns-in-Ok-None : goal.returns-in-Ok-None
returns-in-Ok-None c = λ root place all is.
    let rules = c.args.self.now.rules.items in
    let h = c.loop.invariant root place all is in
    nothing-found root rules c.args.dependency place c.loop.around c.loop.counter all h
    (elim c.loop-test.branch [
      | else-loop-test w ↦ let short = h.short in let off = w.loop-test.false in let end = c.len-end.ensures in
          top-by-depth c.loop.around (omega arith)
      | then-loop-test+in_default w ↦ top-by-rule h.is
          (subst (λ r. IsRuleAt rules c.loop.around (option_map (λ x. x.now) r)) w.in_default.is w.rule.ensures)
    ]) (subst (IsFirstHit rules Top c.args.dependency) c.in-Ok-None.field-0-is c.in-Ok-None.ensures)
