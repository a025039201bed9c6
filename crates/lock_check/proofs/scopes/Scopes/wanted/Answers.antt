use Rattle.std.proofs.Common.{◌∙◌, Some, subst, sym, true≢false}
use Rattle.lock_check.proofs.Putting.{IsKnown, after-none, after-packed, after-scope}
use Rattle.lock_check.proofs.scopes.Scopes.wanted.Goals.{in_default-via-in-Some+else-not-is_locked_packed, in_default-via-in_default}
use Rattle.lock_check.specs.Standing.{IsAfter}
use Rattle.lock_check.proofs.scopes.Scopes.wanted.Goals as goal

pub returns-in-Some : goal.returns-in-Some
returns-in-Some c = λ edges at laid chosen here.
    let o = c.args.self.now.overrides in
    after-scope c.args.lock o.root o.rules.items edges c.args.number c.args.edge c.in-Some.inner.now c.wanted.result at
    (subst (IsKnown o.root o.rules.items edges c.args.number c.args.edge) (sym c.in-Some.ensures.value)
    (chosen c.args.number c.args.edge here)) c.wanted.ensures
    (λ has. true≢false (sym (c.is_locked_packed.ensures.1 has) ∙ c.if-not-is_locked_packed.true))

pub returns-in_default : goal.returns-in_default
returns-in_default c = λ edges at laid chosen here.
    let o = c.args.self.now.overrides in
    elim c.in_default.branch as (λ _. IsAfter c.args.lock edges c.args.number c.args.edge (Some c.args.edge.dependency.wanted)) [
      | in_default-via-in-Some+else-not-is_locked_packed w ↦
          after-packed c.args.lock edges c.args.number c.args.edge (w.is_locked_packed.ensures.0 w.if-not-is_locked_packed.false)
      | in_default-via-in_default w ↦
          after-none c.args.lock o.root o.rules.items edges c.args.number c.args.edge at laid
          (subst (IsKnown o.root o.rules.items edges c.args.number c.args.edge) (sym w.in_default.ensures.value)
          (chosen c.args.number c.args.edge here))
    ]
