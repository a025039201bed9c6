use Rattle.std.proofs.Common.{◌≡◌, ◌∙◌, [], All, ap, codes, option_map, refl, subst, sym}
use Rattle.std.specs.Borrow.{Bor}
use Rattle.serde_json.specs.Find.{as_object}
use Rattle.serde_json.specs.View.{view}
use Rattle.serde_json.specs.declared.value.Value.{Value}
use Rattle.lock_check.specs.Malformed.{IsFault}
use Rattle.lock_files.proofs.Added.{fault-added}
use Rattle.lock_files.specs.Faults.{HasFault, IsFieldFault}
use Rattle.lock_check.proofs.Overriding.{an-object, no-object, other-rules, others-added}
use Rattle.lock_check.proofs.overrides.outermost.Goals.{then-is_none+in_ok-push, else-is_none}
use Rattle.lock_check.proofs.overrides.outermost.Goals as goal

pub returns-in_default-get-clause-told : goal.returns-in_default-get-clause-told
returns-in_default-get-clause-told c = λ lock at has.
    let found = other-rules lock c.args.root c.in-Some.package _ at c.in-Some.is c.get.ensures has in
    let none = sym (ap (option_map (λ (v : Bor Value). view v.now)) c.in_default-get.is) ∙ found.1 in absurd (cc)

pub returns-in_default-get-clause-wrong : goal.returns-in_default-get-clause-wrong
returns-in_default-get-clause-wrong c = λ lock at all. all

pub returns-clause-told : goal.returns-clause-told
returns-clause-told c = λ lock at has.
    let P = IsFieldFault [] (codes "overrides") in
    let value = c.in-Some-get.value.now in
    elim c.if-is_none.branch [
      | then-is_none+in_ok-push w ↦ subst (λ fs. HasFault fs.items P) (sym w.faults-is)
          (fault-added c.args.faults.now.items w.push.new.self.items P _ w.in_ok-push.ensures.items (refl, refl))
      | else-is_none w ↦
          let found = other-rules lock c.args.root c.in-Some.package _ at c.in-Some.is c.get.ensures has in
          let here = sym (ap (option_map (λ (v : Bor Value). view v.now)) c.in-Some-get.is) ∙ found.1 in
          let same : view value ≡ found.0 = cc in
          absurd (an-object _ c.as_object-found.result _ c.is_none.result c.as_object-found.ensures c.is_none.ensures
          w.if-is_none.false (ap as_object same ∙ found.2))
    ]

pub returns-clause-wrong : goal.returns-clause-wrong
returns-clause-wrong c = λ lock at all.
    let value = c.in-Some-get.value.now in
    elim c.if-is_none.branch [
      | then-is_none+in_ok-push w ↦ subst (λ fs. All (IsFault lock) fs.items) (sym w.faults-is)
          (others-added lock c.args.root c.in-Some.package (view value) c.args.faults.now.items w.push.new.self.items _ all
          w.in_ok-push.ensures.items (refl, refl) at c.in-Some.is
          (sym c.get.ensures ∙ ap (option_map (λ (v : Bor Value). view v.now)) c.in-Some-get.is)
          (no-object _ c.as_object-found.result _ c.is_none.result c.as_object-found.ensures c.is_none.ensures
          w.if-is_none.true))
      | else-is_none w ↦ subst (λ fs. All (IsFault lock) fs.items) (sym w.faults-is) all
    ]
