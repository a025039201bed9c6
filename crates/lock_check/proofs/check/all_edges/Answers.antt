use Rattle.std.proofs.Common.{◌≡◌, ◌∙◌, All, None, [], ap, not, refl, subst, sym}
use Rattle.std.proofs.lemmas.Result.{on_ok_weaker}
use Rattle.lock_check.proofs.Judging.{edges-of, has-root, no-root}
use Rattle.lock_files.proofs.Added.{all-added, fault-added, fault-kept}
use Rattle.lock_files.specs.Faults.{HasFault, IsPackageFault}
use Rattle.lock_files.specs.Lookups.{IsAt}
use Rattle.lock_files.specs.declared.fault.Fault.{Fault}
use Rattle.lock_files.specs.declared.fault.Fault.TheVariants.{NoRoot}
use Rattle.lock_check.proofs.check.all_edges.Goals.{then-is_none+in_ok-push, else-is_none}
use Rattle.lock_check.proofs.check.all_edges.Goals as goal

pub returns-clause-edges : goal.returns-clause-edges
returns-clause-edges c =
    edges-of c.args.lock (λ edges. edges.items) c.edges.result c.edges.ensures.each c.edges.ensures.all c.edges.ensures.apart
    c.edges.ensures.ordered c.edges.ensures.workspaces

pub returns-clause-root : goal.returns-clause-root
returns-clause-root c =
    let lock = c.args.lock in
    let P : Fault → Type 0 = λ f. f ≡ NoRoot in
    let first = c.if-is_none.faults.items in
    let root : IsAt lock [] None → HasFault first P = λ none. elim c.if-is_none.branch [
      | then-is_none+in_ok-push w ↦ subst (λ fs. HasFault fs.items P) (sym w.faults-is)
          (fault-added c.args.faults.now.items w.push.new.self.items P NoRoot w.in_ok-push.ensures.items refl)
      | else-is_none w ↦ absurd (has-root lock c.package.result c.package.ensures (c.is_none.ensures ∙ ap not w.if-is_none.false) none)
    ] in
    on_ok_weaker c.edges.result (λ kept none. fault-kept first c.edges.new.faults.items P kept (root none)) c.edges.ensures.kept

pub returns-clause-real : goal.returns-clause-real
returns-clause-real c =
    let lock = c.args.lock in
    let before = c.args.faults.now.items in
    let first : All (IsPackageFault lock) before → All (IsPackageFault lock) c.if-is_none.faults.items = λ all.
    elim c.if-is_none.branch [
      | then-is_none+in_ok-push w ↦ subst (λ fs. All (IsPackageFault lock) fs.items) (sym w.faults-is)
          (all-added (IsPackageFault lock) before w.push.new.self.items NoRoot all w.in_ok-push.ensures.items
          (no-root lock c.package.result c.package.ensures (c.is_none.ensures ∙ ap not w.if-is_none.true)))
      | else-is_none w ↦ subst (λ fs. All (IsPackageFault lock) fs.items) (sym w.faults-is) all
    ] in
    on_ok_weaker c.edges.result (λ real all. real (first all)) c.edges.ensures.real
