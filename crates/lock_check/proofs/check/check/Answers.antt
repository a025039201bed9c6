use Rattle.std.proofs.Common.{◌≡◌, inl, subst, sym}
use Rattle.std.proofs.lemmas.List.Elements.{All-weaker}
use Rattle.lock_check.proofs.Completing.{judged-all, workspaces-judged}
use Rattle.lock_check.specs.Malformed.{IsFault}
use Rattle.lock_files.proofs.Added.{all-none, fault-kept, packages-kept}
use Rattle.lock_check.specs.Judged.{AreFindingsOf}
use Rattle.lock_files.specs.Edges.{AreAllCollected, AreApartEdges, AreWorkspacesCollected}
use Rattle.lock_files.specs.Faults.{IsPackageFault}
use Rattle.lock_files.specs.declared.fault.Fault.TheVariants.{NoRoot}
use Rattle.lock_check.proofs.check.check.Goals as goal

pub returns-clause-each : goal.returns-clause-each
returns-clause-each c = record {
  edges = c.in_ok-edges.edges.items;
  are = c.in_ok-edges.ensures.edges;
  each = subst (λ edges. AreFindingsOf c.args.lock edges c.in_ok-of_dependencies.of_dependencies.items) c.deref.ensures.value
      c.in_ok-of_dependencies.ensures.each;
}

pub returns-clause-all : goal.returns-clause-all
returns-clause-all c =
    judged-all c.args.lock c.deref.result.now c.in_ok-of_dependencies.of_dependencies.items
    (subst (AreAllCollected c.args.lock) (sym c.deref.ensures.value) c.in_ok-edges.ensures.edges.all)
    c.in_ok-of_dependencies.ensures.all

pub returns-clause-single : goal.returns-clause-single
returns-clause-single c =
    c.in_ok-of_dependencies.ensures.single
    (subst AreApartEdges (sym c.deref.ensures.value) c.in_ok-edges.ensures.edges.apart)

pub returns-clause-workspaces : goal.returns-clause-workspaces
returns-clause-workspaces c =
    let lock = c.args.lock in
    workspaces-judged lock c.deref.result.now c.in_ok-of_dependencies.of_dependencies.items
    (subst (AreWorkspacesCollected lock) (sym c.deref.ensures.value) c.in_ok-edges.ensures.edges.workspaces)
    c.in_ok-of_dependencies.ensures.all

pub returns-clause-malformed : goal.returns-clause-malformed
returns-clause-malformed c =
    let lock = c.args.lock in
    let middle = c.all_edges.new.faults.items in
    let last = c.judged.new.faults.items in
    let none = all-none (IsPackageFault lock) c.new-faults.result.items c.new-faults.ensures.items in
    record {
      real = c.in_ok-of_dependencies.ensures.wrong
          (All-weaker (IsPackageFault lock) (IsFault lock) (λ f is. inl is) middle (c.in_ok-edges.ensures.real none));
      rules = c.in_ok-of_dependencies.ensures.told;
      inside = c.in_ok-of_dependencies.ensures.inside;
      root = λ none. fault-kept middle last (λ f. f ≡ NoRoot) c.in_ok-of_dependencies.ensures.kept (c.in_ok-edges.ensures.root none);
      packages = packages-kept lock middle last c.in_ok-of_dependencies.ensures.kept c.in_ok-edges.ensures.told;
    }
