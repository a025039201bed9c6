use Rattle.std.proofs.Common.{◌≡◌, ◌+◌, ◌∷◌, ◌++◌, ◌∙◌, [], ap, arith, get_or, inl, subst, sym}
use Rattle.std.proofs.lemmas.List.{append-nil, get_or_default}
use Rattle.std.proofs.lemmas.List.Elements.{All-from_all_within, All-get_or, All-push, All-same, AllWithin-more, AllWithin-upto, at_read}
use Rattle.lock_files.proofs.Added.{extends-more, extends-same}
use Rattle.lock_files.proofs.Completing.{taken-kept, taken-out, taken-push}
use Rattle.lock_files.proofs.Single.{IsOneBefore, apart-push, before-all, before-more, before-push, order-push}
use Rattle.lock_files.specs.Edges.{AreApartEdges, AreInOrder, IsEdge}
use Rattle.lock_files.specs.Faults.{Extends}
use Rattle.lock_files.specs.Internal.Collected.{IsTaken}
use Rattle.lock_files.specs.Dependencies.{IsDeclared}
use Rattle.lock_files.specs.declared.edge.Edge.{Edge}
use Rattle.lock_files.proofs.edge.add_edges.Goals.{else-not-is_of_development}
use Rattle.lock_files.proofs.edge.add_edges.Goals.{then-not-is_of_development+in_ok-push}
use Rattle.lock_files.proofs.edge.add_edges.Goals as goal

pub loop-dependency-init : goal.loop-dependency-init
loop-dependency-init c = record {
  each = λ deps all. all;
  kept = ([], sym (append-nil c.args.edges.now.items));
  all = λ k d low high. absurd (omega arith);
  from = λ k e within. inl (k, within, get_or_default c.args.edges.now.items k (get_or c.args.edges.now.items k e) e within);
  apart = λ folder own others apart. apart;
  ordered = λ folder own others ordered. ordered;
}

pub loop-dependency-preserved : goal.loop-dependency-preserved
loop-dependency-preserved c =
    let lock = c.args.lock in
    let r = c.dependency-item.result in
    let i = c.loop-dependency.dependency-index in
    let before = c.loop-dependency.edges.items in
    let edge : Edge = record { dependency = r; locked = c.in_ok-locked.locked } in
    elim c.if-not-is_of_development.branch [
      | then-not-is_of_development+in_ok-push w ↦
          let after = c.if-not-is_of_development.edges.items in
          let same : after ≡ before ++ edge ∷ [] = ap (λ v. v.items) w.edges-is ∙ w.in_ok-push.ensures.items in
          let longer : Extends before after = (edge ∷ [], same) in record {
            each = λ deps all.
                let is = subst (λ d. IsDeclared lock d) (sym c.dependency-item.is)
                (All-get_or (IsDeclared lock) c.args.dependencies.now i r (omega arith) deps) in
                All-same (IsEdge lock) after (before ++ edge ∷ []) same
                (All-push (IsEdge lock) before edge (c.loop-dependency.invariant.each deps all) (is, c.in_ok-locked.ensures));
            kept = extends-more c.args.edges.now.items before after edge c.loop-dependency.invariant.kept same;
            all = AllWithin-more (IsTaken lock after) c.args.dependencies.now 0 i
                (λ k d low high. taken-kept lock before after _ longer (c.loop-dependency.invariant.all k d low high))
                (at_read c.args.dependencies.now (IsTaken lock after) i r (omega arith) c.dependency-item.is
                (taken-push lock before after edge same));
            from = before-push c.args.edges.now.items before after c.args.dependencies.now i edge (omega arith) c.dependency-item.is same
                c.loop-dependency.invariant.from;
            apart = λ folder own others apart. apart-push c.args.edges.now.items before after c.args.dependencies.now i edge folder
                (omega arith) c.dependency-item.is same own others c.loop-dependency.invariant.from
                (c.loop-dependency.invariant.apart folder own others apart);
            ordered = λ folder own others ordered. order-push c.args.edges.now.items before after c.args.dependencies.now i edge
                folder (omega arith) c.dependency-item.is same own others c.loop-dependency.invariant.from
                (c.loop-dependency.invariant.ordered folder own others ordered);
          }
      | else-not-is_of_development w ↦
          let after = c.if-not-is_of_development.edges.items in
          let same : after ≡ before = ap (λ v. v.items) w.edges-is in
          let longer : Extends before after = ([], same ∙ sym (append-nil before)) in record {
            each = λ deps all. All-same (IsEdge lock) after before same (c.loop-dependency.invariant.each deps all);
            kept = extends-same c.args.edges.now.items before after c.loop-dependency.invariant.kept same;
            all = AllWithin-more (IsTaken lock after) c.args.dependencies.now 0 i
                (λ k d low high. taken-kept lock before after _ longer (c.loop-dependency.invariant.all k d low high))
                (at_read c.args.dependencies.now (IsTaken lock after) i r (omega arith) c.dependency-item.is
                (taken-out lock after edge c.in_ok-locked.ensures
                (c.is_of_development.ensures.0 w.if-not-is_of_development.false)));
            from = All-same (IsOneBefore c.args.edges.now.items c.args.dependencies.now (i + 1)) after before same
                (before-more c.args.edges.now.items before c.args.dependencies.now i c.loop-dependency.invariant.from);
            apart = λ folder own others apart. subst AreApartEdges (sym same)
                (c.loop-dependency.invariant.apart folder own others apart);
            ordered = λ folder own others ordered. subst AreInOrder (sym same)
                (c.loop-dependency.invariant.ordered folder own others ordered);
          }
    ]

pub returns-clause-all : goal.returns-clause-all
returns-clause-all c =
    All-from_all_within (IsTaken c.args.lock c.loop-dependency.edges.items) c.args.dependencies.now
    (AllWithin-upto (IsTaken c.args.lock c.loop-dependency.edges.items) c.args.dependencies.now 0
    c.loop-dependency.dependency-index _ (omega arith) c.loop-dependency.invariant.all)

pub returns-clause-from : goal.returns-clause-from
returns-clause-from c =
    before-all c.args.edges.now.items c.loop-dependency.edges.items c.args.dependencies.now c.loop-dependency.dependency-index
    (omega arith) c.loop-dependency.invariant.from
