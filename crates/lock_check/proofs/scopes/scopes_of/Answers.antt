use Rattle.std.proofs.Common.{◌+◌, [], Some, arith, false, refl, slice_index_or, subst, sym}
use Rattle.std.proofs.lemmas.Option.{slice_get-get_or, slice_get_read, slice_get_within}
use Rattle.serde_json.specs.View.{view}
use Rattle.lock_check.specs.Internal.Overriding.{AreAllLaid, AreInTurn, IsLed, Turn}
use Rattle.lock_check.specs.Overrides.{IsOverridden}
use Rattle.lock_files.specs.declared.lock.Package.{Package}
use Rattle.lock_check.specs.Standing.{wanting}
use Rattle.lock_check.proofs.Standing.{AreStanding, IsFrom, IsStanding, chosen-all, chosen-more, chosen-same, from-none, from-some, led-on}
use Rattle.lock_check.proofs.Standing.{nowhere-outside, nowhere-unlocked, standing-more, standing-same}
use Rattle.lock_check.proofs.scopes.scopes_of.Goals.{in-Some-get, in-None, in-Some-locked+in_ok-insert-2, in_default-locked}
use Rattle.lock_check.proofs.scopes.scopes_of.Goals as goal

pub loop-number-preserved-in_default : goal.loop-number-preserved-in_default
loop-number-preserved-in_default c =
    let turns = subst (AreInTurn c.args.edges.now) (sym c.deref-number-items.ensures.value) c.in_ok-order.ensures in
    let t : Turn = slice_index_or c.deref-number-items.result.now c.loop-number.number-index (record { ref_ptr = (0, 0); now = [] }, false, 0) in
    let at = slice_get-get_or c.deref-number-items.result.now c.loop-number.number-index (record { ref_ptr = (0, 0); now = [] }, false, 0)
    c.loop-number-test.true in
    let is = turns.each c.loop-number.number-index t at in
    let low = slice_get_within c.args.edges.now t.2 is.0 is.1 in
    absurd (omega (arith, low, c.in_default.ensures.lookup.3))

pub loop-number-preserved-then-not-is_overridden : goal.loop-number-preserved-then-not-is_overridden
loop-number-preserved-then-not-is_overridden c =
    let rules = c.args.overrides.now.rules.items in
    let edges = c.args.edges.now in
    let order = c.deref-number-items.result.now in
    let i = c.loop-number.number-index in
    let turns = subst (AreInTurn edges) (sym c.deref-number-items.ensures.value) c.in_ok-order.ensures in
    let t : Turn = slice_index_or order i (record { ref_ptr = (0, 0); now = [] }, false, 0) in
    let at = slice_get-get_or order i (record { ref_ptr = (0, 0); now = [] }, false, 0) c.loop-number-test.true in
    let look = c.in-Some.ensures.lookup in
    let e = c.in-Some.field-0.now in
    let is = slice_get_read edges _ t.2 e refl look.3.0 look.1 in
    let off : ¬ (IsOverridden e.dependency) = λ holds. let on = c.is_overridden.ensures.1 holds in let none = c.if-not-is_overridden.true in absurd (cc) in record {
      chosen = λ root all. chosen-same rules (view root.fields.now) edges order i t e c.loop-number.of_edges at is off
          (c.loop-number.invariant.chosen root all);
      stand = λ root all. standing-same rules (view root.fields.now) edges order i t e turns at is c.loop-number.of_packages
          (nowhere-outside rules (view root.fields.now) edges order i t e turns at is off) (c.loop-number.invariant.stand root all);
    }

pub loop-number-preserved : goal.loop-number-preserved
loop-number-preserved c =
    let rules = c.args.overrides.now.rules.items in
    let edges = c.args.edges.now in
    let order = c.deref-number-items.result.now in
    let i = c.loop-number.number-index in
    let turns = subst (AreInTurn edges) (sym c.deref-number-items.ensures.value) c.in_ok-order.ensures in
    let t : Turn = slice_index_or order i (record { ref_ptr = (0, 0); now = [] }, false, 0) in
    let at = slice_get-get_or order i (record { ref_ptr = (0, 0); now = [] }, false, 0) c.loop-number-test.true in
    let look = c.in-Some.ensures.lookup in
    let e = c.in-Some.field-0.now in
    let is = slice_get_read edges _ t.2 e refl look.3.0 look.1 in
    let holds = c.is_overridden.ensures.0 c.if-not-is_overridden.false in
    let inner = c.in_ok-inner.inner in
    let from : (root : Package) → AreAllLaid (Some root) rules → IsFrom rules (view root.fields.now) edges t.2 c.match-get-2.around
    = λ root all. elim c.match-get-2.branch as (λ _. IsFrom rules (view root.fields.now) edges t.2 c.match-get-2.around) [
      | in-Some-get w ↦ subst (IsFrom rules (view root.fields.now) edges t.2) (sym w.around-is)
          (from-some rules (view root.fields.now) edges order i t e turns at is w.in-Some-get.around.now
          (subst (IsStanding rules (view root.fields.now) edges order i (wanting e)) (sym w.in-Some-get.ensures.value)
          (c.loop-number.invariant.stand root all e.dependency.package.folder)))
      | in-None w ↦ subst (IsFrom rules (view root.fields.now) edges t.2) (sym w.around-is)
          (from-none rules (view root.fields.now) edges order i t e turns at is
          (subst (IsStanding rules (view root.fields.now) edges order i (wanting e)) (sym w.in-None.ensures.value)
          (c.loop-number.invariant.stand root all e.dependency.package.folder)))
    ] in
    let led : (root : Package) → AreAllLaid (Some root) rules → IsLed rules (view root.fields.now) edges t.2 e.dependency inner
    = λ root all. led-on e.dependency c.match-get-2.around inner (from root all)
    (c.in_ok-inner.ensures root (from root all).0 all (from root all).2) in record {
      chosen = λ root all. chosen-more rules (view root.fields.now) edges order i t e c.loop-number.of_edges c.insert.new.self inner at is
          holds (led root all) c.in_ok-insert.ensures.updates (c.loop-number.invariant.chosen root all);
      stand = λ root all.
          let before = c.loop-number.invariant.stand root all in
          elim c.match-edge.branch as (λ _. AreStanding rules (view root.fields.now) edges order (i + 1) c.match-edge.of_packages) [
            | in-Some-locked+in_ok-insert-2 w ↦
                subst (AreStanding rules (view root.fields.now) edges order (i + 1)) (sym w.of_packages-is)
                (standing-more rules (view root.fields.now) edges order i t e turns at is c.loop-number.of_packages
                w.insert-in-Some-locked.new.self w.in-Some-locked.locked inner w.in-Some-locked.is holds (led root all)
                w.in_ok-insert-2.ensures.updates before)
            | in_default-locked w ↦
                subst (AreStanding rules (view root.fields.now) edges order (i + 1)) (sym w.of_packages-is)
                (standing-same rules (view root.fields.now) edges order i t e turns at is c.loop-number.of_packages
                (nowhere-unlocked rules (view root.fields.now) edges order i t e turns at is w.in_default-locked.is) before)
          ];
    }

pub returns : goal.returns
returns c = λ root.
    let order = c.deref-number-items.result.now in
    let turns = subst (AreInTurn c.args.edges.now) (sym c.deref-number-items.ensures.value) c.in_ok-order.ensures in
    chosen-all root c.args.overrides.now.rules.items c.args.edges.now order c.loop-number.number-index c.loop-number.of_edges turns
    (omega (arith, c.loop-number-test.false, c.loop-number.auto.number-index-end)) c.loop-number.invariant.chosen
    (λ none. let on = c.is_empty.ensures.1 none in let off = c.if-is_empty.false in absurd (cc))
