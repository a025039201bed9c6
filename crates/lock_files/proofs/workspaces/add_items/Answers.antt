use Rattle.std.proofs.Common.{◌≡◌, ◌∙◌, Some, ap, arith, refl, sym}
use Rattle.serde_json.specs.Data.{array}
use Rattle.serde_json.specs.View.{items_view, view}
use Rattle.lock_files.proofs.Added.{all-added, extends-more, fault-added, one-more}
use Rattle.lock_files.proofs.Items.{found-all, found-passed, found-text, item-wrong, items-kept, items-more, items-text}
use Rattle.lock_files.proofs.Items.{none-same, text-same, texts-told, texts-wrong}
use Rattle.lock_files.proofs.Patterns.{text-among}
use Rattle.lock_files.specs.Faults.{IsPackageFault}
use Rattle.lock_files.specs.declared.fault.Fault.TheVariants.{Workspaces}
use Rattle.lock_files.proofs.workspaces.add_items.Goals as goal

pub loop-item-preserved : goal.loop-item-preserved
loop-item-preserved c =
    let lock = c.args.lock in
    let root = c.args.root in
    let vs = c.deref-item-items.result.now in
    let n = c.loop-item.item-index in
    let text = c.in-Some.text.now in
    let after = c.add_meant.new.found.first.items in
    let same = text-same vs n c.item-item.result text (omega arith) c.item-item.is c.in-Some.ensures in record {
      each = λ of is all. c.in_ok-add_meant.ensures.each is
          (text-among (view root.fields.now) vs n c.item-item.result text
          (of ∙ ap (λ xs. Some (array (items_view xs))) (sym c.deref-item-items.ensures.value)) (omega arith) c.item-item.is
          c.in-Some.ensures)
          (c.loop-item.invariant.each of is all);
      alone = λ are. c.in_ok-add_meant.ensures.alone (c.loop-item.invariant.alone are);
      all = λ are.
          let were = c.loop-item.invariant.alone are in
          found-text lock root vs n after text same (c.in_ok-add_meant.ensures.all were)
          (items-kept lock root vs n c.loop-item.found.first.items after (c.in_ok-add_meant.ensures.more were)
          (c.loop-item.invariant.all are));
      kept = c.loop-item.invariant.kept;
      told = items-text vs n c.loop-item.faults.items text same c.loop-item.invariant.told;
      wrong = c.loop-item.invariant.wrong;
    }

pub loop-item-preserved-in_default : goal.loop-item-preserved-in_default
loop-item-preserved-in_default c =
    let lock = c.args.lock in
    let root = c.args.root in
    let vs = c.deref-item-items.result.now in
    let n = c.loop-item.item-index in
    let item = c.item-item.result in
    let before = c.loop-item.faults.items in
    let after = c.push.new.self.items in
    let same = c.in_ok-push.ensures.items in record {
      each = c.loop-item.invariant.each;
      alone = c.loop-item.invariant.alone;
      all = λ are. found-passed lock root vs n c.loop-item.found.first.items
          (none-same vs n item (omega arith) c.item-item.is c.in_default.ensures) (c.loop-item.invariant.all are);
      kept = extends-more c.args.faults.now.items before after Workspaces c.loop-item.invariant.kept same;
      told = items-more vs n before after (one-more before after Workspaces same)
          (λ d none. fault-added before after (λ f. f ≡ Workspaces) Workspaces same refl) c.loop-item.invariant.told;
      wrong = λ of is all. all-added (IsPackageFault lock) before after Workspaces (c.loop-item.invariant.wrong of is all) same
          (texts-wrong lock root is.1 is.0
          (item-wrong (view root.fields.now) vs (of ∙ ap (λ xs. Some (array (items_view xs))) (sym c.deref-item-items.ensures.value))
          n item (omega arith) c.item-item.is c.in_default.ensures));
    }

pub returns-clause-told : goal.returns-clause-told
returns-clause-told c = λ of empty wrong.
    let vs = c.deref-item-items.result.now in
    texts-told (view c.args.root.fields.now) vs (of ∙ ap (λ xs. Some (array (items_view xs))) (sym c.deref-item-items.ensures.value))
    c.loop-item.item-index c.loop-item.faults.items (omega arith) c.loop-item.invariant.told wrong

pub returns-clause-all : goal.returns-clause-all
returns-clause-all c = λ of are.
    let vs = c.deref-item-items.result.now in
    found-all c.args.lock c.args.root vs (of ∙ ap (λ xs. Some (array (items_view xs))) (sym c.deref-item-items.ensures.value))
    c.loop-item.item-index c.loop-item.found.first.items (omega arith) (c.loop-item.invariant.all are)
