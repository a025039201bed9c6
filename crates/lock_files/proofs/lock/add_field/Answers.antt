use Rattle.std.proofs.Common.{map, ◌≡◌, ◌∷◌, ◌∙◌, [], Contains, None, Some, length, refl, string_bytes, subst, sym}
use Rattle.std.proofs.lemmas.List.{map-append}
use Rattle.std.proofs.lemmas.Map.Iter.{iter_end, iter_turn}
use Rattle.std.specs.Map.{keys_of}
use Rattle.std.specs.Map.Iter.{deref}
use Rattle.serde_json.specs.View.{view}
use Rattle.lock_files.proofs.Collecting.{AreUptoName, HasKey, added-kept, not_written, upto-added, upto-done, upto-more}
use Rattle.lock_files.proofs.Collecting.{upto-none, upto-start, written-key}
use Rattle.lock_files.proofs.Added.{all-added, as-before, extends-more, fault-added, one-more}
use Rattle.lock_files.proofs.Telling.{AreToldKeys, field-fault, has-text, none-in, range-fault, told-done, told-key}
use Rattle.lock_files.proofs.Telling.{told-start}
use Rattle.lock_files.specs.Lookups.{field_name, written_in}
use Rattle.lock_files.specs.Faults.{IsFieldFault, IsPackageFault, IsRangeFault}
use Rattle.lock_files.specs.declared.fault.Fault.TheVariants.{Range}
use Rattle.lock_files.specs.declared.lock.Dependency.{Dependency}
use Rattle.lock_files.specs.declared.lock.Wanted.TheVariants.{Text}
use Rattle.lock_files.proofs.lock.add_field.Goals as goal

pub returns-in-Ok-None : goal.returns-in-Ok-None
returns-in-Ok-None c =
    let p = c.args.package in
    let f = c.args.field in
    let faults = c.args.faults.now.items in
    let none = rw c.in-Ok-None.field-0-is at c.in-Ok-None.ensures.none in record {
      each = λ lock is all. all;
      all = λ most ranked. upto-none p c.args.found.now f most ranked
          (λ name. not_written p.folder.now (view p.fields.now) f name none);
      more = λ are d at. at;
      kept = as-before faults;
      told = λ read. none-in p.folder.now (view p.fields.now) f faults (none read)
          (λ wrong. absurd ((rw c.in-Ok-None.field-0-is at c.in-Ok-None.ensures.absent) read wrong));
      wrong = λ lock is all. all;
    }

pub returns-in-Err : goal.returns-in-Err
returns-in-Err c =
    let p = c.args.package in
    let f = c.args.field in
    let before = c.args.faults.now.items in
    let after = c.push.new.self.items in
    let fault = c.in-Err.fault in
    let same = c.in_ok-push-in-Err.ensures.items in record {
      each = λ lock is all. all;
      all = λ most ranked. upto-none p c.args.found.now f most ranked
          (λ name. not_written p.folder.now (view p.fields.now) f name (λ _. c.in-Err.ensures.fault));
      more = λ are d at. at;
      kept = one-more before after fault same;
      told = λ read. none-in p.folder.now (view p.fields.now) f after c.in-Err.ensures.fault
          (λ wrong. fault-added before after (IsFieldFault p.folder.now (field_name f)) fault same c.in-Err.ensures.told);
      wrong = λ lock is all. all-added (IsPackageFault lock) before after fault all same
          (field-fault lock p f fault is c.in-Err.ensures.told c.in-Err.ensures.wrong);
    }

pub loop-name-init : goal.loop-name-init
loop-name-init c = record {
  each = λ lock is all. all;
  named = λ are. are;
  all = λ most ranked. upto-start c.args.package c.args.found.now c.args.field most ranked;
  more = λ are d at. at;
  kept = as-before c.args.faults.now.items;
  told = told-start c.args.package c.args.field c.args.faults.now.items;
  wrong = λ lock is all. all;
}

pub loop-name-preserved-in_default : goal.loop-name-preserved-in_default
loop-name-preserved-in_default c =
    let p = c.args.package in
    let f = c.args.field in
    let key = c.in-Some.name in
    let keys = map deref c.loop-name.yielded in
    let before = c.loop-name.faults.items in
    let after = c.push-in_default.new.self.items in
    let fault = Range p.folder c.as_str-name.result in
    let same = c.in_ok-push.ensures.items in
    let none = subst (λ n. None ≡ written_in f n (view p.fields.now)) c.as_str-name.ensures.value c.in_default.ensures in record {
      each = c.loop-name.invariant.each;
      named = c.loop-name.invariant.named;
      all = λ most ranked are.
          subst (λ keys. AreUptoName p f keys c.loop-name.found) (sym (map-append deref c.loop-name.yielded (key ∷ [])))
          (upto-more p c.loop-name.found f keys key.now none (c.loop-name.invariant.all most ranked are));
      more = c.loop-name.invariant.more;
      kept = extends-more c.args.faults.now.items before after fault c.loop-name.invariant.kept same;
      told = subst (λ keys. AreToldKeys p f keys after) (sym (map-append deref c.loop-name.yielded (key ∷ [])))
          (told-key p f keys key.now before after (one-more before after fault same)
          (λ wrong. fault-added before after (IsRangeFault p.folder.now (string_bytes key.now)) fault same
          (refl, c.as_str-name.ensures.value)) c.loop-name.invariant.told);
      wrong = λ lock is all.
          let es = c.in-Ok-Some.ranges.now.entries in
          let turn = iter_turn deref (keys_of es) c.loop-name.yielded c.into_iter-name-iterator.result c.loop-name.name-iterator
          c.next.new.self c.next.result (c.into_iter-name-iterator.ensures.into_iter_gives ∙ c.keys-name-items.ensures.rest)
          c.loop-name.yielded_by key c.in-Some.is c.next.ensures.steps in
          all-added (IsPackageFault lock) before after fault (c.loop-name.invariant.wrong lock is all) same
          (range-fault lock p f c.as_str-name.result es (length c.loop-name.yielded) key.now is
          (rw c.in-Ok-Some.field-0-is at c.in-Ok-Some.ensures.read) (rw c.in-Ok-Some.field-0-is at c.in-Ok-Some.ensures.found)
          turn.1 c.as_str-name.ensures.value none);
    }

pub loop-name-preserved : goal.loop-name-preserved
loop-name-preserved c =
    let p = c.args.package in
    let f = c.args.field in
    let key = c.in-Some.name in
    let keys = map deref c.loop-name.yielded in
    let before = c.loop-name.found in
    let after = c.add.new.self in
    let faults = c.loop-name.faults.items in
    let text = c.in-Some-written.range in
    let d : Dependency = record { «package» = p; field = f; name = c.as_str-name.result; wanted = Text text } in record {
      each = λ lock is all. c.in_ok-add.ensures.each lock (is, sym c.in-Some-written.ensures)
          (c.loop-name.invariant.each lock is all);
      named = λ are. c.in_ok-add.ensures.named (c.loop-name.invariant.named are);
      all = λ most ranked are.
          let upto = c.loop-name.invariant.all most ranked are in
          subst (λ keys. AreUptoName p f keys after) (sym (map-append deref c.loop-name.yielded (key ∷ [])))
          (upto-added p before f keys key.now d after refl refl c.as_str-name.ensures.value
          (c.in_ok-add.ensures.named upto.named) (c.in_ok-add.ensures.added upto.named) upto);
      more = λ are x at.
          subst (λ ds. Contains ds x) (sym (c.in_ok-add.ensures.added (c.loop-name.invariant.named are)))
          (added-kept before.first.items d x (c.loop-name.invariant.more are x at));
      kept = c.loop-name.invariant.kept;
      told = subst (λ keys. AreToldKeys p f keys faults) (sym (map-append deref c.loop-name.yielded (key ∷ [])))
          (told-key p f keys key.now faults faults (as-before faults)
          (λ wrong. absurd (has-text (view p.fields.now) f (string_bytes key.now) text.now
          (subst (λ n. Some text.now ≡ written_in f n (view p.fields.now)) c.as_str-name.ensures.value c.in-Some-written.ensures) wrong))
          c.loop-name.invariant.told);
      wrong = c.loop-name.invariant.wrong;
    }

pub returns : goal.returns
returns c =
    let p = c.args.package in
    let f = c.args.field in
    let es = c.in-Ok-Some.ranges.now.entries in
    let keys = map deref c.loop-name.yielded in
    let is = rw c.in-Ok-Some.field-0-is at c.in-Ok-Some.ensures.found in
    let ends = iter_end deref (keys_of es) c.loop-name.yielded c.into_iter-name-iterator.result c.loop-name.name-iterator
    c.next.new.self c.next.result (c.into_iter-name-iterator.ensures.into_iter_gives ∙ c.keys-name-items.ensures.rest)
    c.loop-name.yielded_by c.in-None.is c.next.ensures.steps in record {
      each = c.loop-name.invariant.each;
      all = λ most ranked are. upto-done p c.loop-name.found f most ranked keys
          (λ name w. subst (λ ks. HasKey ks name) (sym ends.0) (written-key p.folder.now (view p.fields.now) f name es is w))
          (c.loop-name.invariant.all most ranked are);
      more = c.loop-name.invariant.more;
      kept = c.loop-name.invariant.kept;
      told = λ read. told-done p f es keys c.loop-name.faults.items is ends.0 c.loop-name.invariant.told;
      wrong = c.loop-name.invariant.wrong;
    }
