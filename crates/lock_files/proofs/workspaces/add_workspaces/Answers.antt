use Rattle.std.proofs.Common.{◌≡◌, ◌∙◌, inl, subst, sym}
use Rattle.lock_files.proofs.Around.{empty_folder}
use Rattle.lock_files.proofs.Added.{all-added, fault-added, one-more}
use Rattle.lock_files.proofs.Items.{found-no_list, texts-wrong}
use Rattle.lock_files.specs.Faults.{IsPackageFault}
use Rattle.lock_files.specs.declared.fault.Fault.TheVariants.{Workspaces}
use Rattle.lock_files.proofs.workspaces.add_workspaces.Goals as goal

pub returns-in_ok-add_items-in-Ok-Some : goal.returns-in_ok-add_items-in-Ok-Some
returns-in_ok-add_items-in-Ok-Some c =
    let some = rw c.in-Ok-Some.field-0-is at c.in-Ok-Some.ensures.some in
    let empty = empty_folder c.args.root.folder.now (sym c.is_empty.ensures ∙ c.if-not-is_empty.false) in record {
      each = λ is. c.in_ok-add_items-in-Ok-Some.ensures.each some (is, empty);
      alone = c.in_ok-add_items-in-Ok-Some.ensures.alone;
      all = c.in_ok-add_items-in-Ok-Some.ensures.all some;
      kept = c.in_ok-add_items-in-Ok-Some.ensures.kept;
      told = c.in_ok-add_items-in-Ok-Some.ensures.told some;
      wrong = λ is. c.in_ok-add_items-in-Ok-Some.ensures.wrong some (is, empty);
    }

pub returns-in_ok-push-in-Err : goal.returns-in_ok-push-in-Err
returns-in_ok-push-in-Err c =
    let before = c.args.faults.now.items in
    let after = c.push.new.self.items in
    let same = c.in_ok-push-in-Err.ensures.items in
    let empty = empty_folder c.args.root.folder.now (sym c.is_empty.ensures ∙ c.if-not-is_empty.false) in record {
      each = λ is all. all;
      alone = λ are. are;
      all = λ are. found-no_list c.args.lock c.args.root c.args.found.now.first.items c.in-Err.ensures.wrong;
      kept = one-more before after c.in-Err.fault same;
      told = λ root wrong. fault-added before after (λ f. f ≡ Workspaces) c.in-Err.fault same c.in-Err.ensures.fault;
      wrong = λ is all. all-added (IsPackageFault c.args.lock) before after c.in-Err.fault all same
          (subst (IsPackageFault c.args.lock) (sym c.in-Err.ensures.fault)
          (texts-wrong c.args.lock c.args.root empty is (inl c.in-Err.ensures.wrong)));
    }
