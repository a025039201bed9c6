use Rattle.std.proofs.Common.{◌∷◌, ◌∙◌, [], length, map, subst, sym}
use Rattle.std.proofs.lemmas.Bool.{iff_false}
use Rattle.std.proofs.lemmas.List.{map-append}
use Rattle.std.proofs.lemmas.Map.Iter.{iter_end, iter_turn}
use Rattle.std.specs.Map.{keys_of}
use Rattle.std.specs.Map.Iter.{deref}
use Rattle.serde_json.specs.View.{view}
use Rattle.lock_files.proofs.Items.{AreKeysFound, found-stars, keys-more}
use Rattle.lock_files.proofs.Patterns.{fitting-is}
use Rattle.lock_files.proofs.Telling.{key-some}
use Rattle.lock_files.specs.Internal.Patterns.{HasWorkspace, Takes}
use Rattle.lock_files.proofs.workspaces.add_meant.Goals as goal

pub loop-folder-preserved-in-Continue-1 : goal.loop-folder-preserved-in-Continue-1
loop-folder-preserved-in-Continue-1 c =
    let lock = c.args.lock in
    let root = c.args.root in
    let es = lock.packages.now.entries in
    let text = c.args.text.now in
    let own = c.of-pattern.result in
    let key = c.in-Some.folder in
    let folder = c.as_str-folder.result.now in
    let after = c.add_workspace-then-takes.new.found.first.items in
    let turn = iter_turn deref (keys_of es) c.loop-folder.yielded c.into_iter-folder-iterator.result
    c.loop-folder.folder-iterator c.next.new.self c.next.result
    (c.into_iter-folder-iterator.ensures.into_iter_gives ∙ c.keys-folder-items.ensures.rest) c.loop-folder.yielded_by key
    c.in-Some.is c.next.ensures.steps in
    let has = key-some folder es (length c.loop-folder.yielded) key.now turn.1 (sym c.as_str-folder.ensures.value) in
    let takes = c.takes.ensures.0 c.if-takes.true in record {
      each = λ is among all. c.in_ok-add_workspace.ensures.each is.0 is.1
          (fitting-is (view root.fields.now) lock text folder among own c.of-pattern.ensures takes.2 (has, takes.0, takes.1))
          (c.loop-folder.invariant.each is among all);
      alone = λ are. c.in_ok-add_workspace.ensures.alone (c.loop-folder.invariant.alone are);
      more = λ are d at. c.in_ok-add_workspace.ensures.more (c.loop-folder.invariant.alone are) d
          (c.loop-folder.invariant.more are d at);
      here = λ are.
          let were = c.loop-folder.invariant.alone are in
          subst (λ keys. AreKeysFound lock root own keys after) (sym (map-append deref c.loop-folder.yielded (key ∷ [])))
          (keys-more lock root own (map deref c.loop-folder.yielded) key.now c.loop-folder.found.first.items after
          (c.in_ok-add_workspace.ensures.more were)
          (λ project fits. subst (HasWorkspace lock after root.folder.now) c.as_str-folder.ensures.value
          (c.in_ok-add_workspace.ensures.has were)) (c.loop-folder.invariant.here are));
    }

pub loop-folder-preserved : goal.loop-folder-preserved
loop-folder-preserved c =
    let key = c.in-Some.folder in
    let own = c.of-pattern.result in
    let found = c.loop-folder.found.first.items in record {
      each = c.loop-folder.invariant.each;
      alone = c.loop-folder.invariant.alone;
      more = c.loop-folder.invariant.more;
      here = λ are.
          subst (λ keys. AreKeysFound c.args.lock c.args.root own keys found)
          (sym (map-append deref c.loop-folder.yielded (key ∷ [])))
          (keys-more c.args.lock c.args.root own (map deref c.loop-folder.yielded) key.now found found (λ d at. at)
          (λ project fits. absurd (iff_false c.takes.ensures c.if-takes.false
          (subst (Takes own) (sym c.as_str-folder.ensures.value) (project.1, project.2, fits))))
          (c.loop-folder.invariant.here are));
    }

pub returns : goal.returns
returns c =
    let lock = c.args.lock in
    let found = c.loop-folder.found.first.items in
    let own = c.of-pattern.result in
    let ends = iter_end deref (keys_of lock.packages.now.entries) c.loop-folder.yielded c.into_iter-folder-iterator.result
    c.loop-folder.folder-iterator c.next.new.self c.next.result
    (c.into_iter-folder-iterator.ensures.into_iter_gives ∙ c.keys-folder-items.ensures.rest) c.loop-folder.yielded_by
    c.in-None.is c.next.ensures.steps in record {
      each = c.loop-folder.invariant.each;
      alone = c.loop-folder.invariant.alone;
      more = c.loop-folder.invariant.more;
      all = λ are. found-stars lock c.args.root c.args.text.now found own c.of-pattern.ensures c.in_default.not-Folder
          (subst (λ keys. AreKeysFound lock c.args.root own keys found) ends.0 (c.loop-folder.invariant.here are));
    }
