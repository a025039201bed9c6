use Rattle.std.proofs.Common.{◌≡◌, ◌∷◌, ◌++◌, ◌∙◌, [], ap, append-nil, append_assoc, arith, codes, string_bytes, subst, sym}
use Rattle.std.proofs.lemmas.Result.{on_ok_weaker}
use Rattle.std.specs.Prelude.{unwrap_or}
use Rattle.serde_json.proofs.Views.{Entry}
use Rattle.serde_json.specs.Data.{members_depth, no_members}
use Rattle.serde_json.specs.View.{members_view, view}
use Rattle.lock_files.specs.Internal.Nesting.{AddsAll, AddsEntry}
use Rattle.lock_files.proofs.Adding.{added-entry, added-nothing, added-one, depth-among, depth-within}
use Rattle.lock_files.proofs.nested.+nested.Goals as goal

pub add-add_all-requires : goal.add-add_all-requires
add-add_all-requires t c = (
  omega (
    arith,
    depth-within (codes "dependencies") (view c.args.entry.now) (members_view c.in-Some.entries.now.entries)
        c.in-Some.ensures,
  ),
  tt,
)

pub add-returns-in-Some : goal.add-returns-in-Some
add-returns-in-Some t c =
    on_ok_weaker c.add_all.result (λ inner. added-entry c.args.folder.now c.args.name.now c.deref.result.now
    (string_bytes c.in_ok-within.within) (view c.args.entry.now) (members_view c.in-Some.entries.now.entries)
    (members_view c.args.packages.now.entries) (members_view c.add_own.new.packages.entries)
    (members_view c.add_all.new.packages.entries) (c.deref.ensures ∙ c.in_ok-folder.ensures) c.in_ok-within.ensures
    (ap (λ o. unwrap_or o no_members) c.in-Some.ensures)
    (subst (λ f. AddsAll f (members_view c.in-Some.entries.now.entries) (members_view c.add_own.new.packages.entries)
    (members_view c.add_all.new.packages.entries)) c.deref-in-Some.ensures inner)) c.add_all.ensures

pub add-returns : goal.add-returns
add-returns t c =
    added-entry c.args.folder.now c.args.name.now c.deref.result.now (string_bytes c.in_ok-within.within)
    (view c.args.entry.now) no_members (members_view c.args.packages.now.entries)
    (members_view c.add_own.new.packages.entries) (members_view c.add_own.new.packages.entries)
    (c.deref.ensures ∙ c.in_ok-folder.ensures) c.in_ok-within.ensures
    (ap (λ o. unwrap_or o no_members) c.in-None.ensures)
    (added-nothing (string_bytes c.in_ok-within.within) (members_view c.add_own.new.packages.entries))

pub add_all-loop-name-init : goal.add_all-loop-name-init
add_all-loop-name-init t c = record {
  done = [];
  all = sym (append-nil c.into_iter-name-iterator.result.iter ∙ ap (λ s. s.iter) c.into_iter-name-iterator.ensures.into_iter_gives
      ∙ c.rev-name-items.ensures.source ∙ c.iter.ensures.rest);
  added = added-nothing c.args.folder.now (members_view c.args.packages.now.entries);
}

pub add_all-add-requires : goal.add_all-add-requires
add_all-add-requires t c =
    let e : Entry = (c.in-Some.name.now, c.in-Some.entry.now) in
    let left = c.next.new.self.iter in
    let done = c.loop-name.invariant.done in
    let all : c.args.dependencies.now.entries ≡ left ++ e ∷ done
    = c.loop-name.invariant.all ∙ ap (λ es. es ++ done) c.in-Some.ensures.steps ∙ append_assoc left (e ∷ []) done in
    (omega (arith, ap (λ es. members_depth (members_view es)) all, depth-among left e done), tt)

pub add_all-loop-name-preserved : goal.add_all-loop-name-preserved
add_all-loop-name-preserved t c =
    let e : Entry = (c.in-Some.name.now, c.in-Some.entry.now) in
    let left = c.next.new.self.iter in
    let done = c.loop-name.invariant.done in record {
      done = e ∷ done;
      all = c.loop-name.invariant.all ∙ ap (λ es. es ++ done) c.in-Some.ensures.steps ∙ append_assoc left (e ∷ []) done;
      added = added-one c.args.folder.now (string_bytes e.0) (view e.1) (members_view done)
          (members_view c.args.packages.now.entries) (members_view c.loop-name.packages.entries)
          (members_view c.add.new.packages.entries) c.loop-name.invariant.added
          (subst (λ name. AddsEntry c.args.folder.now name (view e.1) (members_view c.loop-name.packages.entries)
          (members_view c.add.new.packages.entries)) c.as_str.ensures.value c.in_ok-add.ensures);
    }
