use Rattle.std.proofs.Common.{◌∙◌, ap, not}
use Rattle.serde_json.proofs.Views.{view-Object}
use Rattle.serde_json.specs.Data.{object, put}
use Rattle.serde_json.specs.View.{members_view, view}
use Rattle.lock_files.specs.Nested.{kept}
use Rattle.lock_files.proofs.Adding.{with-target-none, with-target-there}
use Rattle.lock_files.proofs.Nesting.{is-there}
use Rattle.lock_files.proofs.nested.add_target.Goals as goal

pub returns-in_ok-put : goal.returns-in_ok-put
returns-in_ok-put c =
    let folder = c.args.folder.now in
    let packages = c.args.packages.now in
    c.in_ok-put.ensures.ok
    ∙ ap (λ fields. put folder fields (members_view packages.entries))
    (view-Object c.in_ok-kept.field-0 ∙ ap object c.in_ok-kept.ensures)
    ∙ with-target-none folder (object (kept (view c.args.entry.now))) (members_view packages.entries)
    (is-there folder packages c.get.result c.get.ensures.value ∙ c.is_none.ensures ∙ ap not c.if-is_none.true)

pub returns-else-is_none : goal.returns-else-is_none
returns-else-is_none c =
    let folder = c.args.folder.now in
    let packages = c.args.packages.now in
    with-target-there folder (object (kept (view c.args.entry.now))) (members_view packages.entries)
    (is-there folder packages c.get.result c.get.ensures.value ∙ c.is_none.ensures ∙ ap not c.if-is_none.false)
