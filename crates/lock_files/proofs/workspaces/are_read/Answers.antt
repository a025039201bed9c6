use Rattle.std.proofs.Common.{rules, tests}
use Rattle.std.proofs.lemmas.Iterator.{YieldsList-from_slice, cases_from_all}
use Rattle.serde_json.specs.View.{items_view, view}
use Rattle.lock_files.proofs.Patterns.{IsNoReadValue, IsReadValue, all-read, list-read, read-list}
use Rattle.lock_files.proofs.workspaces.are_read.Goals as goal

pub returns-in-Ok-Some : goal.returns-in-Ok-Some
returns-in-Ok-Some c =
    let root = view c.args.root.fields.now in
    let vs = c.in-Ok-Some.list.now.items in
    let all = all-read vs c.all.result
    (cases_from_all _ _ _ IsReadValue IsNoReadValue c.all.ensures.ran (YieldsList-from_slice vs (cc)) (λ x q k. search (rules, tests)) (λ x q k. search (rules, tests))) in
    let some = rw c.in-Ok-Some.field-0-is at c.in-Ok-Some.ensures.some in (
      λ is. read-list root (items_view vs) some (all.0 is),
      λ read. all.1 (list-read root (items_view vs) some read),
    )
