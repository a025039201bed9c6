use Rattle.std.proofs.Common.{Some, ◌≡◌}
use Rattle.std.proofs.lemmas.Result.{IfOk-weaker}
use Rattle.serde_json.specs.View.{members_view, view}
use Rattle.lock_files.specs.Documents.{AreLocked, locked_in}
use Rattle.lock_files.specs.Documents.AreLocked.{as_they_are}
use Rattle.lock_files.proofs.packages.locked.Goals as goal

pub returns-then-has_packages : goal.returns-then-has_packages
returns-then-has_packages c =
    IfOk-weaker c.taken.result (λ m. locked_in (view c.args.file) ≡ Some (members_view m.entries))
    (λ m. AreLocked (view c.args.file) (members_view m.entries))
    (λ m same. as_they_are (members_view m.entries) same) c.taken.ensures
