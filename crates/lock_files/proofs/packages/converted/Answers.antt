use Rattle.std.proofs.Common.{ap, subst, sym}
use Rattle.serde_json.specs.View.{members_view, view}
use Rattle.lock_files.specs.Documents.{AreLocked}
use Rattle.lock_files.specs.Documents.AreLocked.{converted, nothing}
use Rattle.lock_files.proofs.packages.converted.Goals as goal

pub returns-in_ok-packages-in-Some : goal.returns-in_ok-packages-in-Some
returns-in_ok-packages-in-Some c = λ none.
    converted (members_view c.in-Some.entries.now.entries) (members_view c.in_ok-packages-in-Some.field-0.entries)
    none (sym c.in-Some.ensures) c.in_ok-packages-in-Some.ensures

pub returns-in-None : goal.returns-in-None
returns-in-None c = λ none.
    subst (AreLocked (view c.args.file.now)) (sym (ap members_view c.new.ensures.empty))
    (nothing none (c.has_none.ensures.0 c.if-has_none.true))
