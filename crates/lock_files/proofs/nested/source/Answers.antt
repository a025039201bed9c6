use Rattle.std.proofs.Common.{◌∙◌, Option, subst, sym, true≢false}
use Rattle.std.specs.Prelude.{IfSome}
use Rattle.serde_json.specs.View.{view}
use Rattle.lock_files.specs.Nested.{IsSource, SaysSource}
use Rattle.lock_files.specs.Nested.IsSource.{by_version, otherwise}
use Rattle.lock_files.specs.declared.specifier.Specifier.{Specifier}
use Rattle.lock_files.proofs.nested.source.Goals as goal
use Rattle.lock_files.proofs.nested.source.Goals.{in_default-via-in-Some+else-says_source, in_default-via-in_default}

pub returns-in-Some : goal.returns-in-Some
returns-in-Some c = by_version c.in-Some.version c.in-Some.ensures (c.says_source.ensures.0 c.if-says_source.true)

pub returns-in_default : goal.returns-in_default
returns-in_default c =
    subst (IsSource (view c.args.entry.now)) (sym c.or.ensures)
    (otherwise c.specifier.result c.specifier-in_default.result c.specifier-in_default-2.result c.specifier.ensures
    (elim c.in_default.branch [
      | in_default-via-in-Some+else-says_source w ↦ subst Unsaid (sym w.in-Some.is) (λ says.
          true≢false (sym (w.says_source.ensures.1 says) ∙ w.if-says_source.false))
      | in_default-via-in_default w ↦ subst Unsaid (sym w.in_default.is) tt
    ]) c.specifier-in_default.ensures c.specifier-in_default-2.ensures)
  where
    Unsaid : Option Specifier → Type 0
    Unsaid version = IfSome version (λ v. ¬ (SaysSource (view c.args.entry.now) v))
