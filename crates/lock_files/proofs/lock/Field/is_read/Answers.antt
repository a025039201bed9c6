use Rattle.std.proofs.Common.{subst, sym}
use Rattle.std.specs.Prelude.{IsTrue, not}
use Rattle.lock_files.proofs.Telling.{not-iff}
use Rattle.lock_files.specs.Dependencies.{IsRead}
use Rattle.lock_files.specs.Lookups.{IsInstalled}
use Rattle.lock_files.proofs.lock.Field.is_read.Goals as goal

pub returns-in-Development : goal.returns-in-Development
returns-in-Development c =
    subst (λ f. (IsTrue (not c.is_installed.result) → IsRead f c.args.folder.now) × (IsRead f c.args.folder.now → IsTrue (not c.is_installed.result)))
    (sym c.in-Development.is) (not-iff c.is_installed.result (IsInstalled c.args.folder.now) c.is_installed.ensures)
