use Rattle.std.proofs.Common.{Some}
use Rattle.serde_json.specs.View.{view}
use Rattle.lock_check.specs.Internal.Overriding.{AreAllLaid, IsScopeOf}
use Rattle.lock_check.specs.Overrides.{Place}
use Rattle.lock_files.specs.declared.lock.Package.{Package}
use Rattle.lock_check.proofs.Laying.{IsBefore}
use Rattle.lock_check.proofs.overrides.Overrides.found.Given as goal

abbrev pub invariant-loop : goal.invariant-loop
invariant-loop l = (root : Package) (place : Place) → AreAllLaid (Some root) l.self.rules.items
    → IsScopeOf l.self.rules.items l.fn.scope place
    → IsBefore l.self.rules.items (view root.fields.now) l.dependency place l.around l.counter
