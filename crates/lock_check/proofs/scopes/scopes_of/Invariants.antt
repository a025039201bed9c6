use Rattle.std.proofs.Common.{Some}
use Rattle.serde_json.specs.View.{view}
use Rattle.lock_check.proofs.Standing.{AreChosenUpTo, AreStanding}
use Rattle.lock_check.specs.Internal.Overriding.{AreAllLaid}
use Rattle.lock_files.specs.declared.lock.Package.{Package}
use Rattle.lock_check.proofs.scopes.scopes_of.Given as goal

abbrev pub invariant-loop-number : goal.invariant-loop-number
invariant-loop-number l = record {
  chosen : (root : Package) → AreAllLaid (Some root) l.overrides.rules.items
      → AreChosenUpTo l.overrides.rules.items (view root.fields.now) l.edges l.number-items l.number-index l.of_edges;
  stand : (root : Package) → AreAllLaid (Some root) l.overrides.rules.items
      → AreStanding l.overrides.rules.items (view root.fields.now) l.edges l.number-items l.number-index l.of_packages;
}
