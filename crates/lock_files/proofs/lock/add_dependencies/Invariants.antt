use Rattle.std.proofs.Common.{All}
use Rattle.lock_files.proofs.Telling.{AreToldUpto}
use Rattle.lock_files.specs.Internal.Collected.{AreUpto, AreWorkspaces}
use Rattle.lock_files.specs.Faults.{Extends, IsPackageFault}
use Rattle.lock_files.specs.Internal.Patterns.{Keeps}
use Rattle.lock_files.specs.Lookups.{IsPackage}
use Rattle.lock_files.specs.Dependencies.{IsDeclared}
use Rattle.lock_files.specs.declared.lock.Lock.{Lock}
use Rattle.lock_files.proofs.lock.add_dependencies.Given as goal

abbrev pub invariant-loop-field : goal.invariant-loop-field
invariant-loop-field l = record {
  each : (lock : Lock) → IsPackage lock l.package → All (IsDeclared lock) l.fn.found.first.items
      → All (IsDeclared lock) l.found.first.items;
  all : AreWorkspaces l.package l.fn.found → AreUpto l.package l.field-index l.found;
  more : AreWorkspaces l.package l.fn.found → Keeps l.fn.found.first.items l.found.first.items;
  kept : Extends l.fn.faults.items l.faults.items;
  told : AreToldUpto l.package l.field-index l.faults.items;
  wrong : (lock : Lock) → IsPackage lock l.package → All (IsPackageFault lock) l.fn.faults.items → All (IsPackageFault lock) l.faults.items;
}
