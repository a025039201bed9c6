use Rattle.std.proofs.Common.{◌≡◌, ◌+◌, All, map, ℕ}
use Rattle.std.specs.Map.Iter.{deref}
use Rattle.lock_files.proofs.Collecting.{AreUptoName}
use Rattle.lock_files.proofs.Telling.{AreToldKeys}
use Rattle.lock_files.specs.Internal.Collected.{AreNamed, AreUpto}
use Rattle.lock_files.specs.Faults.{Extends, IsPackageFault}
use Rattle.lock_files.specs.Internal.Patterns.{Keeps}
use Rattle.lock_files.specs.Lookups.{IsPackage}
use Rattle.lock_files.specs.Dependencies.{IsDeclared, rank}
use Rattle.lock_files.specs.declared.lock.Lock.{Lock}
use Rattle.lock_files.proofs.lock.add_field.Given as goal

abbrev pub invariant-loop-name : goal.invariant-loop-name
invariant-loop-name l = record {
  each : (lock : Lock) → IsPackage lock l.package → All (IsDeclared lock) l.fn.found.first.items
      → All (IsDeclared lock) l.found.first.items;
  named : AreNamed l.fn.found → AreNamed l.found;
  all : (most : ℕ) → rank l.field ≡ most + 1 → AreUpto l.package most l.fn.found
      → AreUptoName l.package l.field (map deref l.yielded) l.found;
  more : AreNamed l.fn.found → Keeps l.fn.found.first.items l.found.first.items;
  kept : Extends l.fn.faults.items l.faults.items;
  told : AreToldKeys l.package l.field (map deref l.yielded) l.faults.items;
  wrong : (lock : Lock) → IsPackage lock l.package → All (IsPackageFault lock) l.fn.faults.items → All (IsPackageFault lock) l.faults.items;
}
