use Rattle.std.proofs.Common.{All}
use Rattle.lock_files.specs.Internal.Collected.{AreWorkspaces}
use Rattle.lock_files.specs.Internal.Patterns.{AreTextsOf, IsRoot}
use Rattle.lock_files.specs.Faults.{Extends, IsPackageFault}
use Rattle.lock_files.specs.Dependencies.{IsDeclared}
use Rattle.lock_files.proofs.Items.{AreItemsFound, AreItemsTold}
use Rattle.lock_files.proofs.workspaces.add_items.Given as goal

abbrev pub invariant-loop-item : goal.invariant-loop-item
invariant-loop-item l = record {
  each : AreTextsOf l.root l.list.items → IsRoot l.lock l.root → All (IsDeclared l.lock) l.fn.found.first.items
      → All (IsDeclared l.lock) l.found.first.items;
  alone : AreWorkspaces l.root l.fn.found → AreWorkspaces l.root l.found;
  all : AreWorkspaces l.root l.fn.found
      → AreItemsFound l.lock l.root l.item-items l.item-index l.found.first.items;
  kept : Extends l.fn.faults.items l.faults.items;
  told : AreItemsTold l.item-items l.item-index l.faults.items;
  wrong : AreTextsOf l.root l.list.items → IsRoot l.lock l.root → All (IsPackageFault l.lock) l.fn.faults.items
      → All (IsPackageFault l.lock) l.faults.items;
}
