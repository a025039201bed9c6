use Rattle.std.proofs.Common.{All, map}
use Rattle.std.specs.Map.Iter.{deref}
use Rattle.serde_json.specs.View.{view}
use Rattle.lock_files.specs.Internal.Collected.{AreWorkspaces}
use Rattle.lock_files.specs.Internal.Patterns.{IsRoot, Keeps}
use Rattle.lock_files.specs.Dependencies.{IsDeclared}
use Rattle.lock_files.specs.Workspaces.{HasText}
use Rattle.lock_files.proofs.Items.{AreKeysFound}
use Rattle.lock_files.proofs.workspaces.add_meant.Given as goal

abbrev pub invariant-loop-folder : goal.invariant-loop-folder
invariant-loop-folder l = record {
  each : IsRoot l.lock l.root → HasText (view l.root.fields.now) l.text → All (IsDeclared l.lock) l.fn.found.first.items
      → All (IsDeclared l.lock) l.found.first.items;
  alone : AreWorkspaces l.root l.fn.found → AreWorkspaces l.root l.found;
  more : AreWorkspaces l.root l.fn.found → Keeps l.fn.found.first.items l.found.first.items;
  here : AreWorkspaces l.root l.fn.found
      → AreKeysFound l.lock l.root l.pattern (map deref l.yielded) l.found.first.items;
}
