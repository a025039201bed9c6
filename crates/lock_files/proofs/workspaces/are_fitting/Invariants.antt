use Rattle.std.proofs.Common.{IsUtf8, length, ◌↔◌}
use Rattle.lock_files.specs.Workspaces.{AreFitting, parts}
use Rattle.lock_files.proofs.workspaces.are_fitting.Given as goal

abbrev pub invariant-loop-part : goal.invariant-loop-part
invariant-loop-part l = IsUtf8 l.pattern × (IsUtf8 l.folder
    × (AreFitting (parts l.pattern) (parts l.folder) ↔ AreFitting (parts l.fn.pattern) (parts l.fn.folder)))

abbrev pub decreases-loop-part : goal.decreases-loop-part
decreases-loop-part l = length l.pattern
