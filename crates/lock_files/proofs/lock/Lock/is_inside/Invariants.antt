use Rattle.std.proofs.Common.{IsUtf8, length}
use Rattle.lock_files.proofs.Around.{AreLonger}
use Rattle.lock_files.specs.Lookups.{IsAround, LocksIn}
use Rattle.lock_files.proofs.lock.Lock.is_inside.Given as goal

abbrev pub invariant-loop-place : goal.invariant-loop-place
invariant-loop-place l = IsUtf8 l.place × (IsAround l.folder l.place
    × AreLonger (λ p. ¬ (LocksIn l.self p l.folder)) l.folder (length l.place))

abbrev pub decreases-loop-place : goal.decreases-loop-place
decreases-loop-place l = length l.place
