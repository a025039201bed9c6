use Rattle.std.proofs.Common.{IsUtf8, length}
use Rattle.lock_files.specs.Lookups.{IsAround, NoneCloser}
use Rattle.lock_files.proofs.lock.Lock.closest.Given as goal

abbrev pub invariant-loop-found : goal.invariant-loop-found
invariant-loop-found l = IsUtf8 l.place × (IsAround l.folder l.place × NoneCloser l.self l.folder l.name (length l.place))

abbrev pub decreases-loop-found : goal.decreases-loop-found
decreases-loop-found l = length l.place
