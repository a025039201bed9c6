use Rattle.std.proofs.Common.{All, map}
use Rattle.std.specs.Map.Iter.{deref}
use Rattle.lock_files.proofs.Completing.{AreEach}
use Rattle.lock_files.proofs.Single.{IsKeyed}
use Rattle.lock_files.specs.Edges.{AreAllLocked, AreApartEdges, AreInOrder, IsEdge}
use Rattle.lock_files.specs.Faults.{Extends, HasAllFaults, IsPackageFault}
use Rattle.lock_files.specs.Internal.Patterns.{AreMeantLinked}
use Rattle.lock_files.specs.Internal.Collected.{AreTextsTold}
use Rattle.lock_files.proofs.edge.edges.Given as goal

abbrev pub invariant-loop-folder : goal.invariant-loop-folder
invariant-loop-folder l = record {
  each : All (IsEdge l.lock) l.edges.items;
  all : AreEach l.lock (map deref l.yielded) (λ folder fields. AreAllLocked l.lock folder fields l.edges.items);
  apart : AreApartEdges l.edges.items;
  ordered : AreInOrder l.edges.items;
  keyed : All (IsKeyed (map deref l.yielded)) l.edges.items;
  workspaces : AreEach l.lock (map deref l.yielded) (AreMeantLinked l.lock l.edges.items);
  kept : Extends l.fn.faults.items l.faults.items;
  told : AreEach l.lock (map deref l.yielded) (HasAllFaults l.faults.items);
  texts : AreEach l.lock (map deref l.yielded) (AreTextsTold l.faults.items);
  wrong : All (IsPackageFault l.lock) l.fn.faults.items → All (IsPackageFault l.lock) l.faults.items;
}
