use Rattle.std.proofs.Common.{◌≢◌, All, List, ℕ}
use Rattle.std.specs.List.{AllWithin}
use Rattle.lock_files.proofs.Single.{IsOneBefore}
use Rattle.lock_files.specs.Edges.{AreApartEdges, AreInOrder, IsEdge, IsUpTo}
use Rattle.lock_files.specs.Internal.Collected.{AreOwn, IsTaken}
use Rattle.lock_files.specs.Faults.{Extends}
use Rattle.lock_files.specs.Dependencies.{IsDeclared}
use Rattle.lock_files.proofs.edge.add_edges.Given as goal

abbrev pub invariant-loop-dependency : goal.invariant-loop-dependency
invariant-loop-dependency l = record {
  each : All (IsDeclared l.lock) l.dependencies → All (IsEdge l.lock) l.fn.edges.items
      → All (IsEdge l.lock) l.edges.items;
  kept : Extends l.fn.edges.items l.edges.items;
  all : AllWithin (IsTaken l.lock l.edges.items) l.dependencies 0 l.dependency-index;
  from : All (IsOneBefore l.fn.edges.items l.dependencies l.dependency-index) l.edges.items;
  apart : (folder : List ℕ) → AreOwn folder l.dependencies
      → All (λ e. e.dependency.package.folder.now ≢ folder) l.fn.edges.items
      → AreApartEdges l.fn.edges.items → AreApartEdges l.edges.items;
  ordered : (folder : List ℕ) → AreOwn folder l.dependencies
      → All (λ e. IsUpTo e.dependency.package.folder.now folder) l.fn.edges.items
      → AreInOrder l.fn.edges.items → AreInOrder l.edges.items;
}
