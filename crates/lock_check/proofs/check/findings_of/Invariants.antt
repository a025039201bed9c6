use Rattle.std.proofs.Common.{[], All}
use Rattle.std.specs.List.{AllWithin}
use Rattle.lock_check.proofs.Completing.{IsAbout}
use Rattle.lock_check.proofs.Judging.{AreFirst}
use Rattle.lock_check.specs.Complete.{AreSingle}
use Rattle.lock_files.specs.Edges.{AreApartEdges}
use Rattle.lock_check.specs.Internal.Found.{IsAmong}
use Rattle.lock_check.specs.Internal.Overriding.{AreAllLaid, AreChosen}
use Rattle.lock_files.specs.Lookups.{IsAt}
use Rattle.lock_check.proofs.check.findings_of.Given as goal

abbrev pub invariant-loop-number : goal.invariant-loop-number
invariant-loop-number l = record {
  each : IsAt l.lock [] l.scopes.overrides.root → AreAllLaid l.scopes.overrides.root l.scopes.overrides.rules.items
      → AreChosen l.scopes.overrides.root l.scopes.overrides.rules.items l.edges l.scopes.of_edges
      → AreFirst l.lock l.edges l.number l.findings.items;
  all : AllWithin (IsAmong l.findings.items) l.edges 0 l.number;
  about : All (IsAbout l.edges l.number) l.findings.items;
  single : AreApartEdges l.edges → AreSingle l.findings.items;
}
