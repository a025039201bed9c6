use Rattle.std.proofs.Common.{◌≡◌, All, IfNone, IfSome, take}
use Rattle.std.specs.List.{sum_by}
use Rattle.uses.specs.Resolver.{IsConflict}
use Rattle.uses.specs.Resolver.{IsHopeless}
use Rattle.uses.proofs.Plans.{IsRejected, is_free}
use Rattle.uses.proofs.resolver.+search.Given as goal

abbrev pub decreases-search : goal.decreases-search
decreases-search l = sum_by is_free l.picks.now.items

abbrev pub invariant-loop-release : goal.invariant-loop-release
invariant-loop-release l = record {
  same : l.picks.items ≡ l.fn.picks.items;
  tried : All (IsHopeless l.packages l.root l.fn.picks.items l.package) (take l.release-index l.release-items);
  rejected : IfNone l.conflict (All (IsRejected l.requirement) (take l.release-index l.release-items));
  found : IfSome l.conflict (IsConflict l.packages l.root);
}
