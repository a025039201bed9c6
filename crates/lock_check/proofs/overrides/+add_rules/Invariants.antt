use Rattle.std.proofs.Common.{All, [], length}
use Rattle.lock_files.specs.Faults.{Extends}
use Rattle.lock_check.specs.Internal.Overriding.{AreItsRules, IsObject}
use Rattle.lock_files.specs.Lookups.{IsAt}
use Rattle.lock_check.specs.Malformed.{IsFault}
use Rattle.lock_files.specs.declared.lock.Lock.{Lock}
use Rattle.lock_files.specs.declared.lock.Package.{Package}
use Rattle.lock_check.proofs.Laying.{IsLaidUpto}
use Rattle.lock_check.proofs.Overriding.{AreToldUpto}
use Rattle.serde_json.specs.Data.{members_depth}
use Rattle.serde_json.specs.View.{members_view}
use Rattle.std.specs.Prelude.{Option}
use Rattle.lock_check.proofs.overrides.+add_rules.Given as goal

abbrev pub decreases-add_rules : goal.decreases-add_rules
decreases-add_rules l = members_depth (members_view l.object.now.entries)

abbrev pub invariant-loop-key : goal.invariant-loop-key
invariant-loop-key l = record {
  rules : (root : Option Package) → IsObject root (members_view l.object.entries) → AreItsRules root l.fn.rules.items
      → AreItsRules root l.rules.items;
  more : Extends l.fn.rules.items l.rules.items;
  laid : IsLaidUpto l.object.entries l.outer (length l.fn.rules.items) l.rules.items (length l.yielded);
  kept : Extends l.fn.faults.items l.faults.items;
  told : AreToldUpto l.object.entries l.faults.items (length l.yielded);
  wrong : (lock : Lock) (root : Option Package) → IsAt lock [] root → IsObject root (members_view l.object.entries)
      → All (IsFault lock) l.fn.faults.items → All (IsFault lock) l.faults.items;
}
