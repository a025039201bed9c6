use Rattle.std.proofs.Common.{◌≡◌, ◌*◌, ◌+◌, ◌++◌, List}
use Rattle.serde_json.proofs.Views.{Entry}
use Rattle.serde_json.specs.Data.{depth, members_depth}
use Rattle.serde_json.specs.View.{members_view, view}
use Rattle.lock_files.specs.Internal.Nesting.{AddsAll}
use Rattle.lock_files.proofs.nested.+nested.Given as goal

abbrev pub decreases-add_all : goal.decreases-add_all
decreases-add_all l = 2 * members_depth (members_view l.dependencies.now.entries) + 1

abbrev pub decreases-add : goal.decreases-add
decreases-add l = 2 * depth (view l.entry.now)

abbrev pub invariant-add_all-loop-name : goal.invariant-add_all-loop-name
invariant-add_all-loop-name l = record {
  done : List Entry;
  all : l.dependencies.entries ≡ l.name-iterator.iter ++ done;
  added : AddsAll l.folder (members_view done) (members_view l.fn.packages.entries) (members_view l.packages.entries);
}
