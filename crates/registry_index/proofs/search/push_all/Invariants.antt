use Rattle.std.proofs.Common.{◌≡◌, ◌++◌, map, take}
use Rattle.registry_index.specs.Searches.{row_of}
use Rattle.registry_index.proofs.search.push_all.Given as goal

abbrev pub invariant-loop-row : goal.invariant-loop-row
invariant-loop-row l = map row_of l.found.items ≡ map row_of l.initial.found.items ++ map (take 3) (take l.row-index l.rows)
