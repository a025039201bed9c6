use Rattle.std.proofs.Common.{take}
use Rattle.sqlite.specs.Held.{state}
use Rattle.sqlite.specs.State.{HasCleanDisk}
use Rattle.registry_index.specs.Searches.{AreTold}
use Rattle.registry_index.proofs.search.search.Given as goal

abbrev pub invariant-loop-span : goal.invariant-loop-span
invariant-loop-span g l = HasCleanDisk (state g.S.Store l.conn)
    → AreTold (state g.S.Store) l.query l.name l.initial.conn (take l.span-index l.spans) l.conn l.found.items
