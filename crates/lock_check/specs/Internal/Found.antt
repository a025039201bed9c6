-- For proofs and private contracts: which edges have findings.
use Rattle.std.specs.Prelude.{◌≡◌, Contains, List, Option}
use Rattle.lock_check.specs.Judged.{as_wanted}
use Rattle.lock_check.specs.declared.finding.Finding.{Finding}
use Rattle.lock_files.specs.declared.edge.Edge.{Edge}
use Rattle.lock_files.specs.declared.lock.Wanted.{Wanted}

-- there is a finding about the dependency of the edge, whatever that wants after the overrides
abbrev pub IsAmong : List Finding → Edge → Type 0
IsAmong found e =
    (g : Finding) × Contains found g × ((w : Option Wanted) × (g.dependency ≡ as_wanted e.dependency w))
