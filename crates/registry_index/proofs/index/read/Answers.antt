use Rattle.std.proofs.Common.{inr, rules}
use Rattle.registry_index.proofs.index.read.Goals as goal

pub returns-in_default : goal.returns-in_default
returns-in_default c = record { key = tt; «package» = tt; version = tt; rest = tt; refused = search rules }

pub returns-in-Ok-Some : goal.returns-in-Ok-Some
returns-in-Ok-Some c =
    record { key = search rules; «package» = search rules; version = search rules; rest = search rules; refused = tt }

pub returns-in-Ok-None : goal.returns-in-Ok-None
returns-in-Ok-None c =
    let rejected = rw (c.in-Ok-None.field-0-is) at (c.in-Ok-None.ensures.none) in
    record {
      key = tt;
      «package» = tt;
      version = tt;
      rest = tt;
      refused = inr (λ v is. rejected v (rw (c.in-Some.ensures.version) is));
    }

pub returns-in-Err : goal.returns-in-Err
returns-in-Err c = record { key = tt; «package» = tt; version = tt; rest = tt; refused = tt }
