-- For proofs and private contracts: the two places beside a point where a cut may lie.
use Rattle.std.specs.Prelude.{Bool, true, false}

pattern abbrev pub Near : Bool
Near = false

pattern abbrev pub Far : Bool
Far = true
