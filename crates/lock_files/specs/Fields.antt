-- Statement: what stands in a field of an object, as a package of a lock file is one.
use Rattle.std.specs.Prelude.{ℕ, List, Bool, false, Option, option_and_then, unwrap_or}
use Rattle.serde_json.specs.Data.{Data}
use Rattle.serde_json.specs.Find.{as_bool, as_str, get}

-- the text in this field
abbrev pub text_of : List ℕ → Data → Option (List ℕ)
text_of field fields = option_and_then as_str (get field fields)

-- this field is `true`
abbrev pub is_set : List ℕ → Data → Bool
is_set field fields = unwrap_or (option_and_then as_bool (get field fields)) false

-- what stands for this name in this field
abbrev pub member_of : List ℕ → List ℕ → Data → Option Data
member_of field name fields = option_and_then (get name) (get field fields)
