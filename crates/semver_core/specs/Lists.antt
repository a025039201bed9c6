-- Statement: words about lists of any kind.
use Rattle.std.specs.Prelude.{Bool, true, false, if◌then◌else◌, List, [], ◌∷◌, Option, Some, None}

abbrev pub is_empty : {A : Type 0} → List A → Bool
is_empty [] = true
is_empty (x ∷ rest) = false

-- the list, if it is not empty
abbrev pub if_any : {A : Type 0} → List A → Option (List A)
if_any list = if is_empty list then None else Some list
