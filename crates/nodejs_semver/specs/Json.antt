-- Statement: versions and ranges as JSON strings.
use Rattle.std.specs.Prelude.{ℕ, List, Option, IfSome, IsSomeAnd, Result, Ok, Err, ⊤, option_and_then}
use Rattle.serde_json.specs.Find.{as_str}
use Rattle.serde_json.specs.Read.{read}
use Rattle.semver_core.specs.declared.error.Failure.{Failure}
use Rattle.semver_core.specs.declared.error.Failure.TheVariants.{Refused, Memory}
use Rattle.semver_core.specs.declared.error.SemverError.{SemverError}

-- the string that a JSON text is, if it is the text of one
abbrev pub json_string : List ℕ → Option (List ℕ)
json_string text = option_and_then as_str (read text)

-- what is read of a string that may be missing: a value; a rejection exactly if there is no string or nothing
-- is read of it; or an allocation failure
abbrev pub ReadsString : {A : Type 0} → (List ℕ → A → Type 0) → (List ℕ → Type 0) → Option (List ℕ)
    → Result A (Failure SemverError) → Type 0
ReadsString IsRead IsNotRead found (Ok value) = IsSomeAnd found (λ text. IsRead text value)
ReadsString IsRead IsNotRead found (Err (Refused e)) = IfSome found IsNotRead
ReadsString IsRead IsNotRead found (Err (Memory e)) = ⊤
