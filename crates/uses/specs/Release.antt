-- Statement: why a release tool returns no next version.
use Rattle.std.specs.Prelude.{◌≡◌, ◌⊎◌, ℕ, false, List, Option, None, IfOk, Ok, Err}
use Rattle.std.specs.Option.{option_copied}
use Rattle.std.specs.Ordering.{is_lt}
use denote.Ref.{Bor}
use Rattle.nodejs_semver.specs.Order.{precedence}
use Rattle.nodejs_semver.specs.Parsing.{Parses}
use Rattle.nodejs_semver.specs.Versions.{VersionValue}
use Rattle.semver_core.specs.Failures.{NoValue}
use Rattle.semver_core.specs.Increments.Table.{answer_of_inc}
use Rattle.semver_core.specs.Increments.View.{fault_of}
use Rattle.semver_core.specs.Values.Versions.{HasIdentifiers}
use Rattle.uses.specs.declared.release.Refusal.{Refusal}
use Rattle.uses.specs.declared.release.Refusal.TheVariants.{NotAVersion, NotIncremented, NotAbove, Memory}

-- what a refusal says of the text of the current version, the word and the identifier. An
-- allocation fails only if this version or the next one has identifiers, or for the text of an
-- error.
abbrev pub Explains : ℕ → List ℕ → List ℕ → Option (Bor (List ℕ)) → Refusal → Type 0
Explains limit current word id NotAVersion = NoValue (Parses limit current)
Explains limit current word id (NotIncremented e) = (v : VersionValue) × Parses limit current v
    × (answer_of_inc v word (option_copied id) None ≡ Err (fault_of e))
Explains limit current word id NotAbove = (v w : VersionValue) × Parses limit current v
    × (answer_of_inc v word (option_copied id) None ≡ Ok w) × (is_lt (precedence v w) ≡ false)
Explains limit current word id Memory = (v : VersionValue) × Parses limit current v
    × (HasIdentifiers v ⊎ IfOk (answer_of_inc v word (option_copied id) None) HasIdentifiers)
