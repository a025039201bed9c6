-- Statement. Which status the exports return, and what they write. The texts are read from the
-- left, and the first that is rejected decides the status.
use Rattle.std.specs.Prelude.{◌≡◌, ◌<◌, ◌≤◌, ◌^◌, ◌++◌, ◌⊎◌, Bool, IsSomeAnd, IsUtf8, MatchOption, codes, ℕ}
use Rattle.std.specs.Prelude.{List, Option, Some, None, Result, Ok, Err, drop, length}
use Rattle.semver_core.specs.Cuts.{Span}
use Rattle.semver_core.specs.Failures.{NoValue}
use Rattle.semver_core.specs.Increments.Table as increment
use Rattle.semver_core.specs.Printing.Text.{version_text}
use Rattle.semver_core.specs.Values.Versions.{HasIdentifiers, VersionValue}
use Rattle.semver_core.specs.declared.increment.IdentifierBase.{IdentifierBase}
use Rattle.nodejs_semver_c.specs.Numbers.{fault_number}
use Rattle.nodejs_semver_c.specs.Readings.{Spells, SpellsNoRange, SpellsRange, WantsMemory, reading_of}
use Rattle.nodejs_semver_c.specs.declared.TheConstants.{BAD_ARGUMENT, BAD_RANGE, BAD_VERSION, NO_MEMORY}
use Rattle.nodejs_semver_c.specs.declared.TheConstants.{NOT_UTF8, NOTHING, OK, TOO_LONG, TOO_SMALL}

-- the bytes are a text that is read as this version, and as this range, by the reading of a number
abbrev pub IsVersionOf : ℕ → List ℕ → VersionValue → Type 0
IsVersionOf reading bytes v = IsSomeAnd (reading_of reading) (λ by. IsUtf8 bytes × Spells by bytes v)

abbrev pub IsRangeOf : ℕ → Bool → List ℕ → List (Span VersionValue) → Type 0
IsRangeOf reading include bytes r = IsSomeAnd (reading_of reading) (λ by.
    IsUtf8 bytes × SpellsRange by include bytes r)

-- the bytes are rejected with this status as a text, as a version, and as a range; or the reading
-- is none
abbrev pub RefusesText : List ℕ → ℕ → Type 0
RefusesText bytes status =
    ((status ≡ NOT_UTF8) × (IsUtf8 bytes → ⊥)) ⊎ ((status ≡ TOO_LONG) × (2 ^ 63 ≤ length bytes))

abbrev pub RefusesVersion : ℕ → List ℕ → ℕ → Type 0
RefusesVersion reading bytes status = MatchOption (reading_of reading) (status ≡ BAD_ARGUMENT) (λ by.
    RefusesText bytes status ⊎ ((status ≡ BAD_VERSION) × IsUtf8 bytes × NoValue (Spells by bytes)))

abbrev pub RefusesRange : ℕ → Bool → List ℕ → ℕ → Type 0
RefusesRange reading include bytes status = MatchOption (reading_of reading) (status ≡ BAD_ARGUMENT) (λ by.
    RefusesText bytes status ⊎ ((status ≡ BAD_RANGE) × IsUtf8 bytes × SpellsNoRange by include bytes)
    ⊎ ((status ≡ NO_MEMORY) × WantsMemory by include bytes))

-- an answer about what the bytes are read as, or they are rejected and all is as it was
abbrev pub OnText : List ℕ → ℕ → Type 0 → Type 0 → Type 0
OnText bytes status Same Answer = (IsUtf8 bytes × Answer) ⊎ (RefusesText bytes status × Same)

abbrev pub OnVersion : ℕ → List ℕ → ℕ → Type 0 → (VersionValue → Type 0) → Type 0
OnVersion reading bytes status Same Answer = ((v : VersionValue) × IsVersionOf reading bytes v × Answer v)
    ⊎ (RefusesVersion reading bytes status × Same)

abbrev pub OnRange : ℕ → Bool → List ℕ → ℕ → Type 0 → (List (Span VersionValue) → Type 0) → Type 0
OnRange reading include bytes status Same Answer =
    ((r : List (Span VersionValue)) × IsRangeOf reading include bytes r × Answer r)
    ⊎ (RefusesRange reading include bytes status × Same)

-- nothing is written into the buffer and the length
abbrev pub Kept : (old new : List ℕ) (len_old len_new : ℕ) → Type 0
Kept old new len_old len_new = (new ≡ old) × (len_new ≡ len_old)

-- a text is put in front of a buffer's bytes, or is too long for it; its length is written in both
-- cases
abbrev pub Puts : (text old new : List ℕ) (len status : ℕ) → Type 0
Puts text old new len status = (len ≡ length text)
    × (((status ≡ OK) × (new ≡ text ++ drop (length text) old))
    ⊎ ((status ≡ TOO_SMALL) × (length old < length text) × (new ≡ old)))

-- memory is missing, which happens only if this holds
abbrev pub NoMemoryOnlyIf : (status : ℕ) (Same P : Type 0) → Type 0
NoMemoryOnlyIf status Same P = (status ≡ NO_MEMORY) × Same × P

-- a text is printed into a buffer, unless it is longer than memory
abbrev pub Prints : (text old new : List ℕ) (len_old len_new status : ℕ) → Type 0
Prints text old new len_old len_new status = Puts text old new len_new status
    ⊎ ((status ≡ TOO_LONG) × (2 ^ 63 ≤ length text) × Kept old new len_old len_new)

-- the text of what is found is printed, if there is any
abbrev pub PrintsFound : {A : Type 0} → (A → List ℕ) → Option A → (old new : List ℕ)
    → (len_old len_new status : ℕ) → Type 0
PrintsFound text None old new len_old len_new status = (status ≡ NOTHING) × Kept old new len_old len_new
PrintsFound text (Some value) old new len_old len_new status =
    Prints (text value) old new len_old len_new status

-- the status says why there is no version. Memory is missing only for a version with identifiers, or
-- where the identifier is compared to the version's whole list.
abbrev pub FailsBy : Result VersionValue increment.Fault → ℕ → Type 0
FailsBy (Ok v) status = (status ≡ NO_MEMORY) × HasIdentifiers v
FailsBy (Err fault) status = (status ≡ fault_number fault) ⊎ ((status ≡ NO_MEMORY)
    × (fault ≡ increment.InvalidIncrementArgument (codes "identifier already exists")))

-- the next version is printed, or the status says why there is none
abbrev pub PrintsResult : Result VersionValue increment.Fault → (old new : List ℕ)
    → (len_old len_new status : ℕ) → Type 0
PrintsResult answer old new len_old len_new status =
    ((v : VersionValue) × (answer ≡ Ok v) × Prints (version_text v) old new len_old len_new status)
    ⊎ (FailsBy answer status × Kept old new len_old len_new)

-- the same by a base, if there is one
abbrev pub PrintsNext : (IdentifierBase → Result VersionValue increment.Fault) → Option IdentifierBase
    → (old new : List ℕ) (len_old len_new status : ℕ) → Type 0
PrintsNext next (Some base) old new len_old len_new status =
    PrintsResult (next base) old new len_old len_new status
PrintsNext next None old new len_old len_new status = (status ≡ BAD_ARGUMENT) × Kept old new len_old len_new
