-- For proofs and private contracts: what the steps of `inc` say to one another.
use Rattle.std.specs.Prelude.{◌≡◌, ◌==◌, ◌&&◌, not, if◌then◌else◌, ℕ, List, [], ◌∷◌}
use Rattle.std.specs.Prelude.{◌+◌, drop, map, Bool, Option, Some, None, Result, Ok, Err, ⊤}
use Rattle.std.specs.List.{join_with_byte, starts_with}
use Rattle.std.specs.Prelude.{codes, nat_eq}
use Rattle.semver_core.specs.Text.Identifiers.{Id, Numeric, AlphaNumeric}
use Rattle.semver_core.specs.Increments.Table.{◌>>=◌, Fault, NotAPrerelease, Overflow}
use Rattle.semver_core.specs.Increments.Table.{first_number, has_numeric}
use Rattle.semver_core.specs.Increments.Table.{by_word, checked, is_false, next_major}
use Rattle.semver_core.specs.Increments.Table.{next_minor, next_patch, release_of}
use Rattle.semver_core.specs.Increments.View.{fault_of}
use Rattle.semver_core.specs.Printing.Text.{id_text, version_text}
use Rattle.semver_core.specs.Values.Versions.{VersionValue, is_release}
use Rattle.semver_core.specs.declared.error.Failure.{Failure}
use Rattle.semver_core.specs.declared.error.Failure.TheVariants.{Refused, Memory}
use Rattle.semver_core.specs.declared.increment.IdentifierBase.{IdentifierBase}
use Rattle.semver_core.specs.declared.increment.IncrementError.{IncrementError}
use Rattle.semver_core.specs.declared.increment.levels.Level.{Level}
use Rattle.semver_core.specs.declared.increment.levels.Level.TheVariants.{Major, Minor, Patch}
use Rattle.semver_core.specs.declared.increment.parts_ref.PartsRef.{PartsRef}
use Rattle.semver_core.specs.Internal.NextIds.{numbered}

-- the five values of a version whose identifiers stand elsewhere
abbrev pub parts_ref_value : PartsRef → VersionValue
parts_ref_value p = record { major = p.major; minor = p.minor; patch = p.patch; pre_release = p.pre_release; build = p.build }

-- the call returns these values or this error, and takes no memory
abbrev pub ReturnsParts : Result VersionValue Fault → Result PartsRef (Failure IncrementError) → Type 0
ReturnsParts expected (Ok parts) = expected ≡ Ok (parts_ref_value parts)
ReturnsParts expected (Err (Refused e)) = expected ≡ Err (fault_of e)
ReturnsParts expected (Err (Memory e)) = ⊥

-- the answer of `inc` by an identifier and a base that are given
abbrev pub incremented : VersionValue → List ℕ → List ℕ → IdentifierBase → Result VersionValue Fault
incremented v word id base =
    (if starts_with nat_eq word (codes "pre") then checked id base else Ok tt) >>= λ _. by_word word id base v

-- the rows of the words that have one each
abbrev pub by_major : VersionValue → Result VersionValue Fault
by_major v = if v.minor == 0 && (v.patch == 0 && not (is_release v)) then Ok (release_of v) else next_major v

abbrev pub by_minor : VersionValue → Result VersionValue Fault
by_minor v = if v.patch == 0 && not (is_release v) then Ok (release_of v) else next_minor v

abbrev pub by_patch : VersionValue → Result VersionValue Fault
by_patch v = if is_release v then next_patch v else Ok (release_of v)

-- the next release of a level, or a pre-release's own release where that is of the level
abbrev pub release_after : Level → (own : Bool) → VersionValue → Result VersionValue Fault
release_after Major own v = if own then by_major v else next_major v
release_after Minor own v = if own then by_minor v else next_minor v
release_after Patch own v = if own then by_patch v else next_patch v

abbrev pub by_release : VersionValue → Result VersionValue Fault
by_release v = if is_release v then Err (NotAPrerelease (version_text v)) else Ok (release_of v)

-- a list printed and joined by dots
abbrev pub list_text : List Id → List ℕ
list_text list = join_with_byte 46 (map id_text list)

-- the list that an identifier begins
abbrev pub begun : List ℕ → IdentifierBase → List Id
begun id base = AlphaNumeric id ∷ (if is_false base then [] else Numeric (first_number base) ∷ [])

-- it is this error, unless an allocation fails
abbrev pub RefusedWith : Fault → Failure IncrementError → Type 0
RefusedWith fault (Refused e) = fault ≡ fault_of e
RefusedWith fault (Memory e) = ⊤

-- the place of the last number that was found in a list of which some identifiers are left, and the number
abbrev pub Tracks : List Id → (left : List Id) → Option (ℕ × ℕ) → Type 0
Tracks list left None = has_numeric list ≡ has_numeric left
Tracks list left (Some last) = (list ≡ numbered list (Some last.1) last.0)
    × (has_numeric (drop (last.0 + 1) list) ≡ has_numeric left)

-- an allocation may fail where this is the answer: it is not `Overflow`, and P holds of its value
abbrev pub MayAllocate : {A : Type 0} → (A → Type 0) → Result A Fault → Type 0
MayAllocate P (Ok value) = P value
MayAllocate P (Err Overflow) = ⊥
MayAllocate P (Err fault) = ⊤

-- the call returns this version or this error, or an allocation fails for the text of the error
abbrev pub IsAnswer : Result VersionValue Fault → Result VersionValue (Failure IncrementError) → Type 0
IsAnswer expected (Ok version) = expected ≡ Ok version
IsAnswer expected (Err (Refused e)) = expected ≡ Err (fault_of e)
IsAnswer expected (Err (Memory e)) = MayAllocate (λ next. ⊥) expected
