-- Statement. Ranges in the memory of the caller: arrays of intervals.
use Rattle.std.specs.Prelude.{◌≡◌, ◌≢◌, ◌<◌, ◌≤◌, ◌^◌, ◌==◌, ◌++◌, ◌&&◌, ◌||◌, ◌⊎◌, if◌then◌else◌, ⊤, Bool}
use Rattle.std.specs.Prelude.{All, IfSome, Option, Some, None, ℕ, List, [], drop, false, length, map, true}
use Rattle.std.specs.List.{Any, flat_map, list_all}
use Rattle.semver_core.specs.Cuts.{Span}
use Rattle.semver_core.specs.Failures.{NoValue}
use Rattle.semver_core.specs.Text.Identifiers.{is_listed}
use Rattle.semver_core.specs.Values.Versions.{VersionValue, is_release}
use Rattle.semver_core.specs.declared.TheConstants.{MAX_SAFE_INTEGER}
use Rattle.semver_core.specs.declared.cuts.bound.Bound as cuts
use Rattle.semver_core.specs.declared.cuts.bound.Bound.TheVariants.{Unbounded, Before, After}
use Rattle.nodejs_semver.specs.Ranges.Gate.{accepts}
use Rattle.nodejs_semver.specs.Ranges.Least.{IsLeastOf, least_build, names_identifiers}
use Rattle.nodejs_semver.specs.Ranges.View.{IsRange}
use Rattle.nodejs_semver_c.specs.Answers.{NoMemoryOnlyIf}
use Rattle.nodejs_semver_c.specs.Kept.{ComesBack, PutsVersion, RefusesKept, kept_texts, kept_value, parts_of}
use Rattle.nodejs_semver_c.specs.declared.intervals.Bound.{Bound}
use Rattle.nodejs_semver_c.specs.declared.intervals.BoundParts.{BoundParts}
use Rattle.nodejs_semver_c.specs.declared.intervals.Interval.{Interval}
use Rattle.nodejs_semver_c.specs.declared.intervals.IntervalParts.{IntervalParts}
use Rattle.nodejs_semver_c.specs.declared.kept.Parts.{Parts}
use Rattle.nodejs_semver_c.specs.declared.TheConstants.{BAD_RANGE, BOUND_CLOSED, BOUND_NONE, BOUND_OPEN}
use Rattle.nodejs_semver_c.specs.declared.TheConstants.{NOTHING, NO_MEMORY, OK, TOO_LONG, TOO_SMALL}

-- the kind of a bound is known, and the texts of its version spell identifiers, if it has one
abbrev pub is_spelled : Bound → Bool
is_spelled b = (b.kind == BOUND_NONE) || (((b.kind == BOUND_CLOSED) || (b.kind == BOUND_OPEN))
    && (is_listed b.version.pre_release.now && is_listed b.version.build.now))

-- what stands below an interval, and above it: closed bounds are `>=` and `<=`, open ones `>` and `<`
abbrev pub lower_of : Bound → cuts.Bound VersionValue
lower_of b = if b.kind == BOUND_NONE then Unbounded
    else if b.kind == BOUND_CLOSED then Before (kept_value b.version) else After (kept_value b.version)

abbrev pub upper_of : Bound → cuts.Bound VersionValue
upper_of b = if b.kind == BOUND_NONE then Unbounded
    else if b.kind == BOUND_CLOSED then After (kept_value b.version) else Before (kept_value b.version)

abbrev pub kept_span : Interval → Span VersionValue
kept_span i = record { lower = lower_of i.lower; upper = upper_of i.upper }

-- the intervals are those of this range
abbrev pub IsKeptRange : List Interval → List (Span VersionValue) → Type 0
IsKeptRange kept r = (list_all (λ i. is_spelled i.lower && is_spelled i.upper) kept ≡ true)
    × (r ≡ map kept_span kept) × IsRange MAX_SAFE_INTEGER r

-- a bound is rejected with this status for a text of its version
abbrev pub RefusesBound : Bound → ℕ → Type 0
RefusesBound b status = (b.kind ≢ BOUND_NONE) × RefusesKept b.version status

-- the intervals are rejected with this status: for a text, or because no range has them; or they are
-- more than memory holds, at 128 bytes each
abbrev pub RefusesIntervals : List Interval → ℕ → Type 0
RefusesIntervals kept status = Any (λ i. RefusesBound i.lower status ⊎ RefusesBound i.upper status) kept
    ⊎ ((status ≡ BAD_RANGE) × NoValue (IsKeptRange kept))
    ⊎ ((status ≡ TOO_LONG) × (2 ^ 56 ≤ length kept))

-- an answer about intervals that memory holds; or they are more, and all is as it was
abbrev pub OnIntervals : List Interval → ℕ → Type 0 → Type 0 → Type 0
OnIntervals kept status Same Answer =
    ((status ≡ TOO_LONG) × (2 ^ 56 ≤ length kept) × Same) ⊎ ((length kept < 2 ^ 56) × Answer)

-- intervals are rejected where a list of them is made: for that, or memory is missing, which happens only
-- for several, and for a range
abbrev pub RefusesKeptRange : List Interval → ℕ → Type 0
RefusesKeptRange kept status = RefusesIntervals kept status
    ⊎ ((status ≡ NO_MEMORY) × (1 < length kept) × ((r : List (Span VersionValue)) × IsKeptRange kept r))

-- an answer about the range that is kept, or it is rejected and all is as it was
abbrev pub OnKeptRange : List Interval → ℕ → Type 0 → (List (Span VersionValue) → Type 0) → Type 0
OnKeptRange kept status Same Answer = ((r : List (Span VersionValue)) × IsKeptRange kept r × Answer r)
    ⊎ (RefusesKeptRange kept status × Same)

-- what is told of a bound: its kind and the parts of its version, zeros where it has none
abbrev pub no_parts : Parts
no_parts = record { major = 0; minor = 0; patch = 0; pre_release_len = 0; build_len = 0 }

abbrev pub lower_parts : cuts.Bound VersionValue → BoundParts
lower_parts Unbounded = record { kind = BOUND_NONE; version = no_parts }
lower_parts (Before v) = record { kind = BOUND_CLOSED; version = parts_of v }
lower_parts (After v) = record { kind = BOUND_OPEN; version = parts_of v }

abbrev pub upper_parts : cuts.Bound VersionValue → BoundParts
upper_parts Unbounded = record { kind = BOUND_NONE; version = no_parts }
upper_parts (Before v) = record { kind = BOUND_OPEN; version = parts_of v }
upper_parts (After v) = record { kind = BOUND_CLOSED; version = parts_of v }

abbrev pub span_parts : Span VersionValue → IntervalParts
span_parts s = record { lower = lower_parts s.lower; upper = upper_parts s.upper }

-- the texts of the versions, one behind another
abbrev pub bound_texts : cuts.Bound VersionValue → List ℕ
bound_texts Unbounded = []
bound_texts (Before v) = kept_texts v
bound_texts (After v) = kept_texts v

abbrev pub range_texts : List (Span VersionValue) → List ℕ
range_texts r = flat_map (λ s. bound_texts s.lower ++ bound_texts s.upper) r

-- versions that are kept by what is told are those of the bounds
abbrev pub BoundComesBack : cuts.Bound VersionValue → Type 0
BoundComesBack Unbounded = ⊤
BoundComesBack (Before v) = ComesBack v
BoundComesBack (After v) = ComesBack v

-- an array, its number, a buffer and its length, before and after a call
abbrev pub RangeKept : {A : Type 0} → (told_old told_new : List A) → (count_old count_new : ℕ)
    → (old new : List ℕ) → (len_old len_new : ℕ) → Type 0
RangeKept told_old told_new count_old count_new old new len_old len_new = (told_new ≡ told_old)
    × (count_new ≡ count_old) × (new ≡ old) × (len_new ≡ len_old)

-- the intervals are told, and their texts put in front of a buffer, if there is room for all; the
-- number and the length are told in any case. Or the texts are longer than memory.
abbrev pub TellsRange : List (Span VersionValue) → (told_old told_new : List IntervalParts)
    → (count_old count_new : ℕ) → (old new : List ℕ) → (len_old len_new status : ℕ) → Type 0
TellsRange r told_old told_new count_old count_new old new len_old len_new status =
    (All (λ s. BoundComesBack s.lower × BoundComesBack s.upper) r
    × (count_new ≡ length r) × (len_new ≡ length (range_texts r))
    × (((status ≡ OK) × (told_new ≡ map span_parts r ++ drop (length r) told_old)
    × (new ≡ range_texts r ++ drop (length (range_texts r)) old))
    ⊎ ((status ≡ TOO_SMALL) × ((length told_old < length r) ⊎ (length old < length (range_texts r)))
    × (told_new ≡ told_old) × (new ≡ old))))
    ⊎ ((status ≡ TOO_LONG) × (2 ^ 63 ≤ length (range_texts r))
    × RangeKept told_old told_new count_old count_new old new len_old len_new)

-- the parts of what is found are told, if there is any
abbrev pub PutsFound : Option VersionValue → (told_old told_new : Parts) → (old new : List ℕ) → ℕ → Type 0
PutsFound None told_old told_new old new status = (status ≡ NOTHING) × (told_new ≡ told_old) × (new ≡ old)
PutsFound (Some v) told_old told_new old new status = PutsVersion v told_old told_new old new status

-- the least version of a range is told, if there is any; or memory is missing where making it may
-- take some
abbrev pub TellsLeast : List (Span VersionValue) → (told_old told_new : Parts) → (old new : List ℕ)
    → ℕ → Type 0
TellsLeast r told_old told_new old new status =
    ((found : Option VersionValue) × IsLeastOf (λ v. accepts r v false) found
    × IfSome found (λ v. v.build ≡ least_build r v) × PutsFound found told_old told_new old new status)
    ⊎ NoMemoryOnlyIf status ((told_new ≡ told_old) × (new ≡ old)) ((names_identifiers r ≡ true)
    × (((v : VersionValue) × (accepts r v false ≡ true))
    ⊎ Any (λ s. (v : VersionValue) × (s.lower ≡ After v) × (is_release v ≡ false)) r))
