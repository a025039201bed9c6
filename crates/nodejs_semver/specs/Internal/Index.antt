-- For proofs and private contracts: intervals put in order, so that whether one of them accepts a version is found by search.
use Rattle.std.specs.Prelude.{◌≡◌, ◌+◌, ◌<◌, ◌&&◌, ℕ, Bool, true, false, not, List, ◌++◌, map, length, get_or, take, if◌then◌else◌}
use Rattle.std.specs.Prelude.{Option, Some, None}
use Rattle.std.specs.Option.{option_map, option_to_list}
use Rattle.std.specs.Borrow.{Bor}
use Rattle.std.specs.List.{flat_map, list_all, list_any, Sorted.{IsPermutation, IsSorted}}
use Rattle.std.specs.Ordering.{is_eq, is_gt, is_le, is_lt, on, then_cmp}
use Rattle.std.specs.declared.cmp.Ordering.{Ordering}
use Rattle.semver_core.specs.Cuts.{Span, Cut, covers, cut_cmp, lower_cut, upper_cut, holds, is_past}
use Rattle.semver_core.specs.Values.Order.{precedence}
use Rattle.std.specs.declared.cmp.Ordering.TheVariants.{Less, Equal, Greater}
use Rattle.semver_core.specs.Values.Versions.{VersionValue, is_release}
use Rattle.semver_core.specs.declared.cuts.bound.Bound.{Bound}
use Rattle.semver_core.specs.declared.cuts.bound.Bound.TheVariants.{Unbounded, Before, After}
use Rattle.nodejs_semver.specs.Internal.Candidates.{bare_release, zero}
use Rattle.nodejs_semver.specs.Ranges.View.{bound_of}

-- an interval with the numbers of the versions that it is asked about, and the cut at which it begins
abbrev pub Entry : Type 0
Entry = VersionValue × Span VersionValue

abbrev pub place_cmp : Entry → Entry → Ordering
place_cmp = then_cmp (on (λ e. e.0) precedence) (on (λ e. lower_cut e.1.lower) (cut_cmp precedence))

-- the order of the cuts of two lower bounds, and whether the first upper bound is further up
abbrev pub lower_order : Bound VersionValue → Bound VersionValue → Ordering
lower_order b c = cut_cmp precedence (lower_cut b) (lower_cut c)

abbrev pub is_further_up : Bound VersionValue → Bound VersionValue → Bool
is_further_up b c = is_gt (cut_cmp precedence (upper_cut b) (upper_cut c))

abbrev pub is_of : VersionValue → Entry → Bool
is_of numbers e = is_eq (precedence e.0 numbers)

-- one of the entries of these numbers holds the version
abbrev pub entries_hold : List Entry → VersionValue → VersionValue → Bool
entries_hold es numbers v = list_any (λ e. is_of numbers e && holds precedence e.1 v) es

-- one of the entries of these numbers covers the span
abbrev pub entries_cover : List Entry → VersionValue → Span VersionValue → Bool
entries_cover es numbers t = list_any (λ e. is_of numbers e && covers precedence e.1 t) es

-- by their numbers, and of the same numbers by where they begin
abbrev pub AreInOrder : List Entry → Type 0
AreInOrder = IsSorted place_cmp

-- a test of cuts that is passed by all above one that passes it
abbrev pub IsUpward : (Cut VersionValue → Bool) → Type 0
IsUpward q = (c d : Cut VersionValue) → is_lt (cut_cmp precedence d c) ≡ false → q c ≡ true → q d ≡ true

-- the bound is furthest up of those of the entry at this place, and of those before it of the same numbers
abbrev pub IsEnd : List Entry → ℕ → Bound VersionValue → Type 0
IsEnd es k b = (q : Cut VersionValue → Bool) → IsUpward q → (d : Entry) → q (upper_cut b)
    ≡ list_any (λ e. is_of (get_or es k d).0 e && q (upper_cut e.1.upper)) (take (k + 1) es)

-- the entry is not above these numbers, and of these it begins early enough
abbrev pub is_upto : VersionValue → (Entry → Bool) → Entry → Bool
is_upto numbers early e = elim (precedence e.0 numbers) [ Less ↦ true | Equal ↦ early e | Greater ↦ false ]

-- the entry begins not after the version, or not after another one
abbrev pub begins_past : VersionValue → Entry → Bool
begins_past v e = is_past precedence (lower_cut e.1.lower) v

abbrev pub begins_upto : Bound VersionValue → Entry → Bool
begins_upto b e = is_le (lower_order e.1.lower b)

-- the entry is of these numbers, and the bound is further up than its own
abbrev pub ends_below : Entry → VersionValue → Bound VersionValue → Bool
ends_below e numbers b = is_of numbers e && is_further_up b e.1.upper

-- each of the bounds is that of the entry at its place; and there is one for each entry
abbrev pub AreEnds : {V : Type 0} → (V → VersionValue) → List Entry → List (Bor (Bound V)) → Type 0
AreEnds {V} value es bs = (k : ℕ) (d : Bor (Bound V)) → k < length bs → IsEnd es k (bound_of value (get_or bs k d).now)

abbrev pub HaveEnds : {V : Type 0} → (V → VersionValue) → List Entry → List (Bor (Bound V)) → Type 0
HaveEnds value es bs = (length bs ≡ length es) × AreEnds value es bs

-- the release of the numbers of the pre-release that the bound has
abbrev pub numbers_at : VersionValue → Option VersionValue
numbers_at w = if is_release w then None else Some (bare_release w)

abbrev pub named : Bound VersionValue → Option VersionValue
named Unbounded = None
named (Before w) = numbers_at w
named (After w) = numbers_at w

-- the entry of a span for these numbers
abbrev pub named_entries : Span VersionValue → Bound VersionValue → List Entry
named_entries s b = option_to_list (option_map (λ n. (n, s)) (named b))

-- an index: the entries for releases, and those for the numbers of pre-releases
abbrev pub Indexed : Type 0
Indexed = List Entry × List Entry

abbrev pub lets_pass : Indexed → VersionValue → Bool
lets_pass i v = if is_release v then entries_hold i.0 zero v else entries_hold i.1 (bare_release v) v

-- each of the first indexes lets the version pass, and the last does not
abbrev pub all_pass : List Indexed → VersionValue → Bool
all_pass kept v = list_all (λ i. lets_pass i v) kept

abbrev pub wants : List Indexed → Indexed → VersionValue → Bool
wants kept removed v = all_pass kept v && not (lets_pass removed v)

-- the entries of spans: for releases each, and those for the numbers of the pre-releases that its bounds have
abbrev pub all_entries : List (Span VersionValue) → List Entry
all_entries ss = map (λ s. (zero, s)) ss

abbrev pub pre_entries : List (Span VersionValue) → List Entry
pre_entries ss = flat_map (λ s. named_entries s s.lower ++ named_entries s s.upper) ss

-- the index of these spans
abbrev pub IsIndexOf : List (Span VersionValue) → Indexed → Type 0
IsIndexOf ss i = IsPermutation (all_entries ss) i.0 × IsPermutation (pre_entries ss) i.1
