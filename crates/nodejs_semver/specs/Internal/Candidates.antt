-- For proofs and private contracts: the versions among which the least ones are found.
use Rattle.std.specs.Prelude.{◌≡◌, ◌+◌, Bool, true, false, ◌&&◌, not, List, [], ◌∷◌, ◌++◌, if◌then◌else◌}
use Rattle.std.specs.Prelude.{Option, Some, None, fold, ⊤, ◌<◌, ◌^◌, ◌-◌, ◌⊎◌}
use Rattle.std.specs.List.{Any, flat_map, list_all}
use Rattle.std.specs.Ordering.{is_le}
use Rattle.semver_core.specs.Internal.Sides.{Near, Far}
use Rattle.semver_core.specs.Cuts.{Span, Cut, Start, Beside, End, holds, passes}
use Rattle.semver_core.specs.Lists.{is_empty}
use Rattle.semver_core.specs.Text.Identifiers.{Numeric}
use Rattle.semver_core.specs.Values.Order.{precedence}
use Rattle.semver_core.specs.Values.Versions.{VersionValue, is_release}
use Rattle.semver_core.specs.declared.cuts.bound.Bound.{Bound}
use Rattle.semver_core.specs.declared.cuts.bound.Bound.TheVariants.{Unbounded, Before, After}
use Rattle.nodejs_semver.specs.Ranges.Gate.{accepts}
use Rattle.semver_core.specs.Values.Gate.{lets_in}
use Rattle.nodejs_semver.specs.Ranges.Least.{IsLeastOf, beyond, least_build}

-- the versions without a build that come first somewhere
abbrev pub zero : VersionValue
zero = record { major = 0; minor = 0; patch = 0; pre_release = []; build = [] }

abbrev pub bare : VersionValue → VersionValue
bare w = record w { build = [] }

abbrev pub bare_release : VersionValue → VersionValue
bare_release w = record w { pre_release = []; build = [] }

abbrev pub first_pre : VersionValue → VersionValue
first_pre w = record w { pre_release = Numeric 0 ∷ []; build = [] }

abbrev pub pre_after : VersionValue → VersionValue
pre_after w = record w { pre_release = w.pre_release ++ Numeric 0 ∷ []; build = [] }

abbrev pub patch_after : VersionValue → VersionValue
patch_after w = record w { patch = w.patch + 1; pre_release = []; build = [] }

-- the first version and the first release past a cut beside w
abbrev pub after_cut : VersionValue → Bool → VersionValue
after_cut w Near = bare w
after_cut w Far = pre_after w

abbrev pub release_after : VersionValue → Bool → VersionValue
release_after w Near = bare w
release_after w Far = patch_after w

-- the versions that can be the first of a piece of the line that begins at the cut
abbrev pub firsts : Cut VersionValue → List VersionValue
firsts Start = zero ∷ []
firsts (Beside w s) = if is_release w then release_after w s ∷ [] else after_cut w s ∷ bare_release w ∷ []
firsts End = []

-- the cut that a bound makes, on whichever side
abbrev pub beside : Bound VersionValue → List (Cut VersionValue)
beside Unbounded = []
beside (Before w) = Beside w Near ∷ []
beside (After w) = Beside w Far ∷ []

-- the cut below the pre-releases that a bound names
abbrev pub below_at : VersionValue → List (Cut VersionValue)
below_at w = if is_release w then [] else Beside (first_pre w) Near ∷ []

abbrev pub below_named : Bound VersionValue → List (Cut VersionValue)
below_named Unbounded = []
below_named (Before w) = below_at w
below_named (After w) = below_at w

-- where what a span accepts may begin, and where it ends
abbrev pub kept_marks : Span VersionValue → List (Cut VersionValue)
kept_marks s = beside s.lower ++ below_named s.upper

abbrev pub removed_marks : Span VersionValue → List (Cut VersionValue)
removed_marks s = beside s.upper

abbrev pub list_marks : List (Span VersionValue) → List (Cut VersionValue)
list_marks ss = flat_map kept_marks ss

-- every version that can be the least that all lists accept, one or more, and the last list does not
abbrev pub candidates : List (List (Span VersionValue)) → List (Span VersionValue) → List VersionValue
candidates kss ls = flat_map firsts (Start ∷ (flat_map list_marks kss ++ flat_map removed_marks ls))

-- each of the lists accepts the version
abbrev pub all_accept : List (List (Span VersionValue)) → VersionValue → Bool
all_accept lists v = list_all (λ ss. accepts ss v false) lists

-- the first list and each of the others accept the version, and the last list does not
abbrev pub among : List (Span VersionValue) → List (List (Span VersionValue)) → List (Span VersionValue) → VersionValue → Bool
among ks kss ls v = all_accept kss v && beyond ks ls v

-- each of the lists accepts the version, and the last list does not
abbrev pub wanted : List (List (Span VersionValue)) → List (Span VersionValue) → VersionValue → Bool
wanted kss ls v = all_accept kss v && not (accepts ls v false)

-- the best so far is not above x: nothing from x on improves on it
abbrev pub is_reached : Option VersionValue → VersionValue → Bool
is_reached None x = false
is_reached (Some b) x = is_le (precedence b x)

-- the least version of a set that a list names, the first of equal ones
abbrev pub improves : Option VersionValue → VersionValue → Bool
improves best x = not (is_reached best x)

abbrev pub better : (VersionValue → Bool) → Option VersionValue → VersionValue → Option VersionValue
better set best x = if improves best x && set x then Some x else best

-- the same of a search that copies what it finds, or has 0.0.0 stand for it
abbrev pub kept : Bool → VersionValue → VersionValue
kept copies x = if copies then x else zero

abbrev pub better_kept : Bool → (VersionValue → Bool) → Option VersionValue → VersionValue → Option VersionValue
better_kept copies set best x = if improves best x && set x then Some (kept copies x) else best

abbrev pub least_of : (VersionValue → Bool) → List VersionValue → Option VersionValue
least_of set xs = fold (better set) None xs

-- the patch of the bound's version can be raised
abbrev pub Raisable : Bound VersionValue → Type 0
Raisable Unbounded = ⊤
Raisable (Before w) = w.patch < 2 ^ 64 - 1
Raisable (After w) = w.patch < 2 ^ 64 - 1

abbrev pub IsRaisable : Span VersionValue → Type 0
IsRaisable s = Raisable s.lower × Raisable s.upper

-- the first version past the cut of a lower bound, pre-releases included
abbrev pub first_past : Bound VersionValue → VersionValue
first_past Unbounded = first_pre zero
first_past (Before w) = bare w
first_past (After w) = if is_release w then first_pre (patch_after w) else pre_after w

-- the span begins with this version, and accepts it
abbrev pub StartsWith : Span VersionValue → VersionValue → Type 0
StartsWith s v = (s.lower ≡ Before v) × ((holds precedence s v && lets_in s v) ≡ true)

-- the span begins with no version
abbrev pub BeginsOtherwise : Span VersionValue → Type 0
BeginsOtherwise s = (v : VersionValue) → s.lower ≡ Before v → ⊥

-- the least version that the spans accept, with its build
abbrev pub IsLeastBuilt : List (Span VersionValue) → VersionValue → Type 0
IsLeastBuilt ss v = IsLeastOf (λ w. accepts ss w false) (Some v) × (v.build ≡ least_build ss v)

-- the least so far, where there is one yet
abbrev pub IsLeastSoFar : List (Span VersionValue) → Option VersionValue → Type 0
IsLeastSoFar ss None = ss ≡ []
IsLeastSoFar ss (Some v) = IsLeastBuilt ss v

-- the best so far, or the next version where that is below it
abbrev pub lesser : Option VersionValue → VersionValue → VersionValue
lesser None next = next
lesser (Some best) next = if is_le (precedence best next) then best else next

-- there is a pre-release in the set, and it is copied
abbrev pub Finds : Bool → (VersionValue → Bool) → Type 0
Finds copies set = (copies ≡ true) × (v : VersionValue) × (set v ≡ true) × (is_release v ≡ false)

-- the version of the bound has build metadata
abbrev pub has_build : Bound VersionValue → Bool
has_build = passes (λ w. not (is_empty w.build))

-- the bound is `>v` of a pre-release v: the version after v is made before it is known to be in the set
abbrev pub IsAfterPre : Bound VersionValue → Type 0
IsAfterPre b = (v : VersionValue) × (b ≡ After v) × (is_release v ≡ false)

abbrev pub BeginsAfterPre : List (Span VersionValue) → Type 0
BeginsAfterPre ss = Any (λ s. IsAfterPre s.lower) ss

abbrev pub EndsAfterPre : List (Span VersionValue) → Type 0
EndsAfterPre ss = Any (λ s. IsAfterPre s.upper) ss

-- when the search may allocate: it finds a version, or has to make one to try it
abbrev pub MayAllocate : Bool → List (List (Span VersionValue)) → List (Span VersionValue) → Type 0
MayAllocate copies kss ls = Finds copies (wanted kss ls) ⊎ Any BeginsAfterPre kss ⊎ EndsAfterPre ls
