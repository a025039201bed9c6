-- For proofs and private contracts: the stretches of keys that stand for the intervals of a range.
use Rattle.std.specs.Prelude.{◌+◌, ◌++◌, ◌^◌, List, [], ◌∷◌, if◌then◌else◌, map, nat_lt, ℕ, ⊤}
use Rattle.std.specs.Prelude.{None, Option, Some}
use Rattle.std.specs.Cmp.Lexicographic.{slice_cmp}
use Rattle.std.specs.List.{flat_map}
use Rattle.std.specs.Ordering.{is_le, nat_cmp}
use Rattle.semver_core.specs.Cuts.{Span}
use Rattle.semver_core.specs.Keys.{key}
use Rattle.semver_core.specs.Text.Identifiers.{Numeric}
use Rattle.semver_core.specs.Values.Versions.{IsVersion, VersionValue, is_release, lowest, release_value}
use Rattle.semver_core.specs.declared.cuts.bound.Bound.{Bound}
use Rattle.semver_core.specs.declared.cuts.bound.Bound.TheVariants.{Unbounded, Before, After}
use Rattle.key_spans.specs.Internal.Sets.{Stretch}

-- the bounds are versions
abbrev pub IsEnd : Bound VersionValue → Type 0
IsEnd Unbounded = ⊤
IsEnd (Before v) = IsVersion v
IsEnd (After v) = IsVersion v

pub record IsSpan (s : Span VersionValue) : Type 0 where
  pub lower : IsEnd s.lower
  pub upper : IsEnd s.upper

-- the key of the release of three numbers, and of their least pre-release
abbrev pub release_key : (major minor patch : ℕ) → List ℕ
release_key M m p = key (release_value M m p)

abbrev pub lowest_key : (major minor patch : ℕ) → List ℕ
lowest_key M m p = key (lowest M m p)

-- above all keys
abbrev pub end_key : List ℕ
end_key = 255 ∷ []

-- the three numbers after those of a version; none after the greatest
abbrev pub next_numbers : VersionValue → Option (ℕ × ℕ × ℕ)
next_numbers v = if nat_lt (v.patch + 1) (2 ^ 64) then Some (v.major, v.minor, v.patch + 1)
    else (if nat_lt (v.minor + 1) (2 ^ 64) then Some (v.major, v.minor + 1, 0)
    else (if nat_lt (v.major + 1) (2 ^ 64) then Some (v.major + 1, 0, 0) else None))

-- the key of these numbers; the end of all keys for none
abbrev pub numbers_place : (ℕ → ℕ → ℕ → List ℕ) → Option (ℕ × ℕ × ℕ) → List ℕ
numbers_place of None = end_key
numbers_place of (Some n) = of n.0 n.1 n.2

abbrev pub next_place : (ℕ → ℕ → ℕ → List ℕ) → VersionValue → List ℕ
next_place of v = numbers_place of (next_numbers v)

-- the least of the pre-releases above one: that with one more identifier, the number 0
abbrev pub one_more : VersionValue → VersionValue
one_more v = record (release_value v.major v.minor v.patch) { pre_release = v.pre_release ++ Numeric 0 ∷ [] }

-- the key of the first release past a bound; what stands for no bound is given
abbrev pub release_place : Bound VersionValue → List ℕ → List ℕ
release_place Unbounded none = none
release_place (Before v) none = release_key v.major v.minor v.patch
release_place (After v) none =
    if is_release v then next_place release_key v else release_key v.major v.minor v.patch

-- the key of the first pre-release past a bound, or of a release with none between
abbrev pub pre_place : Bound VersionValue → List ℕ → List ℕ
pre_place Unbounded none = none
pre_place (Before v) none = key v
pre_place (After v) none = if is_release v then key v else key (one_more v)

-- the key of the first version past a bound
abbrev pub version_place : Bound VersionValue → List ℕ → List ℕ
version_place Unbounded none = none
version_place (Before v) none = key v
version_place (After v) none = if is_release v then next_place lowest_key v else key (one_more v)

-- the releases between two bounds, and all versions
abbrev pub release_stretch : Span VersionValue → Stretch (List ℕ)
release_stretch s =
    record { start = release_place s.lower (release_key 0 0 0); stop = release_place s.upper end_key }

abbrev pub releases : List (Span VersionValue) → List (Stretch (List ℕ))
releases ss = map release_stretch ss

abbrev pub version_stretch : Span VersionValue → Stretch (List ℕ)
version_stretch s =
    record { start = version_place s.lower (lowest_key 0 0 0); stop = version_place s.upper end_key }

abbrev pub versions : List (Span VersionValue) → List (Stretch (List ℕ))
versions ss = map version_stretch ss

abbrev pub greater : List ℕ → List ℕ → List ℕ
greater a b = if is_le (slice_cmp nat_cmp a b) then b else a

abbrev pub lesser : List ℕ → List ℕ → List ℕ
lesser a b = if is_le (slice_cmp nat_cmp a b) then a else b

-- the pre-releases of the numbers of a version that lie between two places
abbrev pub own_part : (start stop : List ℕ) → VersionValue → Stretch (List ℕ)
own_part start stop w = record {
  start = greater start (lowest_key w.major w.minor w.patch);
  stop = lesser stop (release_key w.major w.minor w.patch);
}

-- the same, if the version is one
abbrev pub own_stretch : (start stop : List ℕ) → VersionValue → List (Stretch (List ℕ))
own_stretch start stop w = if is_release w then [] else own_part start stop w ∷ []

abbrev pub bound_stretch : (start stop : List ℕ) → Bound VersionValue → List (Stretch (List ℕ))
bound_stretch start stop Unbounded = []
bound_stretch start stop (Before w) = own_stretch start stop w
bound_stretch start stop (After w) = own_stretch start stop w

-- all pre-releases between the two bounds
abbrev pub pre_stretch : Span VersionValue → Stretch (List ℕ)
pre_stretch s = record { start = pre_place s.lower []; stop = pre_place s.upper end_key }

-- of each bound that is a pre-release, the pre-releases of its numbers between the two bounds
abbrev pub pre_stretches : Span VersionValue → List (Stretch (List ℕ))
pre_stretches s = let start = pre_place s.lower [] in let stop = pre_place s.upper end_key in
    bound_stretch start stop s.lower ++ bound_stretch start stop s.upper

abbrev pub pre_releases : List (Span VersionValue) → List (Stretch (List ℕ))
pre_releases ss = flat_map pre_stretches ss
