-- Statement: spans of keys, and which keys lie in them.
use Rattle.std.specs.Prelude.{◌≡◌, ◌⊎◌, ◌==◌, ◌&&◌, ◌||◌, Bool, List, [], ◌∷◌, false, true, ℕ}
use Rattle.std.specs.Prelude.{All, if◌then◌else◌, not}
use Rattle.std.specs.Cmp.Lexicographic.{slice_cmp}
use Rattle.std.specs.List.{list_any}
use Rattle.std.specs.Ordering.{is_le, is_lt, nat_cmp}
use Rattle.semver_core.specs.Keys.{key}
use Rattle.semver_core.specs.Values.Versions.{IsVersion, VersionValue, is_release}
use Rattle.key_spans.specs.declared.KeySpan.{KeySpan}

-- the last byte is 3, as that of the key of a release and of no pre-release
abbrev pub ends_in_3 : List ℕ → Bool
ends_in_3 [] = false
ends_in_3 (c ∷ []) = c == 3
ends_in_3 (c ∷ d ∷ rest) = ends_in_3 (d ∷ rest)

-- from the start on and below the stop, byte by byte; where only releases count, the key of one
abbrev pub in_span : KeySpan → List ℕ → Bool
in_span s k = (is_le (slice_cmp nat_cmp s.start.items k) && is_lt (slice_cmp nat_cmp k s.stop.items))
    && (not s.releases_only || ends_in_3 k)

-- the key lies in one of the spans
abbrev pub in_spans : List KeySpan → List ℕ → Bool
in_spans spans k = list_any (λ s. in_span s k) spans

-- the span has some bytes
abbrev pub is_some_span : KeySpan → Bool
is_some_span s = is_lt (slice_cmp nat_cmp s.start.items s.stop.items)

-- of one kind the second span begins above the stop of the first, and those of releases come first
abbrev pub is_behind : (s t : KeySpan) → Bool
is_behind s t = let above = is_lt (slice_cmp nat_cmp s.stop.items t.start.items) in
    if s.releases_only then not t.releases_only || above else not t.releases_only && above

-- no span is empty, and each is behind the one before it
abbrev pub is_sorted : List KeySpan → Bool
is_sorted [] = true
is_sorted (s ∷ []) = is_some_span s
is_sorted (s ∷ t ∷ spans) = is_some_span s && (is_behind s t && is_sorted (t ∷ spans))

-- a version with which a span begins: any, where pre-releases are included; else a release for a span of
-- releases, and a pre-release for another one
abbrev pub begins : (include releases_only : Bool) → VersionValue → Bool
begins include releases_only v = if include then not releases_only
    else (if releases_only then is_release v else not (is_release v))

-- a version before which it stops: any, where pre-releases are included; else a release for a span of
-- releases, and for another one a version of the same three numbers
abbrev pub stops : (include releases_only : Bool) → (first last : VersionValue) → Bool
stops include releases_only first last = include || (if releases_only then is_release last
    else ((first.major == last.major) && ((first.minor == last.minor) && (first.patch == last.patch))))

-- the ends of a span are keys of such versions; it may stop above all keys if it is not of three numbers
pub record AreEnds (include releases_only : Bool) (start stop : List ℕ) : Type 0 where
  pub first : VersionValue
  pub is_version : IsVersion first
  pub at_first : start ≡ key first
  pub fits_first : begins include releases_only first ≡ true
  pub at_last : ((last : VersionValue) × IsVersion last × (stop ≡ key last)
      × (stops include releases_only first last ≡ true))
      ⊎ ((stop ≡ 255 ∷ []) × ((include || releases_only) ≡ true))

abbrev pub HasEnds : Bool → KeySpan → Type 0
HasEnds include s = AreEnds include s.releases_only s.start.items s.stop.items

-- a list such as `key_spans` returns, with pre-releases included or without
abbrev pub IsCanonical : (include : Bool) → List KeySpan → Type 0
IsCanonical include spans = (is_sorted spans ≡ true) × All (HasEnds include) spans

-- two such lists make the third, which holds a version where the answers of both say so
abbrev pub IsCombined : (holds : Bool → Bool → Bool) → (xs ys zs : List KeySpan) → Type 0
IsCombined holds xs ys zs = (include : Bool) → IsCanonical include xs → IsCanonical include ys
    → IsCanonical include zs × ((v : VersionValue) → IsVersion v
    → in_spans zs (key v) ≡ holds (in_spans xs (key v)) (in_spans ys (key v)))

-- what a span is, for equality
abbrev pub bytes : KeySpan → List ℕ × List ℕ × Bool
bytes s = (s.start.items, s.stop.items, s.releases_only)
