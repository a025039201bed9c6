-- One canonical list for one set of releases, and of all versions.
use Rattle.std.proofs.Common.{ℕ, ◌≡◌, ◌<◌, ◌^◌, ◌+◌, ◌∷◌, ◌⊎◌, List, [], Bool, true, false, refl, ap, arith, ◌∙◌, sym, subst, inl, inr}
use Rattle.std.specs.Prelude.{All, None, Some, nat_lt, if◌then◌else◌}
use Rattle.std.proofs.lemmas.List.Elements.{All-cons, All-head, All-nil, All-tail}
use Rattle.std.specs.Cmp.Lexicographic.{nat_list_cmp_total, slice_cmp}
use Rattle.std.specs.Ordering.{is_le, is_lt, nat_cmp}
use Rattle.key_spans.specs.Internal.Pieces.{IsCanonicalOf}
use Rattle.key_spans.specs.Internal.Places.{IsEnd, IsSpan, end_key, lowest_key, next_place, numbers_place, one_more, release_key, release_place}
use Rattle.key_spans.specs.Internal.Places.{release_stretch, releases, version_place, version_stretch, versions}
use Rattle.key_spans.specs.Internal.Sets.{Stretch}
use Rattle.key_spans.proofs.AllVersions.{lowest_is}
use Rattle.key_spans.proofs.Bytes.{same_bytes}
use Rattle.key_spans.proofs.IsPlaced.{IsParted, IsPlaced}
use Rattle.key_spans.proofs.Keys as of_keys
use Rattle.key_spans.proofs.Line as line
use Rattle.key_spans.proofs.Line.{false_true}
use Rattle.key_spans.proofs.Normal.{normal, normal_canonical, normal_has}
use Rattle.key_spans.proofs.Placed.{normal_placed}
use Rattle.key_spans.proofs.PreReleases.{more_is}
use Rattle.key_spans.proofs.Releases.{fits, release_is}
use Rattle.key_spans.proofs.Unique.{unique_all}
use Rattle.semver_core.proofs.Encoding.Order.{low_below}
use Rattle.semver_core.specs.Cuts.{Span}
use Rattle.semver_core.specs.Keys.{key}
use Rattle.semver_core.specs.Values.Versions.{IsVersion, VersionValue, is_release, lowest, release_value}
use Rattle.semver_core.specs.declared.cuts.bound.Bound.{Bound}
use Rattle.semver_core.specs.declared.cuts.bound.Bound.TheVariants.{Unbounded, Before, After}

abbrev pub Fits : (List ℕ → Type 0) → (List ℕ → List ℕ → Type 0) → Stretch (List ℕ) → Type 0
Fits P ends s = is_lt (slice_cmp nat_cmp s.start s.stop) ≡ true → IsPlaced (slice_cmp nat_cmp) P ends s

-- a canonical list is the one that the sweep gives
is_normal : (old new : List (Stretch (List ℕ))) → IsCanonicalOf old new → new ≡ normal (slice_cmp nat_cmp) old
is_normal old new h = unique_all nat_list_cmp_total same_bytes new (normal (slice_cmp nat_cmp) old) h.canonical
    (normal_canonical nat_list_cmp_total old) (λ k. h.same k ∙ sym (normal_has nat_list_cmp_total old k))

-- so each canonical list of what fits is placed
pub placed : (P : List ℕ → Type 0) (ends : List ℕ → List ℕ → Type 0) → IsParted (slice_cmp nat_cmp) P ends
    → (old new : List (Stretch (List ℕ))) → All (Fits P ends) old → IsCanonicalOf old new → All (IsPlaced (slice_cmp nat_cmp) P ends) new
placed P ends parted old new p h = subst (All (IsPlaced (slice_cmp nat_cmp) P ends)) (sym (is_normal old new h))
    (normal_placed nat_list_cmp_total P ends parted old p)

-- ---- keys of some versions, and the end

module _ (Q : VersionValue → Type 0) where
  abbrev pub IsKeyOf : List ℕ → Type 0
  IsKeyOf k = (v : VersionValue) × IsVersion v × Q v × (k ≡ key v)

  abbrev pub LastEnd : List ℕ → List ℕ → Type 0
  LastEnd a e = e ≡ end_key

  abbrev pub IsKeyPlace : List ℕ → Type 0
  IsKeyPlace k = IsKeyOf k ⊎ (k ≡ end_key)

  pub last_parted : IsParted (slice_cmp nat_cmp) IsKeyOf LastEnd
  last_parted = record { same = λ a b e u w l m. (λ x. x, λ x. x) }

  pub at_most_end : (k : List ℕ) → IsKeyPlace k → is_le (slice_cmp nat_cmp k end_key) ≡ true
  at_most_end k h = elim h [
    | inl u ↦ subst (λ l. is_le (slice_cmp nat_cmp l end_key) ≡ true) (sym u.3) (ap is_le (low_below (key u.0) [] (of_keys.key_low u.0 u.1)))
    | inr u ↦ subst (λ l. is_le (slice_cmp nat_cmp l end_key) ≡ true) (sym u) refl
  ]

  pub key_fits : (s : Stretch (List ℕ)) → IsKeyPlace s.start → IsKeyPlace s.stop → Fits IsKeyOf LastEnd s
  key_fits s first last full = record {
    start = elim first [
      | inl u ↦ u
      | inr u ↦ false_true (is_le (slice_cmp nat_cmp s.stop s.start))
          (line.not_back nat_list_cmp_total s.start s.stop full)
          (subst (λ l. is_le (slice_cmp nat_cmp s.stop l) ≡ true) (sym u) (at_most_end s.stop last))
    ];
    stop = last;
    within = λ e u. subst (λ l. is_le (slice_cmp nat_cmp s.stop l) ≡ true) (sym u) (at_most_end s.stop last);
  }

  next_at : (of : ℕ → ℕ → ℕ → List ℕ)
      → ((M m p : ℕ) → M < 2 ^ 64 → m < 2 ^ 64 → p < 2 ^ 64 → IsKeyPlace (of M m p)) → (t u x : Bool) (w : VersionValue) → IsVersion w
      → nat_lt (w.patch + 1) (2 ^ 64) ≡ t → nat_lt (w.minor + 1) (2 ^ 64) ≡ u → nat_lt (w.major + 1) (2 ^ 64) ≡ x
      → IsKeyPlace (numbers_place of (if t then Some (w.major, w.minor, w.patch + 1)
      else (if u then Some (w.major, w.minor + 1, 0)
      else (if x then Some (w.major + 1, 0, 0) else None))))
  next_at of at true u x w h a b c = at w.major w.minor (w.patch + 1) h.major h.minor (fits w.patch a)
  next_at of at false true x w h a b c = at w.major (w.minor + 1) 0 h.major (fits w.minor b) (omega arith)
  next_at of at false false true w h a b c = at (w.major + 1) 0 0 (fits w.major c) (omega arith) (omega arith)
  next_at of at false false false w h a b c = inr refl

  pub next_placed : (of : ℕ → ℕ → ℕ → List ℕ)
      → ((M m p : ℕ) → M < 2 ^ 64 → m < 2 ^ 64 → p < 2 ^ 64 → IsKeyPlace (of M m p)) → (w : VersionValue) → IsVersion w
      → IsKeyPlace (next_place of w)
  next_placed of at w h = next_at of at (nat_lt (w.patch + 1) (2 ^ 64)) (nat_lt (w.minor + 1) (2 ^ 64)) (nat_lt (w.major + 1) (2 ^ 64)) w h refl refl refl

-- ---- releases

abbrev pub IsRelease : VersionValue → Type 0
IsRelease v = is_release v ≡ true

release_at : (M m p : ℕ) → M < 2 ^ 64 → m < 2 ^ 64 → p < 2 ^ 64 → IsKeyPlace IsRelease (release_key M m p)
release_at M m p h g f = inl (release_value M m p, release_is M m p h g f, refl, refl)

after_at : (b : Bool) (w : VersionValue) → IsVersion w
    → IsKeyPlace IsRelease (if b then next_place release_key w else release_key w.major w.minor w.patch)
after_at true w h = next_placed IsRelease release_key release_at w h
after_at false w h = release_at w.major w.minor w.patch h.major h.minor h.patch

bound_at : (b : Bound VersionValue) (none : List ℕ) → IsEnd b → IsKeyPlace IsRelease none → IsKeyPlace IsRelease (release_place b none)
bound_at Unbounded none g h = h
bound_at (Before w) none g h = release_at w.major w.minor w.patch g.major g.minor g.patch
bound_at (After w) none g h = after_at (is_release w) w g

pub releases_fit : (ss : List (Span VersionValue)) → All IsSpan ss → All (Fits (IsKeyOf IsRelease) (LastEnd IsRelease)) (releases ss)
releases_fit [] h = All-nil (Fits (IsKeyOf IsRelease) (LastEnd IsRelease))
releases_fit (s ∷ ss) h =
    let g : IsSpan s = All-head IsSpan s ss h in
    All-cons (Fits (IsKeyOf IsRelease) (LastEnd IsRelease)) (release_stretch s) (releases ss)
    (key_fits IsRelease (release_stretch s)
    (bound_at s.lower (release_key 0 0 0) g.lower (release_at 0 0 0 (omega arith) (omega arith) (omega arith)))
    (bound_at s.upper end_key g.upper (inr refl)))
    (releases_fit ss (All-tail IsSpan s ss h))

-- ---- all versions

abbrev pub IsAny : VersionValue → Type 0
IsAny v = true ≡ true

lowest_at : (M m p : ℕ) → M < 2 ^ 64 → m < 2 ^ 64 → p < 2 ^ 64 → IsKeyPlace IsAny (lowest_key M m p)
lowest_at M m p h g f = inl (lowest M m p, lowest_is M m p h g f, refl, refl)

any_after : (b : Bool) (w : VersionValue) → IsVersion w → IsKeyPlace IsAny (if b then next_place lowest_key w else key (one_more w))
any_after true w h = next_placed IsAny lowest_key lowest_at w h
any_after false w h = inl (one_more w, more_is w h, refl, refl)

any_at : (b : Bound VersionValue) (none : List ℕ) → IsEnd b → IsKeyPlace IsAny none → IsKeyPlace IsAny (version_place b none)
any_at Unbounded none g h = h
any_at (Before w) none g h = inl (w, g, refl, refl)
any_at (After w) none g h = any_after (is_release w) w g

pub versions_fit : (ss : List (Span VersionValue)) → All IsSpan ss → All (Fits (IsKeyOf IsAny) (LastEnd IsAny)) (versions ss)
versions_fit [] h = All-nil (Fits (IsKeyOf IsAny) (LastEnd IsAny))
versions_fit (s ∷ ss) h =
    let g : IsSpan s = All-head IsSpan s ss h in
    All-cons (Fits (IsKeyOf IsAny) (LastEnd IsAny)) (version_stretch s) (versions ss)
    (key_fits IsAny (version_stretch s)
    (any_at s.lower (lowest_key 0 0 0) g.lower (lowest_at 0 0 0 (omega arith) (omega arith) (omega arith)))
    (any_at s.upper end_key g.upper (inr refl)))
    (versions_fit ss (All-tail IsSpan s ss h))
