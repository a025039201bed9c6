-- The versions that `inc` returns: they are the least ones, above the version, and keep its build.
use Rattle.semver_core.proofs.Common.{Fault, advance, has_numeric, one_more, raise_last, is_empty}
use Rattle.semver_core.proofs.Common.{AlphaNumeric, Id, Numeric, id_cmp, VersionValue, IsId, IdentifierBase, List}
use Rattle.semver_core.proofs.Common.{[], arith, false, refl, subst, true, ℕ, ◌++◌, ◌+◌, ◌-◌, ◌<◌, ◌∷◌}
use Rattle.semver_core.proofs.Common.{◌≡◌, nat_tests, and_parts, slice_cmp, tied_itself, ◌==◌, Err, Ok, Result, ⊤}
use Rattle.semver_core.proofs.Common.{bytes_eq, Less, IsLeastVersion, Overflow, first_number}
use Rattle.semver_core.proofs.Common.{identify, not-true, pre_step, ◌>>=◌, incremented, id_total, above_patch}
use Rattle.semver_core.proofs.Common.{above_pre, below_more, pre_cmp, IsVersion, Value, IsOkAnd, codes, if◌then◌else◌}
use Rattle.semver_core.proofs.Common.{cond_both, nat_eq, not, ◌&&◌, ◌^◌, All-cons, All-nil}
use Rattle.semver_core.specs.Increments.Table.{checked, by_word, next_major, next_minor, next_patch, release_of}
use Rattle.semver_core.specs.Internal.Successors.{less_first, above_major, above_minor}
use Rattle.semver_core.specs.Values.Versions.{is_release}
use Rattle.std.proofs.lemmas.Slice.Eq.{bytes_eq-Decides}
use Rattle.std.specs.List.{starts_with}
use Rattle.semver_core.proofs.Values.NextLaws.{IsAbove, least_after_release, next_of_pre_release}

-- one more, or the greatest number
by_one : (P : Result VersionValue Fault → Type 0) (n : ℕ) (f : ℕ → Result VersionValue Fault)
    → (n ≡ 2 ^ 64 - 1 → P (Err Overflow)) → ((n ≡ 2 ^ 64 - 1 → ⊥) → P (f (n + 1))) → P (one_more n >>= f)
by_one P n f none some =
    cond_both (n == 2 ^ 64 - 1) (Err Overflow) (Ok (n + 1)) (λ r. P (r >>= f)) (λ h. none (grind (arith, nat_tests)))
    (λ h. some (grind (arith, nat_tests)))

first : (v : VersionValue) → IsVersion v → (a b c : ℕ) → a < 2 ^ 64 → b < 2 ^ 64 → c < 2 ^ 64
    → IsVersion (record { major = a; minor = b; patch = c; pre_release = Numeric 0 ∷ []; build = v.build })
first v k a b c p q r =
    let zero = All-cons IsId (Numeric 0) [] (omega arith) (All-nil IsId) in
    record { major = p; minor = q; patch = r; pre_release = zero; build = k.build }

pre_above : (xs ys : List Id) → is_empty xs ≡ false → slice_cmp id_cmp xs ys ≡ Less → pre_cmp xs ys ≡ Less
pre_above xs ys s h = grind arith

advance_zero : (xs : List Id) → is_empty xs ≡ false → has_numeric xs ≡ false → advance xs [] (Value 0) ≡ Ok (xs ++ Numeric 0 ∷ [])
advance_zero xs s n = grind arith

pub prerelease_least : (v : VersionValue) → IsVersion v → (is_release v ≡ true → v.patch < 2 ^ 64 - 1)
    → (is_release v ≡ false → has_numeric v.pre_release ≡ false)
    → IsOkAnd (incremented v (codes "prerelease") [] (Value 0)) (IsLeastVersion (IsAbove v))
prerelease_least v k rises none =
    cond_both (is_release v) (next_patch v >>= pre_step [] (Value 0)) (pre_step [] (Value 0) v) (λ r. IsOkAnd r (IsLeastVersion (IsAbove v))) (λ h. by_one (λ r. IsOkAnd (r >>= pre_step [] (Value 0)) (IsLeastVersion (IsAbove v))) v.patch
    (λ n. Ok (record v { patch = n; pre_release = [] })) (λ e. omega (arith, e, rises h)) (λ other. (
      first v k v.major v.minor (v.patch + 1) k.major k.minor (omega (arith, k.patch, other)),
      (
        above_patch v (record v { patch = v.patch + 1; pre_release = Numeric 0 ∷ [] }) refl refl (omega arith),
        λ w this. least_after_release v w (grind arith) this,
      ),
    )))
    (λ h. rw (advance_zero v.pre_release h (none h)) (next_of_pre_release v k (grind arith)))

-- a list that goes on is above itself
abbrev AboveList : List Id → Result (List Id) Fault → Type 0
AboveList xs (Ok ys) = slice_cmp id_cmp xs ys ≡ Less
AboveList xs (Err e) = ⊤

kept_first : (x : Id) (xs : List Id) (r : Result (List Id) Fault) → AboveList xs r → AboveList (x ∷ xs) (r >>= λ list. Ok (x ∷ list))
kept_first x xs r h = grind (arith, tied_itself id_total x)

raise_above : (xs : List Id) → has_numeric xs ≡ true → AboveList xs (raise_last xs)
raise_above [] h = cc
raise_above (AlphaNumeric text ∷ xs) h = kept_first (AlphaNumeric text) xs (raise_last xs) (raise_above xs h)
raise_above (Numeric n ∷ xs) h =
    grind (arith, nat_tests, kept_first (Numeric n) xs (raise_last xs), raise_above xs, less_first n (n + 1) (slice_cmp id_cmp xs xs))

advance_above : (xs : List Id) (text : List ℕ) (base : IdentifierBase) → is_empty xs ≡ false → AboveList xs (advance xs text base)
advance_above [] text base s = cc
advance_above (x ∷ xs) text base s = grind (arith, raise_above (x ∷ xs), below_more (x ∷ xs) (Numeric (first_number base)) [])

-- what is returned has the build of the version, and is above it where Up holds
abbrev Rises : VersionValue → Type 0 → Result VersionValue Fault → Type 0
Rises v Up (Ok w) = (w.build ≡ v.build) × (Up → IsAbove v w)
Rises v Up (Err e) = ⊤

module _ (v : VersionValue) (id : List ℕ) (base : IdentifierBase) (Up : Type 0) where
  -- the pre step of a version that is above by its numbers
  risen : (w : VersionValue) → w.build ≡ v.build → ((pre : List Id) → IsAbove v (record w { pre_release = pre }))
      → Rises v Up (pre_step id base w)
  risen w e above = grind arith

  -- a number that rises, without the pre step and with it
  rises : (n : ℕ) (f : ℕ → VersionValue) → (f (n + 1)).build ≡ v.build
      → ((pre : List Id) → IsAbove v (record (f (n + 1)) { pre_release = pre }))
      → Rises v Up (one_more n >>= λ m. Ok (f m)) × Rises v Up ((one_more n >>= λ m. Ok (f m)) >>= pre_step id base)
  rises n f e above = (
    by_one (Rises v Up) n (λ m. Ok (f m)) (λ o. tt) (λ o. (e, λ up. above (f (n + 1)).pre_release)),
    by_one (λ r. Rises v Up (r >>= pre_step id base)) n (λ m. Ok (f m)) (λ o. tt) (λ o. risen (f (n + 1)) e above),
  )

  major : Rises v Up (next_major v) × Rises v Up (next_major v >>= pre_step id base)
  major = rises v.major (λ n. record v { major = n; minor = 0; patch = 0; pre_release = [] }) refl
      (λ pre. above_major v (record v { major = v.major + 1; minor = 0; patch = 0; pre_release = pre }) (omega arith))

  minor : Rises v Up (next_minor v) × Rises v Up (next_minor v >>= pre_step id base)
  minor = rises v.minor (λ n. record v { minor = n; patch = 0; pre_release = [] }) refl
      (λ pre. above_minor v (record v { minor = v.minor + 1; patch = 0; pre_release = pre }) refl (omega arith))

  patch : Rises v Up (next_patch v) × Rises v Up (next_patch v >>= pre_step id base)
  patch = rises v.patch (λ n. record v { patch = n; pre_release = [] }) refl
      (λ pre. above_patch v (record v { patch = v.patch + 1; pre_release = pre }) refl refl (omega arith))

  -- the pre step of the version itself
  steps : (Up → id ≡ []) → (Up → is_release v ≡ false) → Rises v Up (pre_step id base v)
  steps bare some = by (advance v.pre_release id base) (λ up. advance_above v.pre_release id base (some up))
    where
      by : (r : Result (List Id) Fault) → (Up → AboveList v.pre_release r)
          → Rises v Up (r >>= λ list. Ok (record v { pre_release = identify id base list }))
      by (Ok list) h =
          let w : VersionValue = record v { pre_release = identify id base list } in
          (refl, λ up. above_pre v w refl refl refl (rw (bare up) (pre_above v.pre_release list (some up) (h up))))
      by (Err e) h = tt

  released : is_release v ≡ false → Rises v Up (Ok (release_of v))
  released h = (refl, λ up. above_pre v (release_of v) refl refl refl (grind arith))

  word_rises : (word : List ℕ) → (Up → id ≡ []) → (Up → word ≡ codes "pre" → is_release v ≡ false)
      → Rises v Up (by_word word id base v)
  word_rises word bare some =
      let P = Rises v Up in
      cond_both (bytes_eq word (codes "major")) _ _ P (λ h. cond_both (v.minor == 0 && (v.patch == 0 && not (is_release v))) _ _ P
      (λ t. released (not-true (is_release v)
      (and_parts (v.patch == 0) (not (is_release v)) (and_parts (v.minor == 0) (v.patch == 0 && not (is_release v)) t).1).1))
      (λ t. major.0)) (λ h.
      cond_both (bytes_eq word (codes "minor")) _ _ P (λ h. cond_both (v.patch == 0 && not (is_release v)) _ _ P
      (λ t. released (not-true (is_release v) (and_parts (v.patch == 0) (not (is_release v)) t).1)) (λ t. minor.0)) (λ h.
      cond_both (bytes_eq word (codes "patch")) _ _ P (λ h. cond_both (is_release v) _ _ P (λ t. patch.0) released) (λ h.
      cond_both (bytes_eq word (codes "premajor")) _ _ P (λ h. major.1) (λ h.
      cond_both (bytes_eq word (codes "preminor")) _ _ P (λ h. minor.1) (λ h.
      cond_both (bytes_eq word (codes "prepatch")) _ _ P (λ h. patch.1) (λ h.
      cond_both (bytes_eq word (codes "prerelease")) _ _ P (λ h. cond_both (is_release v) _ _ P (λ t. patch.1) (λ t. steps bare (λ up. t)))
      (λ h.
      cond_both (bytes_eq word (codes "pre")) _ _ P (λ h. steps bare (λ up. some up ((bytes_eq-Decides word (codes "pre")).0 h))) (λ h.
      cond_both (bytes_eq word (codes "release")) _ _ P (λ h. cond_both (is_release v) _ _ P (λ t. tt) released) (λ h. tt)))))))))

  pub increment_rises : (word : List ℕ) (w : VersionValue) → (Up → id ≡ []) → (Up → word ≡ codes "pre" → is_release v ≡ false)
      → incremented v word id base ≡ Ok w → (w.build ≡ v.build) × (Up → IsAbove v w)
  increment_rises word w bare some is =
      subst (Rises v Up) is (by (if starts_with nat_eq word (codes "pre") then checked id base else Ok tt))
    where
      by : (r : Result ⊤ Fault) → Rises v Up (r >>= λ _. by_word word id base v)
      by (Ok t) = word_rises word bare some
      by (Err e) = tt
