-- No name of a package is judged twice.
use Rattle.std.proofs.Common.{◌≡◌, ◌≢◌, ◌<◌, ◌≤◌, ◌+◌, ◌⊎◌, ◌∷◌, ◌++◌, ◌∙◌, [], All, Contains, Equal, Global, Greater, Less}
use Rattle.std.proofs.Common.{List, String, ap, arith, get_or, inl, inr, is_eq, length, refl, string_bytes}
use Rattle.std.proofs.Common.{ℕ, subst, sym, true}
use Rattle.std.specs.Prelude.{bytes_eq}
use Rattle.std.specs.List.{AllPairs}
use Rattle.std.proofs.lemmas.Cmp.{nat_list_cmp_total, tied_itself}
use Rattle.std.proofs.lemmas.List.{get_or_append_left, length-append}
use Rattle.std.proofs.lemmas.List.Elements.{All-contains, All-get_or, All-push, All-weaker, Contains-append_left, Contains-push, at_read}
use Rattle.std.proofs.lemmas.List.Quantifiers.{all_pairs_push}
use Rattle.std.proofs.lemmas.Map.Keys.{Less-from_sorted}
use Rattle.std.proofs.lemmas.Map.Text.{is_eq-slice_cmp}
use Rattle.std.proofs.lemmas.Slice.Eq.{bytes_eq-Decides}
use Rattle.std.proofs.Math.Seq.{get_or-append_seam}
use Rattle.std.specs.List.Sorted.{IsStrictlySortedBy}
use Rattle.std.specs.String.{string_cmp}
use Rattle.lock_files.proofs.Collecting.{HasKey}
use Rattle.lock_files.specs.Edges.{AreApartEdges, AreInOrder, AreOfOne, IsUpTo}
use Rattle.lock_files.specs.Internal.Collected.{AreOwn, IsOneOf}
use Rattle.lock_files.specs.declared.edge.Edge.{Edge}
use Rattle.lock_files.specs.declared.lock.Dependency.{Dependency}

-- ---- the dependencies of one package

-- one that was there before, or for one of the first of these dependencies
abbrev pub IsOneBefore : List Edge → List Dependency → ℕ → Edge → Type 0
IsOneBefore before found i e = Contains before e ⊎ ((j : ℕ) × (j < i) × ((d : Dependency) → get_or found j d ≡ e.dependency))

pub before-more : (before edges : List Edge) (found : List Dependency) (i : ℕ) → All (IsOneBefore before found i) edges
    → All (IsOneBefore before found (i + 1)) edges
before-more before edges found i all =
    All-weaker (IsOneBefore before found i) (IsOneBefore before found (i + 1)) later edges all
  where
    later : (e : Edge) → IsOneBefore before found i e → IsOneBefore before found (i + 1) e
    later e h = elim h [
      | inl old ↦ inl old
      | inr new ↦ inr (new.0, omega arith, new.2)
    ]

pub before-push : (before edges after : List Edge) (found : List Dependency) (i : ℕ) (e : Edge) → i < length found
    → e.dependency ≡ get_or found i e.dependency → after ≡ edges ++ e ∷ [] → All (IsOneBefore before found i) edges
    → All (IsOneBefore before found (i + 1)) after
before-push before edges after found i e low is same all =
    subst (All (IsOneBefore before found (i + 1))) (sym same)
    (All-push (IsOneBefore before found (i + 1)) edges e (before-more before edges found i all)
    (inr (i, omega arith, at_read found (λ d. d ≡ e.dependency) i e.dependency low is refl)))

pub before-all : (before edges : List Edge) (found : List Dependency) (i : ℕ) → i ≤ length found
    → All (IsOneBefore before found i) edges → All (IsOneOf before found) edges
before-all before edges found i low all = All-weaker (IsOneBefore before found i) (IsOneOf before found) one edges all
  where
    one : (e : Edge) → IsOneBefore before found i e → IsOneOf before found e
    one e h = elim h [
      | inl old ↦ inl old
      | inr new ↦ inr (new.0, omega arith, new.2 e.dependency)
    ]

pub apart-push : (before edges after : List Edge) (found : List Dependency) (i : ℕ) (e : Edge) (folder : List ℕ)
    → i < length found → e.dependency ≡ get_or found i e.dependency → after ≡ edges ++ e ∷ [] → AreOwn folder found
    → All (λ x. x.dependency.package.folder.now ≢ folder) before → All (IsOneBefore before found i) edges
    → AreApartEdges edges → AreApartEdges after
apart-push before edges after found i e folder low is same own others from apart =
    let R = λ (x y : Edge). ¬ AreOfOne x.dependency y.dependency in
    let here : e.dependency.package.folder.now ≡ folder =
    subst (λ d. d.package.folder.now ≡ folder) (sym is)
    (All-get_or (λ d. d.package.folder.now ≡ folder) found i e.dependency low own.each) in
    subst (AllPairs R) (sym same) (all_pairs_push R edges e apart (λ k x within one.
    elim (from k x within) [
      | inl old ↦
          All-contains (λ y. y.dependency.package.folder.now ≢ folder) before (get_or edges k x) others old (one.0 ∙ here)
      | inr new ↦
          own.apart new.0 i e.dependency new.1 low
          (subst (λ d. AreOfOne d (get_or found i e.dependency)) (sym (new.2 e.dependency))
          (subst (AreOfOne (get_or edges k x).dependency) is one))
    ]))

pub order-push : (before edges after : List Edge) (found : List Dependency) (i : ℕ) (e : Edge) (folder : List ℕ)
    → i < length found → e.dependency ≡ get_or found i e.dependency → after ≡ edges ++ e ∷ [] → AreOwn folder found
    → All (λ x. IsUpTo x.dependency.package.folder.now folder) before → All (IsOneBefore before found i) edges
    → AreInOrder edges → AreInOrder after
order-push before edges after found i e folder low is same own others from ordered =
    let R = λ (x y : Edge). IsUpTo x.dependency.package.folder.now y.dependency.package.folder.now in
    let here : e.dependency.package.folder.now ≡ folder =
    subst (λ d. d.package.folder.now ≡ folder) (sym is)
    (All-get_or (λ d. d.package.folder.now ≡ folder) found i e.dependency low own.each) in
    subst (AllPairs R) (sym same) (all_pairs_push R edges e ordered (λ k x within.
    subst (IsUpTo (get_or edges k x).dependency.package.folder.now) (sym here) (elim (from k x within) [
      | inl old ↦
          All-contains (λ y. IsUpTo y.dependency.package.folder.now folder) before (get_or edges k x) others old
      | inr new ↦
          subst (λ f. IsUpTo f folder)
          (sym (subst (λ d. d.package.folder.now ≡ folder) (new.2 e.dependency)
          (All-get_or (λ d. d.package.folder.now ≡ folder) found new.0 e.dependency (omega (arith, new.1)) own.each)))
          (up-to-itself folder)
    ])))
  where
    up-to-itself : (f : List ℕ) → IsUpTo f f
    up-to-itself f is = let equal : Equal ≡ Greater = sym (tied_itself nat_list_cmp_total f) ∙ is in absurd (cc)

-- ---- those of all packages

abbrev pub IsKeyed : List (String Global) → Edge → Type 0
IsKeyed keys e = HasKey keys e.dependency.package.folder.now

-- a key that comes later is greater
less : (keys more all : List (String Global)) (key : String Global) → all ≡ keys ++ key ∷ more
    → IsStrictlySortedBy string_cmp all → (folder : List ℕ) → (has : HasKey keys folder) → string_cmp has.0 key ≡ Less
less keys more all key same sorted folder has =
    let k = has.0 in
    let i = has.1.0 in
    let first : get_or all i k ≡ k =
    ap (λ ks. get_or ks i k) same ∙ get_or_append_left keys (key ∷ more) k i has.1.1 ∙ has.1.2 in
    let last : get_or all (length keys) k ≡ key =
    ap (λ ks. get_or ks (length keys) k) same ∙ get_or-append_seam keys key more k in
    let within : length keys < length all =
    subst (λ ks. length keys < length ks) (sym same) (omega (arith, length-append keys (key ∷ more))) in
    subst (λ l. string_cmp k l ≡ Less) last (subst (λ f. string_cmp f (get_or all (length keys) k) ≡ Less) first
    (Less-from_sorted string_cmp all i (length keys) k sorted has.1.1 within))

-- and has another text
later : (keys more all : List (String Global)) (key : String Global) → all ≡ keys ++ key ∷ more
    → IsStrictlySortedBy string_cmp all → (folder : List ℕ) → HasKey keys folder → folder ≢ string_bytes key
later keys more all key same sorted folder has is =
    let k = has.0 in
    let equal : bytes_eq (string_bytes k) (string_bytes key) ≡ true =
    (bytes_eq-Decides (string_bytes k) (string_bytes key)).1 (has.2 ∙ is) in
    let apart : is_eq Less ≡ bytes_eq (string_bytes k) (string_bytes key) =
    sym (ap is_eq (less keys more all key same sorted folder has)) ∙ is_eq-slice_cmp (string_bytes k) (string_bytes key) in
    absurd (cc)

up-to : (keys more all : List (String Global)) (key : String Global) → all ≡ keys ++ key ∷ more
    → IsStrictlySortedBy string_cmp all → (folder : List ℕ) → HasKey keys folder → IsUpTo folder (string_bytes key)
up-to keys more all key same sorted folder has =
    subst (λ f. IsUpTo f (string_bytes key)) has.2
    (λ is. let two : Less ≡ Greater = sym (less keys more all key same sorted folder has) ∙ is in absurd (cc))

pub keyed-up-to : (keys more all : List (String Global)) (key : String Global) (edges : List Edge)
    → all ≡ keys ++ key ∷ more → IsStrictlySortedBy string_cmp all → All (IsKeyed keys) edges
    → All (λ e. IsUpTo e.dependency.package.folder.now (string_bytes key)) edges
keyed-up-to keys more all key edges same sorted keyed =
    All-weaker (IsKeyed keys) (λ e. IsUpTo e.dependency.package.folder.now (string_bytes key))
    (λ e has. up-to keys more all key same sorted e.dependency.package.folder.now has) edges keyed

pub keyed-apart : (keys more all : List (String Global)) (key : String Global) (edges : List Edge)
    → all ≡ keys ++ key ∷ more → IsStrictlySortedBy string_cmp all → All (IsKeyed keys) edges
    → All (λ e. e.dependency.package.folder.now ≢ string_bytes key) edges
keyed-apart keys more all key edges same sorted keyed =
    All-weaker (IsKeyed keys) (λ e. e.dependency.package.folder.now ≢ string_bytes key)
    (λ e has. later keys more all key same sorted e.dependency.package.folder.now has) edges keyed

key-kept : (keys : List (String Global)) (key : String Global) (folder : List ℕ) → HasKey keys folder
    → HasKey (keys ++ key ∷ []) folder
key-kept keys key folder has = (has.0, Contains-append_left keys (key ∷ []) has.0 has.1, has.2)

pub keyed-kept : (keys : List (String Global)) (key : String Global) (edges : List Edge) → All (IsKeyed keys) edges
    → All (IsKeyed (keys ++ key ∷ [])) edges
keyed-kept keys key edges keyed =
    All-weaker (IsKeyed keys) (IsKeyed (keys ++ key ∷ []))
    (λ e has. key-kept keys key e.dependency.package.folder.now has) edges keyed

pub keyed-more : (keys : List (String Global)) (key : String Global) (before after : List Edge) (found : List Dependency)
    → AreOwn (string_bytes key) found → All (IsOneOf before found) after → All (IsKeyed keys) before
    → All (IsKeyed (keys ++ key ∷ [])) after
keyed-more keys key before after found own from keyed =
    All-weaker (IsOneOf before found) (IsKeyed (keys ++ key ∷ [])) one after from
  where
    one : (e : Edge) → IsOneOf before found e → IsKeyed (keys ++ key ∷ []) e
    one e h = elim h [
      | inl old ↦ key-kept keys key e.dependency.package.folder.now (All-contains (IsKeyed keys) before e keyed old)
      | inr new ↦ (
        key,
        Contains-push keys key,
        sym (All-contains (λ d. d.package.folder.now ≡ string_bytes key) found e.dependency own.each new),
      )
    ]
