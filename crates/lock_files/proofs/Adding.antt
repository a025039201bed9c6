-- The packages that the conversion of entries adds.
use Rattle.std.proofs.Common.{◌≡◌, ◌≢◌, ◌∙◌, ◌⊎◌, ◌+◌, ◌<◌, ◌≤◌, [], ◌∷◌, ◌++◌, Equal, Greater, Less, List, None}
use Rattle.std.proofs.Common.{Option, Ordering, Some, ℕ, ap, arith, false, inl, inr, max, nat_cmp, refl}
use Rattle.std.proofs.Common.{subst, suc, sym, true, true≢false, zero}
use Rattle.std.proofs.lemmas.Bool.{cases_Bool}
use Rattle.std.proofs.lemmas.List.Elements.{All-cons, All-contains, All-nil, Contains-append_cases, Contains-append_left}
use Rattle.std.proofs.lemmas.List.Elements.{Contains-append_right, Contains-get_or}
use Rattle.std.proofs.lemmas.Option.{IfSome_then}
use Rattle.std.proofs.lemmas.Slice.Eq.{bytes_eq-Decides}
use Rattle.std.specs.Cmp.Lexicographic.{slice_cmp}
use Rattle.std.specs.Ordering.{match_ordering}
use Rattle.std.specs.Prelude.{All, Contains, Err, IfOk, IfSome, Ok, OnOk, Result, bytes_eq, is_some, option_and_then, unwrap_or}
use Rattle.serde_json.proofs.Views.{Entry, get_member-put, get_member-put_other}
use Rattle.serde_json.specs.Data.{Data, Members, array, boolean, depth, member, members_depth, no_members, null, number, object}
use Rattle.serde_json.specs.Data.{put, string}
use Rattle.serde_json.specs.Find.{as_object, get, get_member}
use Rattle.serde_json.specs.View.{members_view, view}
use Rattle.lock_files.specs.Internal.Nesting.{AddsAll, AddsEntry, AddsOwn, AreAdded, IsAfter, placed_at, with_link, with_target}
use Rattle.lock_files.specs.Internal.Nesting.IsAfter.{as_before, by_entry, by_link}
use Rattle.lock_files.specs.Nested.{AreConverted, ArePlaced, HasFields, HasPackage, IsPackageOf, IsPut, IsSource, IsTaken, Placed}
use Rattle.lock_files.specs.Nested.{below, entries_within, folder_within, kept, link_to, link_target}
use Rattle.lock_files.specs.Nested.ArePlaced.{entry_and, no_entries}
use Rattle.lock_files.specs.Nested.IsPackageOf.{linked, plain}
use Rattle.lock_files.specs.declared.specifier.Specifier.{Specifier}
use Rattle.lock_files.specs.Nested.IsPut.{of_entry, of_link}

-- ---- what is put

-- what stands at a key after something was put
put-cases : (k q : List ℕ) (d e : Data) (ms : Members) → get_member q (put k d ms) ≡ Some e
    → ((q ≡ k) × (e ≡ d)) ⊎ ((q ≢ k) × (get_member q ms ≡ Some e))
put-cases k q d e ms at = elim (cases_Bool (bytes_eq q k)) [
  | inl is ↦
      let same = (bytes_eq-Decides q k).0 is in
      let here = get_member-put k d ms in
      let there : get_member k (put k d ms) ≡ Some e = subst (λ n. get_member n (put k d ms) ≡ Some e) same at in
      inl (same, cc)
  | inr not ↦
      let other = λ (same : q ≡ k). true≢false (sym ((bytes_eq-Decides q k).1 same) ∙ not) in
      inr (other, sym (get_member-put_other q k d ms other) ∙ at)
]

has-put : (k : List ℕ) (d : Data) (ms : Members) → HasPackage (put k d ms) k
has-put k d ms = ap is_some (get_member-put k d ms)

still-has : (k q : List ℕ) (d : Data) (ms : Members) → HasPackage ms q → HasPackage (put k d ms) q
still-has k q d ms has = elim (cases_Bool (bytes_eq q k)) [
  | inl is ↦ subst (HasPackage (put k d ms)) (sym ((bytes_eq-Decides q k).0 is)) (has-put k d ms)
  | inr not ↦
      ap is_some (get_member-put_other q k d ms (λ same. true≢false (sym ((bytes_eq-Decides q k).1 same) ∙ not))) ∙ has
]

none-before : (old new : Option Data) → (is_some old ≡ true → is_some new ≡ true) → new ≡ None → old ≡ None
none-before None new stays none = refl
none-before (Some d) new stays none = absurd (true≢false (sym (stays refl) ∙ ap is_some none))

-- ---- entries among others

all-from : {X : Type 0} (P : X → Type 0) (xs : List X) → ((x : X) → Contains xs x → P x) → All P xs
all-from P xs each k d low = each _ (Contains-get_or xs k d low)

taken-by : (placed : List Placed) (folder : List ℕ) (p : Placed) → Contains placed p → p.folder ≡ folder
    → IsTaken placed folder
taken-by placed folder p is at = (is.0, p, is.1, is.2, at)

-- two lists of entries together
pub record IsJoined (first later both : List Placed) : Type 0 where
  pub parts : (p : Placed) → Contains both p → Contains first p ⊎ Contains later p
  pub in_first : (p : Placed) → Contains first p → Contains both p
  pub in_later : (p : Placed) → Contains later p → Contains both p

joined-then : (first later : List Placed) → IsJoined first later (first ++ later)
joined-then first later = record {
  parts = λ p is. Contains-append_cases first later p is;
  in_first = λ p is. Contains-append_left first later p is;
  in_later = λ p is. Contains-append_right first later p is;
}

joined-before : (first later : List Placed) → IsJoined first later (later ++ first)
joined-before first later = record {
  parts = λ p is. elim (Contains-append_cases later first p is) [ inl l ↦ inr l | inr f ↦ inl f ];
  in_first = λ p is. Contains-append_right later first p is;
  in_later = λ p is. Contains-append_left later first p is;
}

module _ (first later both : List Placed) (old mid new : Members) (join : IsJoined first later both)
    (added : AreAdded first old mid) (more : AreAdded later mid new) where
  free-both : (folder : List ℕ) → ¬ (IsTaken first folder) → ¬ (IsTaken later folder) → ¬ (IsTaken both folder)
  free-both folder none never (k, p, low, is, at) = elim (join.parts p (k, low, is)) [
    | inl f ↦ none (taken-by first folder p f at)
    | inr l ↦ never (taken-by later folder p l at)
  ]

  -- a folder without a package is that of no entry before
  free-first : (folder : List ℕ) → get_member folder mid ≡ None → ¬ (IsTaken first folder)
  free-first folder none (k, p, low, is, at) =
      true≢false (sym (subst (HasPackage mid) at (All-contains (λ q. HasPackage mid q.folder) first p added.entries (k, low, is)))
      ∙ ap is_some none)

  before-both : (folder : List ℕ) {fields : Data} → ¬ (IsTaken later folder) → IsAfter first old folder fields
      → IsAfter both old folder fields
  before-both folder never (as_before fields at free) = as_before fields at (free-both folder free never)
  before-both folder never (by_entry p fields is at own) = by_entry p fields (join.in_first p is) at own
  before-both folder never (by_link p is leads free none) =
      by_link p (join.in_first p is) leads (free-both folder free never) none

  after-both : (folder : List ℕ) {fields : Data} → IsAfter later mid folder fields → IsAfter both old folder fields
  after-both folder (as_before fields at free) = before-both folder free (added.each folder fields at)
  after-both folder (by_entry p fields is at own) = by_entry p fields (join.in_later p is) at own
  after-both folder (by_link p is leads free none) =
      by_link p (join.in_later p is) leads (free-both folder (free-first folder none) free)
      (none-before (get_member folder old) (get_member folder mid) (added.stay folder) none)

  pub added-both : AreAdded both old new
  added-both = record {
    stay = λ folder has. more.stay folder (added.stay folder has);
    entries = all-from (λ p. HasPackage new p.folder) both (λ p is. elim (join.parts p is) [
      | inl f ↦ more.stay p.folder (All-contains (λ q. HasPackage mid q.folder) first p added.entries f)
      | inr l ↦ All-contains (λ q. HasPackage new q.folder) later p more.entries l
    ]);
    targets = all-from (λ p. IfSome (link_target p.source) (HasPackage new)) both (λ p is. elim (join.parts p is) [
      | inl f ↦ IfSome_then (link_target p.source)
          (All-contains (λ q. IfSome (link_target q.source) (HasPackage mid)) first p added.targets f) more.stay
      | inr l ↦ All-contains (λ q. IfSome (link_target q.source) (HasPackage new)) later p more.targets l
    ]);
    each = λ folder fields at. after-both folder (more.each folder fields at);
  }

-- ---- no entry, and one

pub added-none : (old : Members) → AreAdded [] old old
added-none old = record {
  stay = λ folder has. has;
  entries = All-nil (λ p. HasPackage old p.folder);
  targets = All-nil (λ p. IfSome (link_target p.source) (HasPackage old));
  each = λ folder fields at. as_before fields at (λ (k, p, low, _, _). absurd (omega arith));
}

-- an entry alone has its folder alone
free-alone : (p : Placed) (folder : List ℕ) → folder ≢ p.folder → ¬ (IsTaken (p ∷ []) folder)
free-alone p folder other (zero, q, low, is, at) = other (sym at ∙ ap (λ r. r.folder) (sym is))
free-alone p folder other (suc k, q, low, is, at) = absurd (omega arith)

here : (p : Placed) → Contains (p ∷ []) p
here p = (0, omega arith, refl)

-- an entry that is no link
module _ (p : Placed) (fields : Data) (old new : Members) (same : new ≡ put p.folder fields old)
    (none : link_target p.source ≡ None) (own : HasFields p.name p.entry p.source fields) where
  own-each : (folder : List ℕ) (found : Data) → get_member folder (put p.folder fields old) ≡ Some found
      → IsAfter (p ∷ []) old folder found
  own-each folder found at = elim (put-cases p.folder folder fields found old at) [
    | inl (is, this) ↦ by_entry p found (here p) (sym is) (subst (IsPackageOf p) (sym this) (plain fields none own))
    | inr (other, before) ↦ as_before found before (free-alone p folder other)
  ]

  pub added-own : AreAdded (p ∷ []) old new
  added-own = subst (AreAdded (p ∷ []) old) (sym same) (record {
    stay = λ folder has. still-has p.folder folder fields old has;
    entries = All-cons (λ q. HasPackage (put p.folder fields old) q.folder) p [] (has-put p.folder fields old)
        (All-nil (λ q. HasPackage (put p.folder fields old) q.folder));
    targets = All-cons (λ q. IfSome (link_target q.source) (HasPackage (put p.folder fields old))) p []
        (subst (λ t. IfSome t (HasPackage (put p.folder fields old))) (sym none) tt)
        (All-nil (λ q. IfSome (link_target q.source) (HasPackage (put p.folder fields old))));
    each = own-each;
  })

-- what stands at the target of a link
target-stays : (target folder : List ℕ) (fields : Data) (old : Members) → HasPackage old folder
    → HasPackage (with_target target fields old) folder
target-stays target folder fields old has = elim (cases_Bool (is_some (get_member target old))) [
  | inl there ↦ rw there has
  | inr none ↦ rw none (still-has target folder fields old has)
]

target-has : (target : List ℕ) (fields : Data) (old : Members) → HasPackage (with_target target fields old) target
target-has target fields old = elim (cases_Bool (is_some (get_member target old))) [
  | inl there ↦ rw there there
  | inr none ↦ rw none (has-put target fields old)
]

none-is : (o : Option Data) → is_some o ≡ false → o ≡ None
none-is None none = refl
none-is (Some d) none = absurd (true≢false none)

target-cases : (target folder : List ℕ) (fields found : Data) (old : Members)
    → get_member folder (with_target target fields old) ≡ Some found
    → (get_member folder old ≡ Some found) ⊎ ((folder ≡ target) × (found ≡ fields) × (get_member folder old ≡ None))
target-cases target folder fields found old at = elim (cases_Bool (is_some (get_member target old))) [
  | inl there ↦ inl (rw there at at)
  | inr none ↦ elim (put-cases target folder fields found old (rw none at at)) [
    | inl (is, this) ↦ inr (is, this, ap (λ n. get_member n old) is ∙ none-is (get_member target old) none)
    | inr (other, before) ↦ inl before
  ]
]

-- a link
module _ (p : Placed) (target : List ℕ) (old new : Members) (same : new ≡ with_link p.folder target p.entry old)
    (leads : link_target p.source ≡ Some target) where
  mid : Members
  mid = with_target target (object (kept p.entry)) old

  link-each : (folder : List ℕ) (found : Data) → get_member folder (put p.folder (link_to target) mid) ≡ Some found
      → IsAfter (p ∷ []) old folder found
  unfolding mid
  link-each folder found at = elim (put-cases p.folder folder (link_to target) found mid at) [
    | inl (is, this) ↦ by_entry p found (here p) (sym is) (subst (IsPackageOf p) (sym this) (linked target leads))
    | inr (other, there) ↦ elim (target-cases target folder (object (kept p.entry)) found old there) [
      | inl before ↦ as_before found before (free-alone p folder other)
      | inr (is, this, none) ↦ subst (IsAfter (p ∷ []) old folder) (sym this)
          (by_link p (here p) (leads ∙ ap Some (sym is)) (free-alone p folder other) none)
    ]
  ]

  pub added-link : AreAdded (p ∷ []) old new
  unfolding mid
  added-link = subst (AreAdded (p ∷ []) old) (sym same) (record {
    stay = λ folder has. still-has p.folder folder (link_to target) mid
        (target-stays target folder (object (kept p.entry)) old has);
    entries = All-cons (λ q. HasPackage (put p.folder (link_to target) mid) q.folder) p []
        (has-put p.folder (link_to target) mid) (All-nil (λ q. HasPackage (put p.folder (link_to target) mid) q.folder));
    targets = All-cons (λ q. IfSome (link_target q.source) (HasPackage (put p.folder (link_to target) mid))) p []
        (subst (λ t. IfSome t (HasPackage (put p.folder (link_to target) mid))) (sym leads)
        (still-has p.folder target (link_to target) mid (target-has target (object (kept p.entry)) old)))
        (All-nil (λ q. IfSome (link_target q.source) (HasPackage (put p.folder (link_to target) mid))));
    each = link-each;
  })

pub with-target-there : (target : List ℕ) (fields : Data) (old : Members) → is_some (get_member target old) ≡ true
    → old ≡ with_target target fields old
with-target-there target fields old there = rw there

pub with-target-none : (target : List ℕ) (fields : Data) (old : Members) → is_some (get_member target old) ≡ false
    → put target fields old ≡ with_target target fields old
with-target-none target fields old none = rw none

-- ---- what is returned

module _ {A E : Type 0} (result : Result A E) (text : A → List ℕ) (folder name : List ℕ) (entry : Data)
    (s : Option Specifier) (old new : Members) (is : IsSource entry s) where
  pub own-link : (target : List ℕ) → link_target s ≡ Some target → IfOk result (λ t. text t ≡ target)
      → OnOk result (new ≡ with_link folder target entry old)
      → IfOk result (λ within. AddsOwn folder name entry (text within) old new)
  own-link target leads to same = link-of result to same
    where
      link-of : (r : Result A E) → IfOk r (λ t. text t ≡ target) → OnOk r (new ≡ with_link folder target entry old)
          → IfOk r (λ within. AddsOwn folder name entry (text within) old new)
      link-of (Err e) to same = tt
      link-of (Ok t) to same = record {
        source = s;
        is = is;
        leads = to ∙ ap (λ o. unwrap_or o folder) (sym leads);
        added = added-link (placed_at folder name entry s) target old new same leads;
      }

  pub own-plain : (fields : Data) → link_target s ≡ None → HasFields name entry s fields
      → IfOk result (λ t. text t ≡ folder) → new ≡ put folder fields old
      → IfOk result (λ within. AddsOwn folder name entry (text within) old new)
  own-plain fields none own to same = plain-of result to
    where
      plain-of : (r : Result A E) → IfOk r (λ t. text t ≡ folder)
          → IfOk r (λ within. AddsOwn folder name entry (text within) old new)
      plain-of (Err e) to = tt
      plain-of (Ok t) to = record {
        source = s;
        is = is;
        leads = to ∙ ap (λ o. unwrap_or o folder) (sym none);
        added = added-own (placed_at folder name entry s) fields old new same none own;
      }

-- ---- how deep entries stand inside one another

depth-at : (o : Ordering) (later : Option Data) (d e : Data) (n : ℕ) → ((f : Data) → later ≡ Some f → depth f ≤ n)
    → match_ordering o later (Some e) later ≡ Some d → depth d ≤ max (depth e) n
depth-at Less later d e n each at = omega (arith, each d at)
depth-at Equal later d e n each at = let same : e ≡ d = cc in omega (arith, ap depth same)
depth-at Greater later d e n each at = omega (arith, each d at)

depth-member : (k : List ℕ) (ms : Members) (d : Data) → get_member k ms ≡ Some d → depth d ≤ members_depth ms
depth-member k no_members d at = cc
depth-member k (member l e ms) d at =
    depth-at (slice_cmp nat_cmp k l) (get_member k ms) d e (members_depth ms) (depth-member k ms) at

depth-get : (k : List ℕ) (entry d : Data) → get k entry ≡ Some d → depth d < depth entry
depth-get k null d at = cc
depth-get k (boolean b) d at = cc
depth-get k (number n) d at = cc
depth-get k (string s) d at = cc
depth-get k (array ds) d at = cc
depth-get k (object ms) d at = omega (arith, depth-member k ms d at)

depth-object : (d : Data) (ms : Members) → as_object d ≡ Some ms → members_depth ms < depth d
depth-object null ms at = cc
depth-object (boolean b) ms at = cc
depth-object (number n) ms at = cc
depth-object (string s) ms at = cc
depth-object (array ds) ms at = cc
depth-object (object own) ms at = let same : own ≡ ms = cc in omega (arith, ap members_depth same)

pub depth-within : (k : List ℕ) (entry : Data) (ms : Members) → Some ms ≡ option_and_then as_object (get k entry)
    → members_depth ms + 1 < depth entry
depth-within k entry ms at = of (get k entry) refl (sym at)
  where
    of : (o : Option Data) → get k entry ≡ o → option_and_then as_object o ≡ Some ms → members_depth ms + 1 < depth entry
    of None is some = cc
    of (Some d) is some = omega (arith, depth-get k entry d is, depth-object d ms some)

pub depth-among : (front : List Entry) (e : Entry) (back : List Entry)
    → depth (view e.1) ≤ members_depth (members_view (front ++ e ∷ back))
depth-among [] e back = omega arith
depth-among (f ∷ front) e back = omega (arith, depth-among front e back)

-- ---- an entry and those inside it, and all entries

-- an entry in its folder, and then those inside it
pub added-entry : (folder name place within : List ℕ) (entry : Data) (entries old mid new : Members) → place ≡ below folder name
    → AddsOwn place name entry within old mid → entries ≡ entries_within entry → AddsAll within entries mid new
    → AddsEntry folder name entry old new
added-entry folder name place within entry entries old mid new at own same (inner, placed, added) =
    let p = placed_at (below folder name) name entry own.source in
    let alone : AreAdded (p ∷ []) old mid
    = subst (λ f. AreAdded (placed_at f name entry own.source ∷ []) old mid) at own.added in
    let leads : within ≡ folder_within p = own.leads ∙ ap (λ f. folder_within (placed_at f name entry own.source)) at in
    record {
      source = own.source;
      is = own.is;
      within = inner;
      placed = subst (λ f. ArePlaced f (entries_within entry) inner) leads
          (subst (λ ms. ArePlaced within ms inner) same placed);
      added = added-both (p ∷ []) inner _ old mid new (joined-then (p ∷ []) inner) alone added;
    }

-- entries, and then one that stands before them
pub added-one : (folder name : List ℕ) (entry : Data) (others old mid new : Members) → AddsAll folder others old mid
    → AddsEntry folder name entry mid new → AddsAll folder (member name entry others) old new
added-one folder name entry others old mid new (beside, placed, added) one =
    let p = placed_at (below folder name) name entry one.source in (
      p ∷ (one.within ++ beside),
      entry_and folder p others one.within beside refl one.is one.placed placed,
      added-both beside (p ∷ one.within) _ old mid new (joined-before beside (p ∷ one.within)) added one.added,
    )

-- no entries
pub added-nothing : (folder : List ℕ) (old : Members) → AddsAll folder no_members old old
added-nothing folder old = ([], no_entries folder, added-none old)

-- where nothing stood before
after-nothing : (placed : List Placed) (folder : List ℕ) {fields : Data} → IsAfter placed no_members folder fields
    → IsPut placed folder fields
after-nothing placed folder (as_before fields at free) = cc
after-nothing placed folder (by_entry p fields is at own) = of_entry p fields is at own
after-nothing placed folder (by_link p is leads free none) = of_link p is leads free

pub added-to-nothing : (dependencies packages : Members) → AddsAll [] dependencies no_members packages
    → AreConverted dependencies packages
added-to-nothing dependencies packages (placed, are, added) = (
  placed,
  are,
  record {
    entries = added.entries;
    targets = added.targets;
    each = λ folder fields at. after-nothing placed folder (added.each folder fields at);
  },
)
