-- The workspaces, item by item.
use Rattle.std.proofs.Common.{◌≡◌, ◌<◌, ◌≤◌, ◌+◌, ◌⊎◌, ◌∷◌, ◌++◌, ◌∙◌, [], All, List, None, Some, ℕ}
use Rattle.std.proofs.Common.{Global, String, ap, arith, false, get_or, inl, inr, length, option_and_then, refl, string_bytes}
use Rattle.std.proofs.Common.{◌≢◌, subst, suc, sym, unwrap_or, zero}
use Rattle.std.proofs.lemmas.List.Elements.{All-contains, All-weaker, Contains-push_cases}
use Rattle.std.specs.Borrow.{Bor}
use Rattle.std.specs.Map.{keys_of}
use Rattle.serde_json.specs.Data.{Data, array, boolean, null, number, object, string}
use Rattle.serde_json.specs.Find.{as_array, as_str, at, get, get_item}
use Rattle.serde_json.specs.View.{items_view, view}
use Rattle.serde_json.specs.declared.value.Value.{Value}
use Rattle.lock_files.proofs.Collecting.{HasKey, key-of}
use Rattle.lock_files.proofs.Patterns.{item-or}
use Rattle.lock_files.proofs.Added.{fault-kept, extends-kept}
use Rattle.lock_files.specs.Dependencies.{IsOf, rank}
use Rattle.lock_files.specs.Internal.Collected.{AreWorkspaces, IsOfRank, IsTaken}
use Rattle.lock_files.specs.Faults.{Extends, HasFault, IsPackageFault}
use Rattle.lock_files.specs.Edges.{HasEdge}
use Rattle.lock_files.specs.Internal.Patterns.{AreMeantFound, AreMeantLinked, Fits, HasWorkspace, IsPattern}
use Rattle.lock_files.specs.Internal.Patterns.{IsMeantFound, Keeps}
use Rattle.lock_files.specs.Lookups.{IsPackage, packages_of}
use Rattle.lock_files.specs.Specifiers.{has}
use Rattle.lock_files.specs.Workspaces.{AreFitting, HasOtherTexts, IsMeant, IsNoList, IsProject, is_unread}
use Rattle.lock_files.specs.Workspaces.{parts, pattern_of, texts_in}
use Rattle.lock_files.specs.Workspaces.IsMeant.{alone, starred}
use Rattle.lock_files.specs.declared.edge.Edge.{Edge}
use Rattle.lock_files.specs.declared.fault.Fault.{Fault}
use Rattle.lock_files.specs.declared.fault.Fault.TheVariants as fault
use Rattle.lock_files.specs.declared.lock.Dependencies.{Dependencies}
use Rattle.lock_files.specs.declared.lock.Dependency.{Dependency}
use Rattle.lock_files.specs.declared.lock.Field.TheVariants as field
use Rattle.lock_files.specs.declared.lock.Lock.{Lock}
use Rattle.lock_files.specs.declared.lock.Package.{Package}
use Rattle.lock_files.specs.declared.workspaces.Pattern.{Pattern}
use Rattle.lock_files.specs.declared.workspaces.Pattern.TheVariants as pattern

-- ---- what is no text

abbrev pub IsTold : List Fault → Type 0
IsTold faults = HasFault faults (λ f. f ≡ fault.Workspaces)

-- of the first items each that is no text is told
abbrev pub AreItemsTold : List Value → ℕ → List Fault → Type 0
AreItemsTold vs n faults = (k : ℕ) (d : Value) → k < n → as_str (view (get_or vs k d)) ≡ None → IsTold faults

last-or : (k n : ℕ) → k < n + 1 → (k < n) ⊎ (k ≡ n)
last-or k n h = grind arith

pub items-none : (vs : List Value) (faults : List Fault) → AreItemsTold vs 0 faults
items-none vs faults k d h none = absurd (omega arith)

pub items-text : (vs : List Value) (n : ℕ) (faults : List Fault) (text : List ℕ)
    → ((d : Value) → Some text ≡ as_str (view (get_or vs n d))) → AreItemsTold vs n faults → AreItemsTold vs (n + 1) faults
items-text vs n faults text is all k d h none = elim (last-or k n h) [
  | inl lower ↦ all k d lower none
  | inr last ↦ let e = is d ∙ subst (λ i. as_str (view (get_or vs i d)) ≡ None) last none in absurd (cc)
]

module _ (vs : List Value) (n : ℕ) (before after : List Fault) where
  -- one more item
  pub items-more : Extends before after → ((d : Value) → as_str (view (get_or vs n d)) ≡ None → IsTold after)
      → AreItemsTold vs n before → AreItemsTold vs (n + 1) after
  items-more more here all k d h none = elim (last-or k n h) [
    | inl lower ↦ fault-kept before after (λ f. f ≡ fault.Workspaces) more (all k d lower none)
    | inr last ↦ here d (subst (λ i. as_str (view (get_or vs i d)) ≡ None) last none)
  ]

-- an item that is a text is none to tell
pub text-same : (vs : List Value) (n : ℕ) (v : Value) (text : List ℕ) → n < length vs → v ≡ get_or vs n v
    → Some text ≡ as_str (view v) → (d : Value) → Some text ≡ as_str (view (get_or vs n d))
text-same vs n v text h same is d =
    let both : Some (view v) ≡ Some (view (get_or vs n d))
    = ap (λ w. Some (view w)) same ∙ sym (item-or vs n v h) ∙ item-or vs n d h in
    is ∙ ap as_str (ap (λ o. unwrap_or o (view v)) both)

pub none-same : (vs : List Value) (n : ℕ) (v : Value) → n < length vs → v ≡ get_or vs n v → None ≡ as_str (view v)
    → (d : Value) → None ≡ as_str (view (get_or vs n d))
none-same vs n v h same is d =
    let both : Some (view v) ≡ Some (view (get_or vs n d))
    = ap (λ w. Some (view w)) same ∙ sym (item-or vs n v h) ∙ item-or vs n d h in
    is ∙ ap as_str (ap (λ o. unwrap_or o (view v)) both)

-- an item stands in the list
item-place : (vs : List Value) (i : ℕ) (value : Data) → get_item i (items_view vs) ≡ Some value
    → (d : Value) × (i < length vs) × (view (get_or vs i d) ≡ value)
item-place [] i value is = absurd (cc)
item-place (v ∷ vs) zero value is = (v, omega arith, ap (λ o. unwrap_or o (view v)) is)
item-place (v ∷ vs) (suc i) value is = let at = item-place vs i value is in (at.0, omega (arith, at.1), at.2)

module _ (root : Data) (vs : List Value) (some : texts_in root ≡ Some (array (items_view vs))) where
  -- all are told, if they are a list
  pub texts-told : (n : ℕ) (faults : List Fault) → length vs ≤ n → AreItemsTold vs n faults → HasOtherTexts root
      → IsTold faults
  texts-told n faults h all (inl (list, is, none)) =
      let whole : as_array (array (items_view vs)) ≡ None = ap as_array (same list is) ∙ none in absurd (cc)
    where
      same : (list : Data) → texts_in root ≡ Some list → array (items_view vs) ≡ list
      same list is = let e = sym some ∙ is in cc
  texts-told n faults h all (inr (i, value, is, none)) =
      let at = item-place vs i value (sym (ap (option_and_then (at i)) some) ∙ is) in
      all i at.0 (omega (arith, at.1)) (ap as_str at.2 ∙ none)

  -- an item that is no text
  pub item-wrong : (k : ℕ) (v : Value) → k < length vs → v ≡ get_or vs k v → None ≡ as_str (view v) → HasOtherTexts root
  item-wrong k v h same none = inr (
    k,
    view v,
    ap (option_and_then (at k)) some ∙ item-or vs k v h ∙ ap (λ w. Some (view w)) (sym same),
    sym none,
  )

-- without texts there are no others
pub no-texts : (root : Data) → texts_in root ≡ None → HasOtherTexts root → ⊥
no-texts root none (inl (list, is, _)) = let e = sym none ∙ is in absurd (cc)
no-texts root none (inr (i, value, is, _)) = let e = sym (ap (option_and_then (at i)) none) ∙ is in absurd (cc)

-- the fault is that of the root project
pub texts-wrong : (lock : Lock) (p : Package) → p.folder.now ≡ [] → IsPackage lock p → HasOtherTexts (view p.fields.now)
    → IsPackageFault lock fault.Workspaces
texts-wrong lock p empty is wrong = (
  view p.fields.now,
  subst (λ folder. get folder (packages_of lock) ≡ Some (view p.fields.now)) empty is,
  wrong,
)

-- ---- which workspaces are collected

pub workspace-kept : (lock : Lock) (before after : List Dependency) (place folder : List ℕ) → Keeps before after
    → HasWorkspace lock before place folder → HasWorkspace lock after place folder
workspace-kept lock before after place folder keeps (name, is, (d, at, of)) = (name, is, (d, keeps d at, of))

pub workspaces-upto : (p : Package) (found : Dependencies) → AreWorkspaces p found
    → All (IsOfRank p.folder.now 0) found.first.items
workspaces-upto p found are =
    All-weaker (λ d. (d.package.folder.now ≡ p.folder.now) × (d.field ≡ field.Workspaces)) (IsOfRank p.folder.now 0)
    (λ d is. (is.0, subst (λ g. rank g ≤ 0) (sym is.1) (omega arith))) found.first.items are.each

-- of the first items each pattern that is read has all that it means
abbrev pub AreItemsFound : Lock → Package → List Value → ℕ → List Dependency → Type 0
AreItemsFound lock p vs n found = (k : ℕ) (d : Value) (text folder : List ℕ) → k < n
    → Some text ≡ as_str (view (get_or vs k d)) → is_unread (pattern_of text) ≡ false
    → IsMeant lock (pattern_of text) folder → HasWorkspace lock found p.folder.now folder

-- of these folders of the lock file each that fits
abbrev pub AreKeysFound : Lock → Package → Pattern → List (String Global) → List Dependency → Type 0
AreKeysFound lock p own keys found = (folder : List ℕ) → HasKey keys folder → IsProject lock folder
    → Fits own folder → HasWorkspace lock found p.folder.now folder

module _ (lock : Lock) (p : Package) where
  pub found-none : (vs : List Value) (found : List Dependency) → AreItemsFound lock p vs 0 found
  found-none vs found k d text folder h is read meant = absurd (omega arith)

  pub keys-none : (own : Pattern) (found : List Dependency) → AreKeysFound lock p own [] found
  keys-none own found folder key project fits = absurd (omega (arith, key.1.1))

  pub items-kept : (vs : List Value) (n : ℕ) (before after : List Dependency) → Keeps before after
      → AreItemsFound lock p vs n before → AreItemsFound lock p vs n after
  items-kept vs n before after keeps all k d text folder h is read meant =
      workspace-kept lock before after p.folder.now folder keeps (all k d text folder h is read meant)

  -- one more folder
  pub keys-more : (own : Pattern) (keys : List (String Global)) (key : String Global) (before after : List Dependency)
      → Keeps before after
      → (IsProject lock (string_bytes key) → Fits own (string_bytes key)
      → HasWorkspace lock after p.folder.now (string_bytes key))
      → AreKeysFound lock p own keys before → AreKeysFound lock p own (keys ++ key ∷ []) after
  keys-more own keys key before after keeps here all folder has project fits =
      elim (Contains-push_cases keys key has.0 has.1) [
        | inl earlier ↦ workspace-kept lock before after p.folder.now folder keeps
            (all folder (has.0, earlier, has.2) project fits)
        | inr same ↦
            let is : string_bytes key ≡ folder = ap string_bytes same ∙ has.2 in
            subst (HasWorkspace lock after p.folder.now) is
            (here (subst (IsProject lock) (sym is) project) (subst (Fits own) (sym is) fits))
      ]

  module _ (vs : List Value) (n : ℕ) (found : List Dependency) where
    -- an item that is no text
    pub found-passed : ((d : Value) → None ≡ as_str (view (get_or vs n d))) → AreItemsFound lock p vs n found
        → AreItemsFound lock p vs (n + 1) found
    found-passed none all k d text folder h is read meant = elim (last-or k n h) [
      | inl lower ↦ all k d text folder lower is read meant
      | inr last ↦ let e = is ∙ sym (subst (λ i. None ≡ as_str (view (get_or vs i d))) (sym last) (none d)) in absurd (cc)
    ]

    -- a text, all whose folders are there
    pub found-text : (own : List ℕ) → ((d : Value) → Some own ≡ as_str (view (get_or vs n d)))
        → IsMeantFound lock found p.folder.now own → AreItemsFound lock p vs n found → AreItemsFound lock p vs (n + 1) found
    found-text own same here all k d text folder h is read meant = elim (last-or k n h) [
      | inl lower ↦ all k d text folder lower is read meant
      | inr last ↦
          let e : Some text ≡ Some own = is ∙ sym (subst (λ i. Some own ≡ as_str (view (get_or vs i d))) (sym last) (same d)) in
          let one : text ≡ own = ap (λ o. unwrap_or o own) e in
          here folder (subst (λ t. is_unread (pattern_of t) ≡ false) one read)
          (subst (λ t. IsMeant lock (pattern_of t) folder) one meant)
    ]

  module _ (own : List ℕ) (found : List Dependency) where
    -- its pattern has stars, or is not read
    pub found-stars : (own_pattern : Pattern) → IsPattern own own_pattern
        → ((folder : Bor (List ℕ)) → own_pattern ≢ pattern.Folder folder)
        → AreKeysFound lock p own_pattern (keys_of lock.packages.now.entries) found
        → IsMeantFound lock found p.folder.now own
    found-stars (pattern.Folder folder) is other keys place read meant = absurd (other folder refl)
    found-stars pattern.Unread is other keys place read meant = let e = sym read ∙ is in absurd (cc)
    found-stars (pattern.Stars stars) is other keys place read (alone none same) =
        let e = sym none ∙ ap (has 42) (sym is.0) ∙ is.2 in absurd (cc)
    found-stars (pattern.Stars stars) is other keys place read (starred some project fits) =
        keys place (key-of place lock.packages.now.entries project.0) project
        (subst (λ t. AreFitting (parts t) (parts place)) (sym is.0) fits)

  module _ (vs : List Value) (some : texts_in (view p.fields.now) ≡ Some (array (items_view vs))) where
    -- all of them
    pub found-all : (n : ℕ) (found : List Dependency) → length vs ≤ n → AreItemsFound lock p vs n found
        → AreMeantFound lock p found
    found-all n found h all root folder w =
        let i = w.among.0 in
        let at = item-place vs i (string w.text) (sym (ap (option_and_then (at i)) some) ∙ w.among.1) in
        all i at.0 w.text folder (omega (arith, at.1)) (sym (ap as_str at.2)) w.read w.meant

  -- there are none
  pub found-no_texts : (found : List Dependency) → texts_in (view p.fields.now) ≡ None → AreMeantFound lock p found
  found-no_texts found none root folder w =
      let e = sym (ap (option_and_then (at w.among.0)) none) ∙ w.among.1 in absurd (cc)

  pub found-no_list : (found : List Dependency) → IsNoList (view p.fields.now) → AreMeantFound lock p found
  found-no_list found (list, is, none) root folder w =
      let e = sym (ap (option_and_then (at w.among.0)) is) ∙ w.among.1 in
      let empty = no-item w.among.0 list none in absurd (cc)
    where
      no-item : (i : ℕ) (d : Data) → as_array d ≡ None → at i d ≡ None
      no-item i null none = refl
      no-item i (boolean b) none = refl
      no-item i (number n) none = refl
      no-item i (string s) none = refl
      no-item i (array ds) none = absurd (cc)
      no-item i (object ms) none = refl

-- ---- with what is locked for them

meant-taken : (lock : Lock) (edges : List Edge) (place name : List ℕ) (d : Dependency) → IsOf place field.Workspaces name d
    → IsTaken lock edges d → HasEdge edges place field.Workspaces name
meant-taken lock edges place name d of (inl (e, at, same)) = (e, at, subst (IsOf place field.Workspaces name) (sym same) of)
meant-taken lock edges place name d of (inr (locked, near, out)) =
    absurd (omega (arith, subst (λ f. rank f ≤ 0) out.by_requires of.of_field))

pub meant-linked : (lock : Lock) (p : Package) (found : List Dependency) (edges : List Edge) → AreMeantFound lock p found
    → All (IsTaken lock edges) found → AreMeantLinked lock edges p.folder.now (view p.fields.now)
meant-linked lock p found edges all taken root folder is =
    let has = all root folder is in (
      has.0,
      has.1,
      meant-taken lock edges p.folder.now has.0 has.2.0 has.2.2 (All-contains (IsTaken lock edges) found has.2.0 taken has.2.1),
    )

pub meant-kept : (lock : Lock) (before after : List Edge) → Extends before after → (place : List ℕ) (fields : Data)
    → AreMeantLinked lock before place fields → AreMeantLinked lock after place fields
meant-kept lock before after more place fields all root folder is =
    let has = all root folder is in
    (has.0, has.1, (has.2.0, extends-kept before after has.2.0 more has.2.1, has.2.2))
