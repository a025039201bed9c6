-- The dependencies of a package, one after another.
use Rattle.std.proofs.Common.{◌≡◌, ◌<◌, ◌≤◌, ◌+◌, ◌⊎◌, ◌||◌, ◌∷◌, ◌++◌, ◌∙◌, [], All, Bool, Contains, List, None, Option, Some, ℕ}
use Rattle.std.proofs.Common.{Equal, Greater, Less, Ordering, ap, arith, cond, false, get_or, if◌then◌else◌, inl, inr, option_and_then}
use Rattle.std.proofs.Common.{Global, String, is_eq, nat_cmp, refl, string_bytes, subst, suc, sym, true, zero}
use Rattle.std.proofs.lemmas.List.Elements.{All-push, All-weaker, Contains-append_left, Contains-append_right}
use Rattle.std.proofs.lemmas.List.Elements.{Contains-push, Contains-push_cases}
use Rattle.std.proofs.lemmas.List.Folds.{Any-from_list_any, list_any-append, list_any_at}
use Rattle.std.proofs.lemmas.List.Quantifiers.{all_pairs_push}
use Rattle.std.proofs.lemmas.Map.Text.{is_eq-slice_cmp}
use Rattle.std.proofs.lemmas.Slice.Eq.{bytes_eq-Decides}
use Rattle.std.specs.BTreeSet.{Updates, contains}
use Rattle.std.specs.Cmp.Lexicographic.{slice_cmp}
use Rattle.std.specs.List.{list_any}
use Rattle.std.specs.Map.{keys_of}
use Rattle.std.specs.Ordering.{match_ordering}
use Rattle.std.specs.Prelude.{IsSome, bytes_eq}
use Rattle.serde_json.specs.Data.{Data, array, boolean, null, number, object, string}
use Rattle.serde_json.specs.Find.{as_object, as_str, get, get_member}
use Rattle.serde_json.specs.View.{members_view, view}
use Rattle.serde_json.specs.declared.value.Value.{Value}
use Rattle.lock_files.specs.Internal.Collected.{AreAllFound, AreApart, AreNamed, AreOwn, AreUpto, AreWorkspaces}
use Rattle.lock_files.specs.Internal.Collected.{HasDependency, IsOfRank, has_name, members_in, with_first}
use Rattle.lock_files.specs.Edges.{AreOfOne}
use Rattle.lock_files.specs.Dependencies.{IsRead, Writes, rank}
use Rattle.lock_files.specs.Lookups.{field_name, written_in}
use Rattle.lock_files.specs.declared.lock.Dependencies.{Dependencies}
use Rattle.lock_files.specs.declared.lock.Dependency.{Dependency}
use Rattle.lock_files.specs.declared.lock.Field.{Field}
use Rattle.lock_files.specs.declared.lock.Field.TheVariants as field
use Rattle.lock_files.specs.declared.lock.Package.{Package}

-- ---- the names of the dependencies

either : (b h : Bool) → cond b true h ≡ (h || (b || false))
either true true = refl
either true false = refl
either false true = refl
either false false = refl

pub named-more : (found new : Dependencies) (d : Dependency) → AreNamed found
    → Updates (λ x y. slice_cmp nat_cmp x.now y.now) found.names new.names d.name true
    → new.first.items ≡ found.first.items ++ d ∷ [] → AreNamed new
named-more found new d are updated same = λ name.
    let here = bytes_eq d.name.now name.now in
    updated.0 name
    ∙ ap (λ b. cond b true (contains (λ x y. slice_cmp nat_cmp x.now y.now) found.names name))
    (is_eq-slice_cmp d.name.now name.now)
    ∙ ap (λ b. cond here true b) (are name) ∙ either here (has_name found.first.items name.now)
    ∙ sym (ap (λ ds. has_name ds name.now) same
    ∙ list_any-append (λ x. bytes_eq x.name.now name.now) found.first.items (d ∷ []))

-- the set with a name that it had
pub named-same : (found new : Dependencies) → AreNamed found → new.names.keys ≡ found.names.keys
    → new.first.items ≡ found.first.items → AreNamed new
named-same found new are keys same = λ name.
    ap (λ ks. list_any (λ k. is_eq (slice_cmp nat_cmp name.now k.now)) ks) keys ∙ are name
    ∙ sym (ap (λ ds. has_name ds name.now) same)

-- ---- one more dependency

pub added-kept : (found : List Dependency) (d x : Dependency) → Contains found x → Contains (with_first found d) x
added-kept found d x at = by_test (has_name found d.name.now)
  where
    by_test : (b : Bool) → Contains (if b then found else found ++ d ∷ []) x
    by_test true = at
    by_test false = Contains-append_left found (d ∷ []) x at

pub added-all : (P : Dependency → Type 0) (found : List Dependency) (d : Dependency) → All P found → P d
    → All P (with_first found d)
added-all P found d all here = by_test (has_name found d.name.now)
  where
    by_test : (b : Bool) → All P (if b then found else found ++ d ∷ [])
    by_test true = all
    by_test false = All-push P found d all here

-- one of another name than all that were there
pub added-apart : (found : List Dependency) (d : Dependency) → AreApart found → AreApart (with_first found d)
added-apart found d apart = by_test (has_name found d.name.now) refl
  where
    by_test : (b : Bool) → has_name found d.name.now ≡ b → AreApart (if b then found else found ++ d ∷ [])
    by_test true e = apart
    by_test false e = all_pairs_push (λ x y. ¬ AreOfOne x y) found d apart (λ k x within same.
        let there : bytes_eq (get_or found k x).name.now d.name.now ≡ true =
        (bytes_eq-Decides (get_or found k x).name.now d.name.now).1 same.1 in
        let has : has_name found d.name.now ≡ true =
        list_any_at (λ y. bytes_eq y.name.now d.name.now) found k x within there in absurd (cc))

pub added-has : (folder : List ℕ) (f : Field) (found : List Dependency) (d : Dependency)
    → d.package.folder.now ≡ folder → d.field ≡ f → All (IsOfRank folder (rank f)) found
    → HasDependency (with_first found d) folder f d.name.now
added-has folder f found d in_folder in_field all = by_test (has_name found d.name.now) refl
  where
    by_test : (b : Bool) → has_name found d.name.now ≡ b
        → HasDependency (if b then found else found ++ d ∷ []) folder f d.name.now
    by_test true e =
        let a = Any-from_list_any (λ x. bytes_eq x.name.now d.name.now) found e in
        let upto = all a.0 a.1 a.2 in
        let is : IsOfRank folder (rank f) a.1 = subst (IsOfRank folder (rank f)) a.3 upto in (
          a.1,
          (a.0, a.2, a.3),
          record {
            of_folder = is.0;
            of_name = (bytes_eq-Decides a.1.name.now d.name.now).0 a.4;
            of_field = is.1;
          },
        )
    by_test false e = (
      d,
      Contains-push found d,
      record {
        of_folder = in_folder;
        of_name = refl;
        of_field = subst (λ g. rank g ≤ rank f) (sym in_field) (omega arith);
      },
    )

pub has-kept : (found : List Dependency) (d : Dependency) (folder : List ℕ) (f : Field) (name : List ℕ)
    → HasDependency found folder f name → HasDependency (with_first found d) folder f name
has-kept found d folder f name h = (h.0, added-kept found d h.0 h.1, h.2)

-- ---- the names in a field

pub written-none : (name : List ℕ) (o : Option Data) → option_and_then as_object o ≡ None
    → option_and_then as_str (option_and_then (get name) o) ≡ None
written-none name None e = refl
written-none name (Some null) e = refl
written-none name (Some (boolean b)) e = refl
written-none name (Some (number n)) e = refl
written-none name (Some (string s)) e = refl
written-none name (Some (array ds)) e = refl
written-none name (Some (object ms)) e = absurd (cc)

pub written-some : (name : List ℕ) (o : Option Data) (es : List (String Global × Value))
    → option_and_then as_object o ≡ Some (members_view es)
    → option_and_then (get name) o ≡ get_member name (members_view es)
written-some name None es e = absurd (cc)
written-some name (Some null) es e = absurd (cc)
written-some name (Some (boolean b)) es e = absurd (cc)
written-some name (Some (number n)) es e = absurd (cc)
written-some name (Some (string s)) es e = absurd (cc)
written-some name (Some (array ds)) es e = absurd (cc)
written-some name (Some (object ms)) es e =
    let same : ms ≡ members_view es = cc in ap (get_member name) same

-- a key has this text
abbrev pub HasKey : List (String Global) → List ℕ → Type 0
HasKey keys name = (k : String Global) × Contains keys k × (string_bytes k ≡ name)

pub key-of : (name : List ℕ) (es : List (String Global × Value)) → IsSome (get_member name (members_view es))
    → HasKey (keys_of es) name
key-of name [] some = absurd (cc)
key-of name (e ∷ es) some = by_order (key-of name es) (slice_cmp nat_cmp name (string_bytes e.0)) refl some
  where
    later : HasKey (keys_of es) name → HasKey (keys_of (e ∷ es)) name
    later h = (h.0, Contains-append_right (e.0 ∷ []) (keys_of es) h.0 h.1, h.2)

    by_order : (IsSome (get_member name (members_view es)) → HasKey (keys_of es) name) → (o : Ordering)
        → slice_cmp nat_cmp name (string_bytes e.0) ≡ o
        → IsSome (match_ordering o (get_member name (members_view es)) (Some (view e.1)) (get_member name (members_view es)))
        → HasKey (keys_of (e ∷ es)) name
    by_order rest Less is some = later (rest some)
    by_order rest Greater is some = later (rest some)
    by_order rest Equal is some =
        let same : name ≡ string_bytes e.0 =
        (bytes_eq-Decides name (string_bytes e.0)).0 (sym (is_eq-slice_cmp name (string_bytes e.0)) ∙ ap is_eq is) in
        (e.0, Contains-append_left (e.0 ∷ []) (keys_of es) e.0 (Contains-push [] e.0), sym same)

-- ---- what a package writes, field by field

-- those before this one are read, and of this one these names
pub record AreUptoName (p : Package) (f : Field) (keys : List (String Global)) (found : Dependencies) : Type 0 where
  pub named : AreNamed found
  pub each : All (IsOfRank p.folder.now (rank f)) found.first.items
  pub apart : AreApart found.first.items
  pub before : (g : Field) (name : List ℕ) → rank g < rank f → Writes p.folder.now (view p.fields.now) g name
      → HasDependency found.first.items p.folder.now g name
  pub so_far : (name : List ℕ) → HasKey keys name → Writes p.folder.now (view p.fields.now) f name
      → HasDependency found.first.items p.folder.now f name

-- the fields in the order in which they are read
abbrev pub read_in_order : List Field
read_in_order =
    field.Development ∷ field.Optional ∷ field.Production ∷ field.Peer ∷ field.Requires ∷ []

abbrev pub field_at : ℕ → Field
field_at i = get_or read_in_order i field.Development

pub rank-at : (i : ℕ) → i < 5 → rank (field_at i) ≡ i + 1
rank-at zero h = refl
rank-at (suc zero) h = refl
rank-at (suc (suc zero)) h = refl
rank-at (suc (suc (suc zero))) h = refl
rank-at (suc (suc (suc (suc zero)))) h = refl
rank-at (suc (suc (suc (suc (suc i))))) h = absurd (omega arith)

abbrev ranked : ℕ → Field
ranked n = get_or (field.Workspaces ∷ read_in_order) n field.Workspaces

ranked-rank : (f : Field) → ranked (rank f) ≡ f
ranked-rank field.Workspaces = refl
ranked-rank field.Development = refl
ranked-rank field.Optional = refl
ranked-rank field.Production = refl
ranked-rank field.Peer = refl
ranked-rank field.Requires = refl

-- two fields do not have one rank
pub same-rank : (f g : Field) → rank f ≡ rank g → f ≡ g
same-rank f g e = sym (ranked-rank f) ∙ ap ranked e ∙ ranked-rank g

pub last_or_before : (m n : ℕ) → m ≤ n + 1 → (m ≤ n) ⊎ (m ≡ n + 1)
last_or_before zero n h = inl (omega arith)
last_or_before (suc m) zero h = inr (omega arith)
last_or_before (suc m) (suc n) h = elim (last_or_before m n (omega arith)) [
  | inl k ↦ inl (omega arith)
  | inr k ↦ inr (omega arith)
]

-- what is no object has no text for a name
pub not_written : (folder : List ℕ) (fields : Data) (f : Field) (name : List ℕ)
    → (IsRead f folder → members_in f fields ≡ None) → Writes folder fields f name → ⊥
not_written folder fields f name none w =
    let e = written-none name (get (field_name f) fields) (none w.is_read) in
    let some : IsSome {T = List ℕ} None = subst IsSome e w.has_text in absurd (cc)

text-some : (o : Option Data) → IsSome (option_and_then as_str o) → IsSome o
text-some None some = absurd (cc)
text-some (Some d) some = refl

-- a name for which the package writes a text is one of the keys
pub written-key : (folder : List ℕ) (fields : Data) (f : Field) (name : List ℕ) (es : List (String Global × Value))
    → members_in f fields ≡ Some (members_view es) → Writes folder fields f name → HasKey (keys_of es) name
written-key folder fields f name es is w =
    let e = written-some name (get (field_name f) fields) es is in
    key-of name es (text-some (get_member name (members_view es))
    (subst (λ o. IsSome (option_and_then as_str o)) e w.has_text))

module _ (p : Package) (found : Dependencies) where
  module _ (f : Field) (most : ℕ) (ranked_so : rank f ≡ most + 1) where
    pub upto-start : AreUpto p most found → AreUptoName p f [] found
    upto-start u = record {
      named = u.named;
      each = All-weaker (IsOfRank p.folder.now most) (IsOfRank p.folder.now (rank f)) (λ d is. (is.0, omega arith))
          found.first.items u.each;
      apart = u.apart;
      before = λ g name lower w. u.all g name (omega arith) w;
      so_far = λ name key w. absurd (omega (arith, key.1.1));
    }

    pub upto-none : ((name : List ℕ) → Writes p.folder.now (view p.fields.now) f name → ⊥) → AreUpto p most found
        → AreUpto p (most + 1) found
    upto-none none u = record {
      named = u.named;
      each = All-weaker (IsOfRank p.folder.now most) (IsOfRank p.folder.now (most + 1)) (λ d is. (is.0, omega arith))
          found.first.items u.each;
      apart = u.apart;
      all = λ g name upto w. elim (last_or_before (rank g) most upto) [
        | inl lower ↦ u.all g name lower w
        | inr last ↦
            let same : g ≡ f = same-rank g f (last ∙ sym ranked_so) in
            absurd (none name (subst (λ h. Writes p.folder.now (view p.fields.now) h name) same w))
      ];
    }

    pub upto-done : (keys : List (String Global))
        → ((name : List ℕ) → Writes p.folder.now (view p.fields.now) f name → HasKey keys name)
        → AreUptoName p f keys found → AreUpto p (most + 1) found
    upto-done keys has u = record {
      named = u.named;
      each = All-weaker (IsOfRank p.folder.now (rank f)) (IsOfRank p.folder.now (most + 1)) (λ d is. (is.0, omega arith))
          found.first.items u.each;
      apart = u.apart;
      all = λ g name upto w. elim (last_or_before (rank g) most upto) [
        | inl lower ↦ u.before g name (omega arith) w
        | inr last ↦
            let same : g ≡ f = same-rank g f (last ∙ sym ranked_so) in
            let w' = subst (λ h. Writes p.folder.now (view p.fields.now) h name) same w in
            subst (λ h. HasDependency found.first.items p.folder.now h name) (sym same) (u.so_far name (has name w') w')
      ];
    }

  module _ (f : Field) (keys : List (String Global)) (k : String Global) where
    last_key : (name : List ℕ) → HasKey (keys ++ k ∷ []) name → HasKey keys name ⊎ (string_bytes k ≡ name)
    last_key name key = elim (Contains-push_cases keys k key.0 key.1) [
      | inl at ↦ inl (key.0, at, key.2)
      | inr same ↦ inr (ap string_bytes same ∙ key.2)
    ]

    pub upto-more : None ≡ written_in f (string_bytes k) (view p.fields.now) → AreUptoName p f keys found
        → AreUptoName p f (keys ++ k ∷ []) found
    upto-more none u = record {
      named = u.named;
      each = u.each;
      apart = u.apart;
      before = u.before;
      so_far = λ name key w. elim (last_key name key) [
        | inl earlier ↦ u.so_far name earlier w
        | inr same ↦
            let some : IsSome {T = List ℕ} None = subst IsSome (ap (λ n. written_in f n (view p.fields.now)) (sym same) ∙ sym none) w.has_text in
            absurd (cc)
      ];
    }

    pub upto-added : (d : Dependency) (new : Dependencies) → d.package.folder.now ≡ p.folder.now → d.field ≡ f
        → d.name.now ≡ string_bytes k → AreNamed new → new.first.items ≡ with_first found.first.items d
        → AreUptoName p f keys found → AreUptoName p f (keys ++ k ∷ []) new
    upto-added d new in_folder in_field by_name named added u =
        let kept = λ (g : Field) (name : List ℕ) (h : HasDependency found.first.items p.folder.now g name).
        subst (λ ds. HasDependency ds p.folder.now g name) (sym added)
        (has-kept found.first.items d p.folder.now g name h) in record {
          named = named;
          each = subst (All (IsOfRank p.folder.now (rank f))) (sym added)
              (added-all (IsOfRank p.folder.now (rank f)) found.first.items d u.each
              (in_folder, subst (λ g. rank g ≤ rank f) (sym in_field) (omega arith)));
          apart = subst AreApart (sym added) (added-apart found.first.items d u.apart);
          before = λ g name lower w. kept g name (u.before g name lower w);
          so_far = λ name key w. elim (last_key name key) [
            | inl earlier ↦ kept f name (u.so_far name earlier w)
            | inr same ↦
                subst (λ n. HasDependency new.first.items p.folder.now f n) (by_name ∙ same)
                (subst (λ ds. HasDependency ds p.folder.now f d.name.now) (sym added)
                (added-has p.folder.now f found.first.items d in_folder in_field u.each))
          ];
        }

  -- before the first field, and after the last
  pub upto-workspaces : AreWorkspaces p found → AreUpto p 0 found
  upto-workspaces are = record {
    named = are.named;
    each = All-weaker (λ d. (d.package.folder.now ≡ p.folder.now) × (d.field ≡ field.Workspaces))
        (IsOfRank p.folder.now 0) (λ d is. (is.0, subst (λ g. rank g ≤ 0) (sym is.1) (omega arith)))
        found.first.items are.each;
    apart = are.apart;
    all = λ g name upto w. absurd (no_lower g upto w.is_read);
  }
    where
      no_lower : (g : Field) → rank g ≤ 0 → IsRead g p.folder.now → ⊥
      no_lower field.Workspaces h is = is
      no_lower field.Development h is = omega arith
      no_lower field.Optional h is = omega arith
      no_lower field.Production h is = omega arith
      no_lower field.Peer h is = omega arith
      no_lower field.Requires h is = omega arith

  pub upto-all : (i : ℕ) → 5 ≤ i → AreUpto p i found → AreAllFound p found.first.items
  upto-all i h u = λ f name w. u.all f name (most f) w
    where
      most : (f : Field) → rank f ≤ i
      most field.Workspaces = omega arith
      most field.Development = omega arith
      most field.Optional = omega arith
      most field.Production = omega arith
      most field.Peer = omega arith
      most field.Requires = omega arith

  pub upto-own : (i : ℕ) → AreUpto p i found → AreOwn p.folder.now found.first.items
  upto-own i u = record {
    each = All-weaker (IsOfRank p.folder.now i) (λ d. d.package.folder.now ≡ p.folder.now) (λ d is. is.0) found.first.items u.each;
    apart = u.apart;
  }

-- one more workspace
pub workspaces-more : (p : Package) (found new : Dependencies) (d : Dependency)
    → d.package.folder.now ≡ p.folder.now → d.field ≡ field.Workspaces → AreNamed new
    → new.first.items ≡ with_first found.first.items d → AreWorkspaces p found → AreWorkspaces p new
workspaces-more p found new d in_folder in_field named added are =
    let P = λ (d : Dependency). (d.package.folder.now ≡ p.folder.now) × (d.field ≡ field.Workspaces) in record {
      named = named;
      each = subst (All P) (sym added) (added-all P found.first.items d are.each (in_folder, in_field));
      apart = subst AreApart (sym added) (added-apart found.first.items d are.apart);
    }
