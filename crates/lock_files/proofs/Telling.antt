-- What is malformed is told.
use Rattle.std.proofs.Common.{◌≡◌, ◌<◌, ◌≤◌, ◌+◌, ◌∷◌, ◌++◌, ◌∙◌, [], List, None, Option, Some, Bool, Global}
use Rattle.std.proofs.Common.{false, not, String, ap, arith, inl, inr, option_and_then, refl, string_bytes, ℕ}
use Rattle.std.proofs.Common.{subst, sym, suc, true, true≢false, unwrap_or, zero}
use Rattle.std.proofs.lemmas.List.Elements.{Contains-push_cases}
use Rattle.std.specs.Map.{keys_of}
use Rattle.std.specs.Prelude.{IsSome, IsTrue, bytes_eq, slice_get}
use Rattle.std.specs.Borrow.{Bor}
use Rattle.std.proofs.lemmas.Slice.Eq.{bytes_eq-Decides}
use Rattle.serde_json.proofs.Views.{member_here, member_later}
use Rattle.lock_files.specs.Fields.{member_of}
use Rattle.serde_json.specs.Data.{Data, array, boolean, null, number, object, string}
use Rattle.serde_json.specs.Find.{as_object, as_str, get, get_member}
use Rattle.serde_json.specs.View.{members_view, view}
use Rattle.serde_json.specs.declared.value.Value.{Value}
use Rattle.lock_files.proofs.Collecting.{HasKey, field_at, key-of, last_or_before, rank-at, same-rank}
use Rattle.lock_files.proofs.Collecting.{written-some}
use Rattle.lock_files.proofs.Added.{fault-kept, faults-kept}
use Rattle.lock_files.specs.Dependencies.{IsRead, rank}
use Rattle.lock_files.specs.Faults.{Extends, HasAllFaults, HasFault, HasFaults, IsFieldFault, IsNoObject}
use Rattle.lock_files.specs.Faults.{IsNoText, IsRangeFault, IsPackageFault}
use Rattle.lock_files.specs.Internal.Collected.{members_in}
use Rattle.lock_files.specs.Lookups.{IsPackage, field_name, packages_of, written_in}
use Rattle.lock_files.specs.declared.fault.Fault.{Fault}
use Rattle.lock_files.specs.declared.fault.Fault.TheVariants as fault
use Rattle.lock_files.specs.declared.lock.Field.{Field}
use Rattle.lock_files.specs.declared.lock.Field.TheVariants as field
use Rattle.lock_files.specs.declared.lock.Lock.{Lock}
use Rattle.lock_files.specs.declared.lock.Package.{Package}

-- ---- what a field has

-- a name is in no field that is no object
no-member : (name : List ℕ) (o : Option Data) → option_and_then as_object o ≡ None → option_and_then (get name) o ≡ None
no-member name None e = refl
no-member name (Some null) e = refl
no-member name (Some (boolean b)) e = refl
no-member name (Some (number n)) e = refl
no-member name (Some (string s)) e = refl
no-member name (Some (array ds)) e = refl
no-member name (Some (object ms)) e = absurd (cc)

both : (o : Option Data) (d : Data) → o ≡ None → o ≡ Some d → ⊥
both o d none some = cc

-- a field that has no names
pub none-in : (folder : List ℕ) (fields : Data) (f : Field) (faults : List Fault) → members_in f fields ≡ None
    → (IsNoObject fields f → HasFault faults (IsFieldFault folder (field_name f))) → HasFaults folder fields f faults
none-in folder fields f faults none told = record {
  object = told;
  texts = λ name is. absurd (both _ is.value (no-member name (get (field_name f) fields) none) is.is);
}

-- a field that is an object is no other thing
pub some-in : (fields : Data) (f : Field) (es : List (String Global × Value)) → members_in f fields ≡ Some (members_view es)
    → IsNoObject fields f → ⊥
some-in fields f es is wrong =
    let some = sym is ∙ (ap (option_and_then as_object) wrong.is ∙ wrong.none) in absurd (cc)

-- a name without a text is one of the keys
pub no-text-key : (fields : Data) (f : Field) (name : List ℕ) (es : List (String Global × Value))
    → members_in f fields ≡ Some (members_view es) → IsNoText fields f name → HasKey (keys_of es) name
no-text-key fields f name es is wrong =
    key-of name es (subst (IsSome {T = Data}) (sym (sym (written-some name (get (field_name f) fields) es is) ∙ wrong.is)) refl)

-- a name with a text has one
pub has-text : (fields : Data) (f : Field) (name text : List ℕ) → Some text ≡ written_in f name fields
    → IsNoText fields f name → ⊥
has-text fields f name text is wrong =
    let none = is ∙ (ap (option_and_then as_str) wrong.is ∙ wrong.none) in absurd (cc)

-- ---- field by field

-- the fields up to this rank are read
abbrev pub AreToldUpto : Package → ℕ → List Fault → Type 0
AreToldUpto p most faults = (f : Field) → rank f ≤ most → IsRead f p.folder.now
    → HasFaults p.folder.now (view p.fields.now) f faults

-- of this field these names are read
abbrev pub AreToldKeys : Package → Field → List (String Global) → List Fault → Type 0
AreToldKeys p f keys faults = (name : List ℕ) → HasKey keys name → IsNoText (view p.fields.now) f name
    → HasFault faults (IsRangeFault p.folder.now name)

pub told-none : (p : Package) (faults : List Fault) → AreToldUpto p 0 faults
told-none p faults field.Workspaces h read = absurd read
told-none p faults field.Development h read = absurd (omega arith)
told-none p faults field.Optional h read = absurd (omega arith)
told-none p faults field.Production h read = absurd (omega arith)
told-none p faults field.Peer h read = absurd (omega arith)
told-none p faults field.Requires h read = absurd (omega arith)

pub told-more : (p : Package) (i : ℕ) (before after : List Fault) → i < 5 → Extends before after
    → (IsRead (field_at i) p.folder.now → HasFaults p.folder.now (view p.fields.now) (field_at i) after)
    → AreToldUpto p i before → AreToldUpto p (i + 1) after
told-more p i before after h more here all = λ f upto read. elim (last_or_before (rank f) i upto) [
  | inl lower ↦ faults-kept p.folder.now (view p.fields.now) f before after more (all f lower read)
  | inr last ↦
      let same : f ≡ field_at i = same-rank f (field_at i) (last ∙ sym (rank-at i h)) in
      subst (λ g. HasFaults p.folder.now (view p.fields.now) g after) (sym same)
      (here (subst (λ g. IsRead g p.folder.now) same read))
]

pub told-start : (p : Package) (f : Field) (faults : List Fault) → AreToldKeys p f [] faults
told-start p f faults name key wrong = absurd (omega (arith, key.1.1))

pub told-key : (p : Package) (f : Field) (keys : List (String Global)) (k : String Global) (before after : List Fault)
    → Extends before after
    → (IsNoText (view p.fields.now) f (string_bytes k) → HasFault after (IsRangeFault p.folder.now (string_bytes k)))
    → AreToldKeys p f keys before → AreToldKeys p f (keys ++ k ∷ []) after
told-key p f keys k before after more here all name key wrong = elim (Contains-push_cases keys k key.0 key.1) [
  | inl earlier ↦ fault-kept before after (IsRangeFault p.folder.now name) more (all name (key.0, earlier, key.2) wrong)
  | inr same ↦
      let is : string_bytes k ≡ name = ap string_bytes same ∙ key.2 in
      subst (λ n. HasFault after (IsRangeFault p.folder.now n)) is
      (here (subst (λ n. IsNoText (view p.fields.now) f n) (sym is) wrong))
]

pub told-done : (p : Package) (f : Field) (es : List (String Global × Value)) (keys : List (String Global)) (faults : List Fault)
    → members_in f (view p.fields.now) ≡ Some (members_view es) → keys ≡ keys_of es → AreToldKeys p f keys faults
    → HasFaults p.folder.now (view p.fields.now) f faults
told-done p f es keys faults is same all = record {
  object = λ wrong. absurd (some-in (view p.fields.now) f es is wrong);
  texts = λ name wrong. all name (subst (λ ks. HasKey ks name) (sym same) (no-text-key (view p.fields.now) f name es is wrong))
      wrong;
}

pub told-all : (p : Package) (i : ℕ) (faults : List Fault) → 5 ≤ i → AreToldUpto p i faults
    → HasAllFaults faults p.folder.now (view p.fields.now)
told-all p i faults h all = λ f read. all f (most f) read
  where
    most : (f : Field) → rank f ≤ i
    most field.Workspaces = omega arith
    most field.Development = omega arith
    most field.Optional = omega arith
    most field.Production = omega arith
    most field.Peer = omega arith
    most field.Requires = omega arith

pub not-iff : (b : Bool) (P : Type 0) → (IsTrue b → P) × (P → IsTrue b) → (IsTrue (not b) → ¬ P) × (¬ P → IsTrue (not b))
not-iff true P iff = (λ h. absurd (cc), λ none. absurd (none (iff.0 refl)))
not-iff false P iff = (λ h p. let is : IsTrue false = iff.1 p in absurd (cc), λ none. refl)

-- the fault of a field
pub field-fault : (lock : Lock) (p : Package) (f : Field) (told : Fault) → IsPackage lock p
    → IsFieldFault p.folder.now (field_name f) told → IsRead f p.folder.now × IsNoObject (view p.fields.now) f
    → IsPackageFault lock told
field-fault lock p f (fault.Field place own) is told wrong = (
  f,
  subst (λ at. IsRead f at) (sym told.0) wrong.0,
  told.1,
  (view p.fields.now, subst (λ at. get at (packages_of lock) ≡ Some (view p.fields.now)) (sym told.0) is, wrong.1),
)
field-fault lock p f (fault.Range place own) is told wrong = absurd told
field-fault lock p f (fault.Override own) is told wrong = absurd told
field-fault lock p f fault.Workspaces is told wrong = absurd told
field-fault lock p f fault.NoRoot is told wrong = absurd told

-- a key is the name of a member
pub key-some : (name : List ℕ) (es : List (String Global × Value)) (n : ℕ) (k : String Global)
    → slice_get (keys_of es) n ≡ Some k → string_bytes k ≡ name → IsSome (get_member name (members_view es))
key-some name [] n k is same = absurd (cc)
key-some name (e ∷ es) n k is same = by_test (λ m at. key-some name es m k at same) (bytes_eq name (string_bytes e.0)) refl n is
  where
    by_test : ((m : ℕ) → slice_get (keys_of es) m ≡ Some k → IsSome (get_member name (members_view es)))
        → (b : Bool) → bytes_eq name (string_bytes e.0) ≡ b → (n : ℕ) → slice_get (keys_of (e ∷ es)) n ≡ Some k
        → IsSome (get_member name (members_view (e ∷ es)))
    by_test rest true at n is =
        subst IsSome (sym (member_here name e es ((bytes_eq-Decides name (string_bytes e.0)).0 at))) refl
    by_test rest false at zero is =
        let first : e.0 ≡ k = ap (λ o. unwrap_or o e.0) is in
        let here = (bytes_eq-Decides name (string_bytes e.0)).1 (sym (ap string_bytes first ∙ same)) in
        absurd (true≢false (sym here ∙ at))
    by_test rest false at (suc n) is =
        subst IsSome (sym (member_later name e es (λ here.
        true≢false (sym ((bytes_eq-Decides name (string_bytes e.0)).1 here) ∙ at)))) (rest n is)

no-text-by : (fields : Data) (f : Field) (name : List ℕ) (o : Option Data) → member_of (field_name f) name fields ≡ o → IsSome o
    → None ≡ written_in f name fields → IsNoText fields f name
no-text-by fields f name None is some none = absurd (cc)
no-text-by fields f name (Some value) is some none = record {
  value = value;
  is = is;
  none = sym (none ∙ ap (option_and_then as_str) is);
}

-- the fault of a name without a text
pub range-fault : (lock : Lock) (p : Package) (f : Field) (name : Bor (List ℕ)) (es : List (String Global × Value)) (n : ℕ)
    (k : String Global) → IsPackage lock p → IsRead f p.folder.now → members_in f (view p.fields.now) ≡ Some (members_view es)
    → slice_get (keys_of es) n ≡ Some k → name.now ≡ string_bytes k → None ≡ written_in f (string_bytes k) (view p.fields.now)
    → IsPackageFault lock (fault.Range p.folder name)
range-fault lock p f name es n k is read has at same none =
    let member = written-some name.now (get (field_name f) (view p.fields.now)) es has in (
      f,
      read,
      (
        view p.fields.now,
        is,
        no-text-by (view p.fields.now) f name.now (get_member name.now (members_view es)) member
            (key-some name.now es n k at (sym same))
            (none ∙ ap (λ n. written_in f n (view p.fields.now)) (sym same)),
      ),
    )
