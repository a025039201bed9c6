-- No dependency is lost on the way to the edges.
use Rattle.std.proofs.Common.{◌≡◌, ◌≤◌, ◌∷◌, ◌++◌, ◌∙◌, [], All, Contains, Global, List, None, Option, Some}
use Rattle.std.proofs.Common.{String, ap, arith, inl, inr, refl, string_bytes, subst, sym, ℕ}
use Rattle.std.proofs.lemmas.List.Elements.{All-contains, Contains-push, Contains-push_cases}
use Rattle.std.specs.Map.{keys_of}
use Rattle.std.specs.Prelude.{IsSome, IsSomeAnd}
use Rattle.serde_json.specs.Data.{Data}
use Rattle.serde_json.specs.Find.{get}
use Rattle.serde_json.specs.View.{view}
use Rattle.lock_files.proofs.Added.{extends-kept}
use Rattle.lock_files.proofs.Collecting.{HasKey, key-of}
use Rattle.lock_files.specs.Internal.Collected.{AreAllFound, IsForDevelopment, IsTaken}
use Rattle.lock_files.specs.Edges.{AreAllLocked, IsLeftOut, IsOfDevelopment}
use Rattle.lock_files.specs.Faults.{Extends}
use Rattle.lock_files.specs.Dependencies.{IsDeclared, IsOf, rank}
use Rattle.lock_files.specs.Lookups.{IsAt, IsNearest, IsPackage, packages_of}
use Rattle.lock_files.specs.declared.edge.Edge.{Edge}
use Rattle.lock_files.specs.declared.lock.Dependency.{Dependency}
use Rattle.lock_files.specs.declared.lock.Field.{Field}
use Rattle.lock_files.specs.declared.lock.Field.TheVariants as field
use Rattle.lock_files.specs.declared.lock.Lock.{Lock}
use Rattle.lock_files.specs.declared.lock.Package.{Package}

-- ---- with what is locked for them

pub taken-kept : (lock : Lock) (before after : List Edge) (d : Dependency) → Extends before after
    → IsTaken lock before d → IsTaken lock after d
taken-kept lock before after d h taken = elim taken [
  | inl has ↦ inl (has.0, extends-kept before after has.0 h has.1, has.2)
  | inr out ↦ inr out
]

left_out : (lock : Lock) (folder name : List ℕ) (fields : Data) (f : Field) (locked : Option Package)
    → IsNearest lock folder name locked
    → IsSomeAnd locked (λ p. IsOfDevelopment folder fields f (view p.fields.now))
    → IsLeftOut lock folder fields f name
left_out lock folder name fields f None near is = absurd is
left_out lock folder name fields f (Some p) near is = (p, near, is)

pub taken-out : (lock : Lock) (edges : List Edge) (e : Edge)
    → IsNearest lock e.dependency.package.folder.now e.dependency.name.now e.locked → IsForDevelopment e
    → IsTaken lock edges e.dependency
taken-out lock edges e near is =
    let d = e.dependency in
    inr (left_out lock d.package.folder.now d.name.now (view d.package.fields.now) d.field e.locked near is)

pub taken-push : (lock : Lock) (edges after : List Edge) (e : Edge) → after ≡ edges ++ e ∷ []
    → IsTaken lock after e.dependency
taken-push lock edges after e same =
    inl (e, subst (λ es. Contains es e) (sym same) (Contains-push edges e), refl)

-- ---- those of a package

requires_last : (f : Field) → 5 ≤ rank f → f ≡ field.Requires
requires_last field.Workspaces h = absurd (omega arith)
requires_last field.Development h = absurd (omega arith)
requires_last field.Optional h = absurd (omega arith)
requires_last field.Production h = absurd (omega arith)
requires_last field.Peer h = absurd (omega arith)
requires_last field.Requires h = refl

same_fields : (o : Option Data) (a b : Data) → o ≡ Some a → o ≡ Some b → a ≡ b
same_fields o a b is so = cc

pub locked-all : (lock : Lock) (p : Package) (found : List Dependency) (edges : List Edge) → IsPackage lock p
    → All (IsDeclared lock) found → AreAllFound p found → All (IsTaken lock edges) found
    → AreAllLocked lock p.folder.now (view p.fields.now) edges
locked-all lock p found edges is each all taken = λ f name w.
    let h = all f name w in
    let d = h.0 in
    elim (All-contains (IsTaken lock edges) found d taken h.1) [
      | inl has ↦ inl (has.0, has.1, subst (IsOf p.folder.now f name) (sym has.2) h.2)
      | inr out ↦
          let folder = h.2.of_folder in
          let dev = out.2 in
          let own = (All-contains (IsDeclared lock) found d each h.1).0 in
          let fields : view d.package.fields.now ≡ view p.fields.now =
          same_fields (get p.folder.now (packages_of lock)) (view d.package.fields.now) (view p.fields.now)
          (subst (λ at. get at (packages_of lock) ≡ Some (view d.package.fields.now)) folder own) is in
          let last : f ≡ field.Requires =
          requires_last f (subst (λ g. rank g ≤ rank f) dev.by_requires h.2.of_field) in
          inr (
            out.0,
            subst (λ n. IsNearest lock p.folder.now n (Some out.0)) h.2.of_name
                (subst (λ at. IsNearest lock at d.name.now (Some out.0)) folder out.1),
            subst (λ v. IsOfDevelopment p.folder.now v f (view out.0.fields.now)) fields
                (subst (λ at. IsOfDevelopment at (view d.package.fields.now) f (view out.0.fields.now)) folder
                (subst (λ g. IsOfDevelopment d.package.folder.now (view d.package.fields.now) g (view out.0.fields.now))
                (dev.by_requires ∙ sym last) dev)),
          )
    ]

-- ---- those of all packages

-- this holds of the packages in these folders
abbrev pub AreEach : Lock → List (String Global) → (List ℕ → Data → Type 0) → Type 0
AreEach lock keys Q = (folder : List ℕ) (fields : Data) → get folder (packages_of lock) ≡ Some fields
    → HasKey keys folder → Q folder fields

pub locked-kept : (lock : Lock) (before after : List Edge) → Extends before after → (folder : List ℕ) (fields : Data)
    → AreAllLocked lock folder fields before → AreAllLocked lock folder fields after
locked-kept lock before after h folder fields all = λ f name w. elim (all f name w) [
  | inl has ↦ inl (has.0, extends-kept before after has.0 h has.1, has.2)
  | inr out ↦ inr out
]

pub each-more : (lock : Lock) (keys : List (String Global)) (k : String Global) (P Q : List ℕ → Data → Type 0)
    → ((folder : List ℕ) (fields : Data) → P folder fields → Q folder fields)
    → ((fields : Data) → get (string_bytes k) (packages_of lock) ≡ Some fields → Q (string_bytes k) fields)
    → AreEach lock keys P → AreEach lock (keys ++ k ∷ []) Q
each-more lock keys k P Q kept here all = λ folder fields at key.
    elim (Contains-push_cases keys k key.0 key.1) [
      | inl earlier ↦ kept folder fields (all folder fields at (key.0, earlier, key.2))
      | inr same ↦
          let is : string_bytes k ≡ folder = ap string_bytes same ∙ key.2 in
          subst (λ at. Q at fields) is (here fields (subst (λ at. get at (packages_of lock) ≡ Some fields) (sym is) at))
    ]

-- what the lock file has in a folder
pub each-at : (lock : Lock) (folder : List ℕ) (p : Package) (Q : List ℕ → Data → Type 0) → IsAt lock folder (Some p)
    → Q p.folder.now (view p.fields.now) → (fields : Data) → get folder (packages_of lock) ≡ Some fields → Q folder fields
each-at lock folder p Q is here fields at =
    subst (λ v. Q folder v) (same_fields (get folder (packages_of lock)) (view p.fields.now) fields is.1 at)
    (subst (λ place. Q place (view p.fields.now)) is.0 here)

pub package-at : (lock : Lock) (folder : List ℕ) (p : Package) → IsAt lock folder (Some p) → IsPackage lock p
package-at lock folder p is =
    subst (λ place. get place (packages_of lock) ≡ Some (view p.fields.now)) (sym is.0) is.1

pub each-none : (lock : Lock) (folder : List ℕ) (Q : List ℕ → Data → Type 0) → IsAt lock folder None → (fields : Data)
    → get folder (packages_of lock) ≡ Some fields → Q folder fields
each-none lock folder Q none fields at = absurd (cc)

-- all of them
pub each-all : (lock : Lock) (keys : List (String Global)) (Q : List ℕ → Data → Type 0)
    → keys ≡ keys_of lock.packages.now.entries → AreEach lock keys Q
    → (folder : List ℕ) (fields : Data) → get folder (packages_of lock) ≡ Some fields → Q folder fields
each-all lock keys Q same all = λ folder fields at. all folder fields at
    (subst (λ ks. HasKey ks folder) (sym same)
    (key-of folder lock.packages.now.entries (subst (IsSome {T = Data}) (sym at) refl)))
