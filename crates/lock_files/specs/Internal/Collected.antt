-- For proofs and private contracts: which dependencies of a package are collected, and what is told of it.
use Rattle.std.specs.Prelude.{◌≡◌, ◌≤◌, ◌⊎◌, Bool, List, [], ◌∷◌, ◌++◌, Option, All, AllPairs, Contains}
use Rattle.std.specs.Prelude.{IsSomeAnd, ℕ, if◌then◌else◌, bytes_eq, option_and_then}
use Rattle.std.specs.Borrow.{Bor}
use Rattle.std.specs.BTreeSet.{contains}
use Rattle.std.specs.Cmp.Lexicographic.{slice_cmp}
use Rattle.std.specs.List.{list_any}
use Rattle.std.specs.Ordering.{nat_cmp}
use Rattle.serde_json.specs.Data.{Data, Members}
use Rattle.serde_json.specs.Find.{as_object, get}
use Rattle.serde_json.specs.View.{view}
use Rattle.lock_files.specs.Dependencies.{IsOf, Writes, rank}
use Rattle.lock_files.specs.Edges.{AreOfOne, IsLeftOut, IsOfDevelopment}
use Rattle.lock_files.specs.Faults.{HasFault}
use Rattle.lock_files.specs.Lookups.{field_name}
use Rattle.lock_files.specs.Workspaces.{HasOtherTexts}
use Rattle.lock_files.specs.declared.edge.Edge.{Edge}
use Rattle.lock_files.specs.declared.fault.Fault.{Fault}
use Rattle.lock_files.specs.declared.fault.Fault.TheVariants as fault
use Rattle.lock_files.specs.declared.lock.Dependencies.{Dependencies}
use Rattle.lock_files.specs.declared.lock.Dependency.{Dependency}
use Rattle.lock_files.specs.declared.lock.Field.{Field}
use Rattle.lock_files.specs.declared.lock.Field.TheVariants as field
use Rattle.lock_files.specs.declared.lock.Lock.{Lock}
use Rattle.lock_files.specs.declared.lock.Package.{Package}

-- the names with their values in this field, if it is an object
abbrev pub members_in : Field → Data → Option Members
members_in f fields = option_and_then as_object (get (field_name f) fields)

-- one of the dependencies has this name
abbrev pub has_name : List Dependency → List ℕ → Bool
has_name found name = list_any (λ d. bytes_eq d.name.now name) found

-- with this dependency at the end, unless there is one with its name
abbrev pub with_first : List Dependency → Dependency → List Dependency
with_first found d = if has_name found d.name.now then found else found ++ d ∷ []

-- the set has exactly the names of the dependencies
abbrev pub AreNamed : Dependencies → Type 0
AreNamed found = (name : Bor (List ℕ))
    → contains (λ x y. slice_cmp nat_cmp x.now y.now) found.names name ≡ has_name found.first.items name.now

-- no two are about one name of one package
abbrev pub AreApart : List Dependency → Type 0
AreApart found = AllPairs (λ d e. ¬ AreOfOne d e) found

-- all are of the package in this folder, each of another name
pub record AreOwn (folder : List ℕ) (found : List Dependency) : Type 0 where
  pub each : All (λ d. d.package.folder.now ≡ folder) found
  pub apart : AreApart found

-- an edge that was there before, or one for one of these dependencies
abbrev pub IsOneOf : List Edge → List Dependency → Edge → Type 0
IsOneOf before found e = Contains before e ⊎ Contains found e.dependency

-- all are workspaces of this package
pub record AreWorkspaces (p : Package) (found : Dependencies) : Type 0 where
  pub named : AreNamed found
  pub each : All (λ d. (d.package.folder.now ≡ p.folder.now) × (d.field ≡ field.Workspaces)) found.first.items
  pub apart : AreApart found.first.items

abbrev pub HasDependency : List Dependency → List ℕ → Field → List ℕ → Type 0
HasDependency found folder f name = (d : Dependency) × Contains found d × IsOf folder f name d

-- each name for which the package writes a text has a dependency
abbrev pub AreAllFound : Package → List Dependency → Type 0
AreAllFound p found = (f : Field) (name : List ℕ) → Writes p.folder.now (view p.fields.now) f name
    → HasDependency found p.folder.now f name

-- of the package in this folder, by a field with a rank up to this one
abbrev pub IsOfRank : List ℕ → ℕ → Dependency → Type 0
IsOfRank folder most d = (d.package.folder.now ≡ folder) × (rank d.field ≤ most)

-- all dependencies of the package by the fields up to this rank
pub record AreUpto (p : Package) (most : ℕ) (found : Dependencies) : Type 0 where
  pub named : AreNamed found
  pub each : All (IsOfRank p.folder.now most) found.first.items
  pub apart : AreApart found.first.items
  pub all : (f : Field) (name : List ℕ) → rank f ≤ most → Writes p.folder.now (view p.fields.now) f name
      → HasDependency found.first.items p.folder.now f name

-- what is locked shows the dependency to be one of development
abbrev pub IsForDevelopment : Edge → Type 0
IsForDevelopment e = let d = e.dependency in IsSomeAnd e.locked (λ locked.
    IsOfDevelopment d.package.folder.now (view d.package.fields.now) d.field (view locked.fields.now))

-- the dependency has an edge, or is left out
abbrev pub IsTaken : Lock → List Edge → Dependency → Type 0
IsTaken lock edges d = ((e : Edge) × Contains edges e × (e.dependency ≡ d))
    ⊎ IsLeftOut lock d.package.folder.now (view d.package.fields.now) d.field d.name.now

-- if the package is the root project, that its `workspaces` is no list of texts is told
abbrev pub AreTextsTold : List Fault → (folder : List ℕ) → Data → Type 0
AreTextsTold faults folder fields = folder ≡ [] → HasOtherTexts fields
    → HasFault faults (λ f. f ≡ fault.Workspaces)
