-- Statement: the dependencies of all packages of a lock file, each with what is locked for it.
use Rattle.std.specs.Prelude.{◌≡◌, ◌≢◌, ◌⊎◌, ◌&&◌, ◌||◌, [], AllPairs, Bool, Contains, List, Some, codes, not}
use Rattle.std.specs.Prelude.{true, ℕ}
use Rattle.std.specs.Cmp.Lexicographic.{slice_cmp}
use Rattle.std.specs.Ordering.{nat_cmp}
use Rattle.std.specs.declared.cmp.Ordering.TheVariants.{Greater}
use Rattle.serde_json.specs.Data.{Data}
use Rattle.serde_json.specs.Find.{get}
use Rattle.serde_json.specs.View.{view}
use Rattle.lock_files.specs.Dependencies.{IsDeclared, IsOf, Writes}
use Rattle.lock_files.specs.Fields.{is_set}
use Rattle.lock_files.specs.Lookups.{IsInstalled, IsNearest, packages_of}
use Rattle.lock_files.specs.Workspaces.{IsWorkspace, IsWorkspaceName}
use Rattle.lock_files.specs.declared.edge.Edge.{Edge}
use Rattle.lock_files.specs.declared.lock.Dependency.{Dependency}
use Rattle.lock_files.specs.declared.lock.Field.{Field}
use Rattle.lock_files.specs.declared.lock.Field.TheVariants as field
use Rattle.lock_files.specs.declared.lock.Lock.{Lock}
use Rattle.lock_files.specs.declared.lock.Package.{Package}

-- an edge is a dependency, with the package that its folder means by its name
abbrev pub IsEdge : Lock → Edge → Type 0
IsEdge lock e = IsDeclared lock e.dependency
    × IsNearest lock e.dependency.package.folder.now e.dependency.name.now e.locked

-- what is locked has `dev`, and the package that wants it has not; if it has `optional`, so has that package
abbrev pub is_locked_for_development : Data → Data → Bool
is_locked_for_development fields locked = is_set (codes "dev") locked && not (is_set (codes "dev") fields)
    && (not (is_set (codes "optional") locked) || is_set (codes "optional") fields)

-- `requires` of an installed package also names its dependencies of development, which npm does not read
pub record IsOfDevelopment (folder : List ℕ) (fields : Data) (f : Field) (locked : Data) : Type 0 where
  pub by_requires : f ≡ field.Requires
  pub installed : IsInstalled folder
  pub locked_so : is_locked_for_development fields locked ≡ true

-- what is locked for the name shows it to be one of those
abbrev pub IsLeftOut : Lock → List ℕ → Data → Field → List ℕ → Type 0
IsLeftOut lock folder fields f name = (locked : Package) × IsNearest lock folder name (Some locked)
    × IsOfDevelopment folder fields f (view locked.fields.now)

-- there is an edge about the name
abbrev pub HasEdge : List Edge → List ℕ → Field → List ℕ → Type 0
HasEdge edges folder f name = (e : Edge) × Contains edges e × IsOf folder f name e.dependency

-- each name for which the package in this folder writes a text has an edge, unless it is left out
abbrev pub AreAllLocked : Lock → List ℕ → Data → List Edge → Type 0
AreAllLocked lock folder fields edges = (f : Field) (name : List ℕ) → Writes folder fields f name
    → HasEdge edges folder f name ⊎ IsLeftOut lock folder fields f name

-- the same of all packages of the lock file
abbrev pub AreAllCollected : Lock → List Edge → Type 0
AreAllCollected lock edges = (folder : List ℕ) (fields : Data) → get folder (packages_of lock) ≡ Some fields
    → AreAllLocked lock folder fields edges

-- both are about one name of one package
abbrev pub AreOfOne : Dependency → Dependency → Type 0
AreOfOne d e = (d.package.folder.now ≡ e.package.folder.now) × (d.name.now ≡ e.name.now)

-- no name of a package has two edges
abbrev pub AreApartEdges : List Edge → Type 0
AreApartEdges edges = AllPairs (λ d e. ¬ AreOfOne d.dependency e.dependency) edges

-- those of earlier folders come first
abbrev pub IsUpTo : (first last : List ℕ) → Type 0
IsUpTo first last = slice_cmp nat_cmp first last ≢ Greater

abbrev pub AreInOrder : List Edge → Type 0
AreInOrder edges =
    AllPairs (λ d e. IsUpTo d.dependency.package.folder.now e.dependency.package.folder.now) edges

-- each workspace of the root project has one about its name
abbrev pub AreWorkspacesCollected : Lock → List Edge → Type 0
AreWorkspacesCollected lock edges = (root : Data) (folder : List ℕ) → get [] (packages_of lock) ≡ Some root
    → IsWorkspace root lock folder
    → (name : List ℕ) × IsWorkspaceName lock folder name × HasEdge edges [] field.Workspaces name
