-- Statement: where packages stand in the rules of `overrides`, by the order in which npm reads dependencies,
-- and what each dependency wants after the overrides.
use Rattle.std.specs.Prelude.{◌≡◌, ◌⊎◌, ℕ, All, Bool, true, false, List, [], Option, Some, None}
use Rattle.std.specs.Prelude.{if◌then◌else◌, slice_get}
use Rattle.std.specs.Cmp.Lexicographic.{slice_cmp}
use Rattle.std.specs.Ordering.{bool_cmp, is_lt, nat_cmp, ordering_then}
use Rattle.std.specs.declared.cmp.Ordering.{Ordering}
use Rattle.std.specs.declared.cmp.Ordering.TheVariants.{Less}
use Rattle.serde_json.specs.Data.{Data}
use Rattle.serde_json.specs.View.{view}
use Rattle.lock_files.specs.Edges.{AreAllCollected, AreApartEdges, AreInOrder, AreWorkspacesCollected, IsEdge}
use Rattle.lock_files.specs.Lookups.{IsAt, IsPacked}
use Rattle.lock_files.specs.declared.edge.Edge.{Edge}
use Rattle.lock_files.specs.declared.lock.Lock.{Lock}
use Rattle.lock_files.specs.declared.lock.Package.{Package}
use Rattle.lock_files.specs.declared.lock.Wanted.{Wanted}
use Rattle.lock_check.specs.Overrides.{HasKey, IsMeantIn, IsNoRule, IsOverridden, IsPutBy, Place}
use Rattle.lock_check.specs.Overrides.{nested_in, top}

-- the dependencies of all packages of a lock file, each once, in the order of the packages' folders
pub record AreEdges (lock : Lock) (edges : List Edge) : Type 0 where
  pub each : All (IsEdge lock) edges
  pub all : AreAllCollected lock edges
  pub apart : AreApartEdges edges
  pub ordered : AreInOrder edges
  pub workspaces : AreWorkspacesCollected lock edges

-- ---- the order in which npm reads them

-- the folder of the package that wants it
abbrev pub wanting : Edge → List ℕ
wanting e = e.dependency.package.folder.now

abbrev pub folder_cmp : List ℕ → List ℕ → Ordering
folder_cmp = slice_cmp nat_cmp

-- packages are read in the order of their folders, and a dependency with the later one of its two packages:
-- with the one that is locked for it, or with the one that wants it, as one of that package's own (true)
abbrev pub read_from : List ℕ → Option Package → List ℕ × Bool
read_from folder None = (folder, true)
read_from folder (Some p) =
    if is_lt (folder_cmp folder p.folder.now) then (p.folder.now, false) else (folder, true)

abbrev pub read_with : Edge → List ℕ × Bool
read_with e = read_from (wanting e) e.locked

-- with the earlier package first; of those that are read with one package first what others want, and then
-- what it wants itself; and then in the order of the list
abbrev pub reading_cmp : (e f : Edge) (m n : ℕ) → Ordering
reading_cmp e f m n = ordering_then
    (ordering_then (folder_cmp (read_with e).0 (read_with f).0) (bool_cmp (read_with e).1 (read_with f).1))
    (nat_cmp m n)

-- the dependency of one number is read before that of another
abbrev pub IsReadBefore : List Edge → ℕ → ℕ → Type 0
IsReadBefore edges m n = (e f : Edge) × (slice_get edges m ≡ Some e) × (slice_get edges n ≡ Some f)
    × (reading_cmp e f m n ≡ Less)

-- ---- where packages stand

-- rules hold for the dependency of this number, and what is locked for it is the package in this folder
abbrev pub LeadsTo : List Edge → List ℕ → ℕ → Type 0
LeadsTo edges folder m = (e : Edge) × (p : Package) × (slice_get edges m ≡ Some e) × IsOverridden e.dependency
    × (e.locked ≡ Some p) × (p.folder.now ≡ folder)

-- of all that lead to a folder and are read before another, the last
pub record IsLastTo (edges : List Edge) (folder : List ℕ) (n m : ℕ) : Type 0 where
  pub before : IsReadBefore edges m n
  pub leads : LeadsTo edges folder m
  pub last : (k : ℕ) → IsReadBefore edges k n → LeadsTo edges folder k → (k ≡ m) ⊎ IsReadBefore edges k m

-- where the package that wants the dependency of this number stands when that is read: where the last
-- dependency on it that was read before means it to stand, and at the top if there is none
pub data StandsIn (root : Data) (edges : List Edge) : ℕ → Place → Type 0 where
  outermost : (n : ℕ) (e : Edge) → slice_get edges n ≡ Some e
      → ((m : ℕ) → IsReadBefore edges m n → ¬ (LeadsTo edges (wanting e) m)) → StandsIn root edges n top
  meant : (n m : ℕ) (e f : Edge) (around place : Place) → slice_get edges n ≡ Some e
      → slice_get edges m ≡ Some f → IsLastTo edges (wanting e) n m → StandsIn root edges m around
      → IsMeantIn root f.dependency around place → StandsIn root edges n place

-- ---- what is wanted after the overrides

-- what is locked for it comes packed in another package, or is locked by the file of one
abbrev pub IsLockedPacked : Lock → Edge → Type 0
IsLockedPacked lock e = (p : Package) × (e.locked ≡ Some p) × IsPacked lock p

-- the lock file has no root project, or that has no rule
abbrev pub HasNoRule : Lock → Type 0
HasNoRule lock = IsAt lock [] None ⊎ ((root : Package) × IsAt lock [] (Some root)
    × ((key : List ℕ) (value : Data) → HasKey (nested_in (view root.fields.now) top) key value
    → IsNoRule key value))

-- what the rules put in the place of what the dependency of this number wants, which is also what they leave
pub record IsRuled (lock : Lock) (edges : List Edge) (n : ℕ) (e : Edge) (w : Option Wanted) : Type 0 where
  pub root : Package
  pub is_root : IsAt lock [] (Some root)
  pub holds : IsOverridden e.dependency
  pub unpacked : ¬ (IsLockedPacked lock e)
  pub around : Place
  pub stands : StandsIn (view root.fields.now) edges n around
  pub place : Place
  pub is_meant : IsMeantIn (view root.fields.now) e.dependency around place
  pub puts : IsPutBy (view root.fields.now) place e.dependency w

-- what it wants after the overrides: what the rules put, if they hold for it, and else the same as before.
-- None is a reference to nothing
pub data IsAfter (lock : Lock) (edges : List Edge) (n : ℕ) (e : Edge) : Option Wanted → Type 0 where
  no_rule : HasNoRule lock → IsAfter lock edges n e (Some e.dependency.wanted)
  outside : ¬ (IsOverridden e.dependency) → IsAfter lock edges n e (Some e.dependency.wanted)
  packed : IsLockedPacked lock e → IsAfter lock edges n e (Some e.dependency.wanted)
  ruled : (w : Option Wanted) → IsRuled lock edges n e w → IsAfter lock edges n e w
