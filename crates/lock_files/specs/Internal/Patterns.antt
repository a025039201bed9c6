-- For proofs and private contracts: what a text in `workspaces` is, and which workspaces are collected.
use Rattle.std.specs.Prelude.{◌≡◌, ◌≢◌, ℕ, true, false, List, [], Some, Contains}
use Rattle.serde_json.specs.Data.{Data, array}
use Rattle.serde_json.specs.View.{items_view, view}
use Rattle.serde_json.specs.declared.value.Value.{Value}
use Rattle.lock_files.specs.Internal.Collected.{HasDependency}
use Rattle.lock_files.specs.Edges.{HasEdge}
use Rattle.lock_files.specs.Lookups.{IsInstalled, IsPackage}
use Rattle.lock_files.specs.Specifiers.{has}
use Rattle.lock_files.specs.Workspaces.{AreFitting, IsMeant, IsWorkspace, IsWorkspaceName, is_unread, parts}
use Rattle.lock_files.specs.Workspaces.{pattern_of, texts_in}
use Rattle.lock_files.specs.declared.edge.Edge.{Edge}
use Rattle.lock_files.specs.declared.lock.Dependency.{Dependency}
use Rattle.lock_files.specs.declared.lock.Field.TheVariants as field
use Rattle.lock_files.specs.declared.lock.Lock.{Lock}
use Rattle.lock_files.specs.declared.lock.Package.{Package}
use Rattle.lock_files.specs.declared.workspaces.Pattern.{Pattern}
use Rattle.lock_files.specs.declared.workspaces.Pattern.TheVariants as pattern

-- the pattern of the text
abbrev pub IsPattern : List ℕ → Pattern → Type 0
IsPattern text (pattern.Folder own) =
    (own.now ≡ pattern_of text) × (is_unread own.now ≡ false) × (has 42 own.now ≡ false)
IsPattern text (pattern.Stars own) =
    (own.now ≡ pattern_of text) × (is_unread own.now ≡ false) × (has 42 own.now ≡ true)
IsPattern text pattern.Unread = is_unread (pattern_of text) ≡ true

-- a folder of the lock file fits the pattern
abbrev pub Fits : Pattern → List ℕ → Type 0
Fits (pattern.Folder own) folder = own.now ≡ folder
Fits (pattern.Stars own) folder = AreFitting (parts own.now) (parts folder)
Fits pattern.Unread folder = ⊥

-- it is that of a project, but not of the root project
abbrev pub Takes : Pattern → List ℕ → Type 0
Takes p folder = (folder ≢ []) × (¬ (IsInstalled folder)) × Fits p folder

-- all those are there still
abbrev pub Keeps : (before after : List Dependency) → Type 0
Keeps before after = (d : Dependency) → Contains before d → Contains after d

-- the workspace in that folder has a dependency of this one, by its name
abbrev pub HasWorkspace : Lock → List Dependency → (place folder : List ℕ) → Type 0
HasWorkspace lock found place folder =
    (name : List ℕ) × IsWorkspaceName lock folder name × HasDependency found place field.Workspaces name

-- the package is the root project of the lock file
abbrev pub IsRoot : Lock → Package → Type 0
IsRoot lock p = IsPackage lock p × (p.folder.now ≡ [])

-- the texts of the package stand in this list
abbrev pub AreTextsOf : Package → List Value → Type 0
AreTextsOf p vs = texts_in (view p.fields.now) ≡ Some (array (items_view vs))

-- so has each workspace that one text means
abbrev pub IsMeantFound : Lock → List Dependency → (place text : List ℕ) → Type 0
IsMeantFound lock found place text = (folder : List ℕ) → is_unread (pattern_of text) ≡ false
    → IsMeant lock (pattern_of text) folder → HasWorkspace lock found place folder

-- so has each workspace, if the package is the root project
abbrev pub AreMeantFound : Lock → Package → List Dependency → Type 0
AreMeantFound lock p found = p.folder.now ≡ [] → (folder : List ℕ)
    → IsWorkspace (view p.fields.now) lock folder → HasWorkspace lock found p.folder.now folder

-- each workspace has an edge, if the package in this place is the root project
abbrev pub AreMeantLinked : Lock → List Edge → (place : List ℕ) → Data → Type 0
AreMeantLinked lock edges place fields = place ≡ [] → (folder : List ℕ) → IsWorkspace fields lock folder
    → (name : List ℕ) × IsWorkspaceName lock folder name × HasEdge edges place field.Workspaces name
