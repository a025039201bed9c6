-- Statement: which dependencies a package of a lock file has, and what it writes for each.
use Rattle.std.specs.Prelude.{◌≡◌, ◌≤◌, [], ⊤, IsSome, List, Option, Some, codes, option_and_then, ℕ}
use Rattle.serde_json.specs.Data.{Data}
use Rattle.serde_json.specs.Find.{as_str}
use Rattle.serde_json.specs.View.{view}
use Rattle.lock_files.specs.Fields.{member_of}
use Rattle.lock_files.specs.Lookups.{IsInstalled, IsPackage, written_in}
use Rattle.lock_files.specs.Workspaces.{IsWorkspace, IsWorkspaceName}
use Rattle.lock_files.specs.declared.lock.Dependency.{Dependency}
use Rattle.lock_files.specs.declared.lock.Field.{Field}
use Rattle.lock_files.specs.declared.lock.Field.TheVariants as field
use Rattle.lock_files.specs.declared.lock.Lock.{Lock}
use Rattle.lock_files.specs.declared.lock.Wanted.{Wanted}
use Rattle.lock_files.specs.declared.lock.Wanted.TheVariants as wanted

-- npm reads `devDependencies` only of projects, and the other fields of each package
abbrev pub IsRead : Field → List ℕ → Type 0
IsRead field.Development folder = ¬ (IsInstalled folder)
IsRead field.Workspaces folder = ⊥
IsRead _ folder = ⊤

-- the package in a folder writes a text for a name, in a field that is read
pub record Writes (folder : List ℕ) (fields : Data) (f : Field) (name : List ℕ) : Type 0 where
  pub is_read : IsRead f folder
  pub has_text : IsSome (written_in f name fields)

-- a name that stands in several fields counts in the first of these, and before them as a workspace
abbrev pub rank : Field → ℕ
rank field.Workspaces = 0
rank field.Development = 1
rank field.Optional = 2
rank field.Production = 3
rank field.Peer = 4
rank field.Requires = 5

-- a dependency of the package in that folder, of that name, by that field or by one that counts before it
pub record IsOf (folder : List ℕ) (f : Field) (name : List ℕ) (d : Dependency) : Type 0 where
  pub of_folder : d.package.folder.now ≡ folder
  pub of_name : d.name.now ≡ name
  pub of_field : rank d.field ≤ rank f

-- a workspace of the root project, by its name
pub record IsWorkspaceOf (lock : Lock) (d : Dependency) (folder : List ℕ) : Type 0 where
  pub by_field : d.field ≡ field.Workspaces
  pub of_root : d.package.folder.now ≡ []
  pub meant : IsWorkspace (view d.package.fields.now) lock folder
  pub named : IsWorkspaceName lock folder d.name.now

-- what a package writes for the name in that field, or a workspace
abbrev pub IsWritten : Lock → Dependency → Wanted → Type 0
IsWritten lock d (wanted.Text text) =
    written_in d.field d.name.now (view d.package.fields.now) ≡ Some text.now
IsWritten lock d (wanted.Override text) = ⊥
IsWritten lock d (wanted.Workspace folder) = IsWorkspaceOf lock d folder.now

-- a package of the lock file has the dependency, with what is written of it
abbrev pub IsDeclared : Lock → Dependency → Type 0
IsDeclared lock d = IsPackage lock d.package × IsWritten lock d d.wanted

-- the text that a package accepts in place of what it wants for a name
abbrev pub accepted_by : Dependency → Option (List ℕ)
accepted_by d = option_and_then as_str
    (member_of (codes "acceptDependencies") d.name.now (view d.package.fields.now))
