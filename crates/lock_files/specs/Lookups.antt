-- Statement: which package of a lock file is locked for a dependency, and what a package writes of it.
use Rattle.std.specs.Prelude.{◌≡◌, ◌≢◌, ◌⊎◌, ◌<◌, ℕ, true, false, List, [], ◌∷◌, ◌++◌, Option, Some, None}
use Rattle.std.specs.Prelude.{◌==◌, codes, length, option_and_then, unwrap_or}
use Rattle.std.specs.List.{starts_with}
use Rattle.std.specs.Str.Iter.{HasSubslice}
use Rattle.serde_json.specs.Data.{Data, object}
use Rattle.serde_json.specs.Find.{as_str, get}
use Rattle.serde_json.specs.View.{members_view, view}
use Rattle.lock_files.specs.Fields.{is_set, member_of, text_of}
use Rattle.lock_files.specs.Paths.{joined}
use Rattle.lock_files.specs.declared.lock.Field.{Field}
use Rattle.lock_files.specs.declared.lock.Field.TheVariants as field
use Rattle.lock_files.specs.declared.lock.Lock.{Lock}
use Rattle.lock_files.specs.declared.lock.Package.{Package}

-- a folder is that of an installed package, and of no project
abbrev pub IsInstalled : List ℕ → Type 0
IsInstalled folder = (starts_with (λ a b. a == b) folder (codes "node_modules/") ≡ true)
    ⊎ HasSubslice folder (codes "/node_modules/")

-- the packages of a lock file by their folders, as an object
abbrev pub packages_of : Lock → Data
packages_of lock = object (members_view lock.packages.now.entries)

-- what the lock file has in this folder
abbrev pub IsAt : Lock → List ℕ → Option Package → Type 0
IsAt lock folder None = get folder (packages_of lock) ≡ None
IsAt lock folder (Some p) =
    (p.folder.now ≡ folder) × (get folder (packages_of lock) ≡ Some (view p.fields.now))

abbrev pub IsPackage : Lock → Package → Type 0
IsPackage lock p = get p.folder.now (packages_of lock) ≡ Some (view p.fields.now)

-- the folder itself, or one around it
abbrev pub IsAround : List ℕ → List ℕ → Type 0
IsAround folder place = (place ≡ folder) ⊎ ((behind : List ℕ) × (folder ≡ place ++ 47 ∷ behind))

-- the folder of a package of this name that is installed in a place
abbrev pub installed : List ℕ → List ℕ → List ℕ
installed place name = place ++ (codes "/node_modules/" ++ name)

-- no place around the folder has a package of this name, but for those whose texts are at most so long
abbrev pub NoneCloser : Lock → List ℕ → List ℕ → ℕ → Type 0
NoneCloser lock folder name longest = (place : List ℕ) → IsAround folder place → longest < length place
    → IsAt lock (installed place name) None

-- the package of this name in the closest place around a folder that has one, None exactly if none has
abbrev pub IsClosest : Lock → List ℕ → List ℕ → Option Package → Type 0
IsClosest lock folder name (Some p) = (place : List ℕ) × IsAround folder place
    × IsAt lock (installed place name) (Some p) × NoneCloser lock folder name (length place)
IsClosest lock folder name None = (place : List ℕ) → IsAround folder place
    → IsAt lock (installed place name) None

-- what a folder means by a name: the package in the closest place around it, and else what is
-- installed beside the root project, whose folder is the empty text
pub data IsNearest (lock : Lock) (folder name : List ℕ) : Option Package → Type 0 where
  closest : (p : Package) → folder ≢ [] → IsClosest lock folder name (Some p)
      → IsNearest lock folder name (Some p)
  outermost : (found : Option Package) → (folder ≢ [] → IsClosest lock folder name None)
      → IsAt lock (codes "node_modules/" ++ name) found → IsNearest lock folder name found

-- the folder to which a link leads
abbrev pub link_target : Package → List ℕ
link_target p = joined [] (unwrap_or (text_of (codes "resolved") (view p.fields.now)) [])

-- what stands behind a package: itself, or if it is a link, what the lock file has in the folder to which it
-- leads
abbrev pub IsBehind : Lock → Package → Option Package → Type 0
IsBehind lock p found = ((is_set (codes "link") (view p.fields.now) ≡ false) × (found ≡ Some p))
    ⊎ ((is_set (codes "link") (view p.fields.now) ≡ true) × IsAt lock (link_target p) found)

-- the package in a place has a lock file of its own, and what stands in the folder is installed in it
abbrev pub LocksIn : Lock → (place folder : List ℕ) → Type 0
LocksIn lock place folder = ((behind : List ℕ) × (folder ≡ place ++ (codes "/node_modules/" ++ behind)))
    × ((p : Package) × IsAt lock place (Some p) × (is_set (codes "hasShrinkwrap") (view p.fields.now) ≡ true))

abbrev pub IsInside : Lock → List ℕ → Type 0
IsInside lock folder = (place : List ℕ) × LocksIn lock place folder

-- a package comes packed in another one, or it or one around it has a lock file of its own
abbrev pub IsPacked : Lock → Package → Type 0
IsPacked lock p = (is_set (codes "inBundle") (view p.fields.now) ≡ true)
    ⊎ ((is_set (codes "hasShrinkwrap") (view p.fields.now) ≡ true) ⊎ IsInside lock p.folder.now)

abbrev pub field_name : Field → List ℕ
field_name field.Development = codes "devDependencies"
field_name field.Optional = codes "optionalDependencies"
field_name field.Production = codes "dependencies"
field_name field.Peer = codes "peerDependencies"
field_name field.Requires = codes "requires"
field_name field.Workspaces = codes "workspaces"

abbrev pub written_in : Field → List ℕ → Data → Option (List ℕ)
written_in f name fields = option_and_then as_str (member_of (field_name f) name fields)
