-- Statement: the packages of a lock file of version 1, whose entries stand inside one another.
use Rattle.std.specs.Prelude.{◌≡◌, ◌≢◌, ◌⊎◌, ℕ, Bool, true, false, List, [], ◌∷◌, ◌++◌, Option, Some, None}
use Rattle.std.specs.Prelude.{All, Any, Contains, IfSome, IsSome, codes, if◌then◌else◌, is_some}
use Rattle.std.specs.Prelude.{option_and_then, option_map, unwrap_or}
use Rattle.std.specs.Option.{option_or}
use Rattle.std.specs.Str.Iter.{HasSubslice}
use Rattle.serde_json.specs.Data.{Data, Members, boolean, member, no_members, object, put, string}
use Rattle.serde_json.specs.Find.{as_object, get, get_member}
use Rattle.lock_files.specs.Fields.{text_of}
use Rattle.lock_files.specs.Paths.{joined}
use Rattle.lock_files.specs.Specifiers.{IsSpecifier, is_repository}
use Rattle.lock_files.specs.declared.specifier.Specifier.{Specifier}
use Rattle.lock_files.specs.declared.specifier.Specifier.TheVariants.{Folder, Packed, Page, Range, Repository}

-- what an entry says in a field: the text there is this
abbrev pub IsSaid : (field : List ℕ) → Data → Option Specifier → Type 0
IsSaid field entry (Some s) = (text : List ℕ) × (text_of field entry ≡ Some text) × IsSpecifier text s
IsSaid field entry None = text_of field entry ≡ None

abbrev pub is_range : Specifier → Bool
is_range (Range range) = true
is_range s = false

-- the version of an entry says where its package comes from if there is a checksum, if it is a repository, if
-- the entry was asked for by a range, or if nothing else says it
pub data SaysSource (entry : Data) (version : Specifier) : Type 0 where
  checked : IsSome (get (codes "integrity") entry) → SaysSource entry version
  repository : is_repository version ≡ true → SaysSource entry version
  asked : (from : Specifier) → IsSaid (codes "from") entry (Some from) → is_range from ≡ true
      → SaysSource entry version
  alone : text_of (codes "from") entry ≡ None → text_of (codes "resolved") entry ≡ None
      → SaysSource entry version

-- where the package of an entry comes from, as npm has it: what its version is, if that says it, or else what
-- `resolved` is, or else what it was asked for by
pub data IsSource (entry : Data) : Option Specifier → Type 0 where
  by_version : (version : Specifier) → IsSaid (codes "version") entry (Some version)
      → SaysSource entry version → IsSource entry (Some version)
  otherwise : (version resolved from : Option Specifier) → IsSaid (codes "version") entry version
      → IfSome version (λ v. ¬ (SaysSource entry v)) → IsSaid (codes "resolved") entry resolved
      → IsSaid (codes "from") entry from → IsSource entry (option_or resolved from)

-- the folder to which a link leads: an entry is one if it comes from a folder
abbrev pub link_target : Option Specifier → Option (List ℕ)
link_target (Some (Folder path)) = Some (joined [] path.now)
link_target s = None

-- an object with this value in a field, if there is one
abbrev pub with_field : (field : List ℕ) → Option Data → Members → Members
with_field field (Some value) fields = put field value fields
with_field field None fields = fields

-- what is kept of an entry. `bundled` is `inBundle` in later versions
abbrev pub kept : Data → Members
kept entry = with_field (codes "inBundle") (get (codes "bundled") entry)
    (with_field (codes "dev") (get (codes "dev") entry)
    (with_field (codes "optional") (get (codes "optional") entry)
    (with_field (codes "requires") (get (codes "requires") entry) no_members)))

abbrev pub link_to : (folder : List ℕ) → Data
link_to folder =
    object (put (codes "resolved") (string folder) (put (codes "link") (boolean true) no_members))

-- a slash, as it is or as a URL writes it inside a part
abbrev pub slashes : List (List ℕ)
slashes = codes "/" ∷ codes "%2f" ∷ codes "%2F" ∷ []

-- what stands behind the last slash of a text, or the text if it has none
pub record IsLastPart (text part : List ℕ) : Type 0 where
  pub whole : All (λ slash. ¬ (HasSubslice part slash)) slashes
  pub end : (text ≡ part)
      ⊎ ((front slash : List ℕ) × Contains slashes slash × (text ≡ front ++ (slash ++ part)))

-- the name with which that of a packed file begins: in an address `NAME/-/FILE`, as of registries, this one,
-- and else that of the entry; of both the last part
pub data IsPackedName (name place file own : List ℕ) : Type 0 where
  in_address : (front : List ℕ) → place ≡ front ++ (codes "/-/" ++ file) → IsLastPart front own
      → IsPackedName name place file own
  in_entry : ((front : List ℕ) → place ≢ front ++ (codes "/-/" ++ file)) → IsLastPart name own
      → IsPackedName name place file own

-- the version in the name of a packed file, `NAME-VERSION.tgz`
abbrev pub IsNamedIn : (own file : List ℕ) → Option (List ℕ) → Type 0
IsNamedIn own file (Some version) = file ≡ own ++ (codes "-" ++ (version ++ codes ".tgz"))
IsNamedIn own file None = (version : List ℕ) → file ≢ own ++ (codes "-" ++ (version ++ codes ".tgz"))

abbrev pub IsPackedVersion : (name place : List ℕ) → Option (List ℕ) → Type 0
IsPackedVersion name place version = (file : List ℕ) × (own : List ℕ) × IsLastPart place file
    × IsPackedName name place file own × IsNamedIn own file version

-- what is known of the version of a package, by where it comes from
abbrev pub IsVersion : (name : List ℕ) → Data → Option Specifier → Option (List ℕ) → Type 0
IsVersion name entry (Some (Range range)) version = version
    ≡ (if is_some (get (codes "integrity") entry) then Some range.now else text_of (codes "version") entry)
IsVersion name entry (Some (Page url)) version = IsPackedVersion name url.now version
IsVersion name entry (Some (Packed path)) version = IsPackedVersion name path.now version
IsVersion name entry s version = version ≡ None

-- and of its address
abbrev pub address_of : Data → Option Specifier → Option (List ℕ)
address_of entry None = None
address_of entry (Some (Page url)) = Some url.now
address_of entry (Some (Repository range)) = text_of (codes "version") entry
address_of entry (Some s) = text_of (codes "resolved") entry

-- the fields of a package that is no link
abbrev pub HasFields : (name : List ℕ) → Data → Option Specifier → Data → Type 0
HasFields name entry s fields = (version : Option (List ℕ)) × IsVersion name entry s version
    × (fields ≡ object (with_field (codes "version") (option_map string version)
    (with_field (codes "resolved") (option_map string (address_of entry s)) (kept entry))))

-- an entry, the folder of its package, and where that comes from
pub record Placed : Type 0 where
  pub folder : List ℕ
  pub name : List ℕ
  pub entry : Data
  pub source : Option Specifier

-- its package
pub data IsPackageOf (p : Placed) : Data → Type 0 where
  linked : (target : List ℕ) → link_target p.source ≡ Some target → IsPackageOf p (link_to target)
  plain : (fields : Data) → link_target p.source ≡ None → HasFields p.name p.entry p.source fields
      → IsPackageOf p fields

-- the folder of a package of this name below a folder; that of the root project is the empty text
abbrev pub below : (folder name : List ℕ) → List ℕ
below [] name = codes "node_modules/" ++ name
below folder name = folder ++ (codes "/node_modules/" ++ name)

-- the entries inside an entry stand below its folder, or below that to which it leads
abbrev pub folder_within : Placed → List ℕ
folder_within p = unwrap_or (link_target p.source) p.folder

abbrev pub entries_within : Data → Members
entries_within entry = unwrap_or (option_and_then as_object (get (codes "dependencies") entry)) no_members

-- the entries that stand below a folder, and those inside them
pub data ArePlaced : (folder : List ℕ) (entries : Members) → List Placed → Type 0 where
  no_entries : (folder : List ℕ) → ArePlaced folder no_members []
  entry_and : (folder : List ℕ) (p : Placed) (others : Members) (within beside : List Placed)
      → p.folder ≡ below folder p.name → IsSource p.entry p.source
      → ArePlaced (folder_within p) (entries_within p.entry) within → ArePlaced folder others beside
      → ArePlaced folder (member p.name p.entry others) (p ∷ (within ++ beside))

-- the folder of one of the entries
abbrev pub IsTaken : List Placed → (folder : List ℕ) → Type 0
IsTaken placed folder = Any (λ p. p.folder ≡ folder) placed

-- what stands in a folder: the package of an entry there, or else what is kept of a link that leads there. If
-- several entries have one folder, as through links they may, it is that of any of them; likewise of links
pub data IsPut (placed : List Placed) (folder : List ℕ) : Data → Type 0 where
  of_entry : (p : Placed) (fields : Data) → Contains placed p → p.folder ≡ folder → IsPackageOf p fields
      → IsPut placed folder fields
  of_link : (p : Placed) → Contains placed p → link_target p.source ≡ Some folder
      → ¬ (IsTaken placed folder) → IsPut placed folder (object (kept p.entry))

abbrev pub HasPackage : (packages : Members) (folder : List ℕ) → Type 0
HasPackage packages folder = IsSome (get_member folder packages)

-- the packages of these entries: each entry has one, and each folder to which a link leads, and no other has
pub record ArePackagesOf (placed : List Placed) (packages : Members) : Type 0 where
  pub entries : All (λ p. HasPackage packages p.folder) placed
  pub targets : All (λ p. IfSome (link_target p.source) (HasPackage packages)) placed
  pub each : (folder : List ℕ) (fields : Data) → get_member folder packages ≡ Some fields
      → IsPut placed folder fields

-- the packages to which the object `dependencies` of a lock file is converted
abbrev pub AreConverted : (dependencies packages : Members) → Type 0
AreConverted dependencies packages =
    (placed : List Placed) × ArePlaced [] dependencies placed × ArePackagesOf placed packages
