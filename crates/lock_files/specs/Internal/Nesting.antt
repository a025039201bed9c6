-- For proofs and private contracts: what the conversion of entries adds to the packages.
use Rattle.std.specs.Prelude.{◌≡◌, ◌⊎◌, ℕ, List, [], ◌∷◌, ◌++◌, Option, Some, None}
use Rattle.std.specs.Prelude.{All, Contains, IfSome, if◌then◌else◌, is_some}
use Rattle.std.specs.Str.Iter.{HasSubslice}
use Rattle.serde_json.specs.Data.{Data, Members, object, put}
use Rattle.serde_json.specs.Find.{get_member}
use Rattle.lock_files.specs.Nested.{ArePlaced, HasPackage, IsPackageOf, IsSource, IsTaken, Placed}
use Rattle.lock_files.specs.Nested.{below, entries_within, folder_within, kept, link_to, link_target}
use Rattle.lock_files.specs.declared.specifier.Specifier.{Specifier}

-- what stands in a folder after entries were added: what stood there before, or as in `IsPut`
pub data IsAfter (placed : List Placed) (old : Members) (folder : List ℕ) : Data → Type 0 where
  as_before : (fields : Data) → get_member folder old ≡ Some fields → ¬ (IsTaken placed folder)
      → IsAfter placed old folder fields
  by_entry : (p : Placed) (fields : Data) → Contains placed p → p.folder ≡ folder → IsPackageOf p fields
      → IsAfter placed old folder fields
  by_link : (p : Placed) → Contains placed p → link_target p.source ≡ Some folder
      → ¬ (IsTaken placed folder) → get_member folder old ≡ None
      → IsAfter placed old folder (object (kept p.entry))

-- the packages of these entries were added
pub record AreAdded (placed : List Placed) (old new : Members) : Type 0 where
  pub stay : (folder : List ℕ) → HasPackage old folder → HasPackage new folder
  pub entries : All (λ p. HasPackage new p.folder) placed
  pub targets : All (λ p. IfSome (link_target p.source) (HasPackage new)) placed
  pub each : (folder : List ℕ) (fields : Data) → get_member folder new ≡ Some fields
      → IsAfter placed old folder fields

-- the entries of an object below a folder, and those inside them
abbrev pub AddsAll : (folder : List ℕ) (entries old new : Members) → Type 0
AddsAll folder entries old new =
    (placed : List Placed) × ArePlaced folder entries placed × AreAdded placed old new

abbrev pub placed_at : (folder name : List ℕ) → Data → Option Specifier → Placed
placed_at folder name entry s = record { folder = folder; name = name; entry = entry; source = s }

-- one entry below a folder, and those inside it
pub record AddsEntry (folder name : List ℕ) (entry : Data) (old new : Members) : Type 0 where
  pub source : Option Specifier
  pub is : IsSource entry source
  pub within : List Placed
  pub placed : ArePlaced (folder_within (placed_at (below folder name) name entry source))
      (entries_within entry) within
  pub added : AreAdded (placed_at (below folder name) name entry source ∷ within) old new

-- one entry in its folder alone; what is inside stands below a folder of its own
pub record AddsOwn (folder name : List ℕ) (entry : Data) (within : List ℕ) (old new : Members) : Type 0 where
  pub source : Option Specifier
  pub is : IsSource entry source
  pub leads : within ≡ folder_within (placed_at folder name entry source)
  pub added : AreAdded (placed_at folder name entry source ∷ []) old new

-- with this package in a folder, unless there is one
abbrev pub with_target : (folder : List ℕ) → Data → Members → Members
with_target folder fields packages =
    if is_some (get_member folder packages) then packages else put folder fields packages

-- with a link from a folder to another, and what is kept of it there
abbrev pub with_link : (folder target : List ℕ) → Data → Members → Members
with_link folder target entry packages =
    put folder (link_to target) (with_target target (object (kept entry)) packages)

-- what stands behind the last of such pieces of a text, or the text if it has none
abbrev pub IsBehindLast : (piece text behind : List ℕ) → Type 0
IsBehindLast piece text behind = (¬ (HasSubslice behind piece))
    × ((text ≡ behind) ⊎ ((front : List ℕ) × (text ≡ front ++ (piece ++ behind))))
