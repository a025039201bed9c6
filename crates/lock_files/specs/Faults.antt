-- Statement: which faults are told of what is malformed in the packages of a lock file.
use Rattle.std.specs.Prelude.{◌≡◌, ◌≢◌, ◌++◌, [], Contains, List, None, Option, Some, ℕ}
use Rattle.serde_json.specs.Data.{Data}
use Rattle.serde_json.specs.Find.{as_object, as_str, get}
use Rattle.lock_files.specs.Dependencies.{IsRead}
use Rattle.lock_files.specs.Fields.{member_of}
use Rattle.lock_files.specs.Lookups.{IsAt, field_name, packages_of}
use Rattle.lock_files.specs.Workspaces.{HasOtherTexts}
use Rattle.lock_files.specs.declared.fault.Fault.{Fault}
use Rattle.lock_files.specs.declared.fault.Fault.TheVariants as fault
use Rattle.lock_files.specs.declared.lock.Field.{Field}
use Rattle.lock_files.specs.declared.lock.Field.TheVariants as field
use Rattle.lock_files.specs.declared.lock.Lock.{Lock}

-- a field of the root project has no folder
abbrev pub fault_folder : Fault → List ℕ
fault_folder (fault.Field folder field) = folder.now
fault_folder (fault.Range folder name) = folder.now
fault_folder _ = []

abbrev pub fault_name : Fault → Option (List ℕ)
fault_name (fault.Range folder name) = Some name.now
fault_name (fault.Override name) = Some name.now
fault_name _ = None

-- some were added at the end
abbrev pub Extends : {A : Type 0} → List A → List A → Type 0
Extends {A} before after = (more : List A) × (after ≡ before ++ more)

abbrev pub HasFault : List Fault → (Fault → Type 0) → Type 0
HasFault faults P = (f : Fault) × Contains faults f × P f

-- that of a field of the package in this folder, and of a name in such a field
abbrev pub IsFieldFault : (folder name : List ℕ) → Fault → Type 0
IsFieldFault folder name (fault.Field place own) = (place.now ≡ folder) × (own.now ≡ name)
IsFieldFault folder name _ = ⊥

abbrev pub IsRangeFault : (folder name : List ℕ) → Fault → Type 0
IsRangeFault folder name (fault.Range place own) = (place.now ≡ folder) × (own.now ≡ name)
IsRangeFault folder name _ = ⊥

-- the field is there and no object; `requires` of lockfileVersion 1 may be `true`
pub record IsNoObject (fields : Data) (f : Field) : Type 0 where
  pub other : f ≢ field.Requires
  pub value : Data
  pub is : get (field_name f) fields ≡ Some value
  pub none : as_object value ≡ None

-- the field has the name, and no text for it
pub record IsNoText (fields : Data) (f : Field) (name : List ℕ) : Type 0 where
  pub value : Data
  pub is : member_of (field_name f) name fields ≡ Some value
  pub none : as_str value ≡ None

-- what is malformed in a field has a fault
pub record HasFaults (folder : List ℕ) (fields : Data) (f : Field) (faults : List Fault) : Type 0 where
  pub object : IsNoObject fields f → HasFault faults (IsFieldFault folder (field_name f))
  pub texts : (name : List ℕ) → IsNoText fields f name → HasFault faults (IsRangeFault folder name)

-- the same of each field that is read of a package
abbrev pub HasAllFaults : List Fault → (folder : List ℕ) → Data → Type 0
HasAllFaults faults folder fields = (f : Field) → IsRead f folder → HasFaults folder fields f faults

-- the lock file has a package in this folder, and this holds of its fields
abbrev pub OfFields : Lock → List ℕ → (Data → Type 0) → Type 0
OfFields lock folder P = (fields : Data) × (get folder (packages_of lock) ≡ Some fields) × P fields

-- what is malformed is told, of each package of the lock file, and that `workspaces` of the root project is
-- no list of texts
pub record ArePackagesTold (lock : Lock) (faults : List Fault) : Type 0 where
  pub each : (folder : List ℕ) (fields : Data) → get folder (packages_of lock) ≡ Some fields
      → HasAllFaults faults folder fields
  pub workspaces : OfFields lock [] HasOtherTexts → HasFault faults (λ f. f ≡ fault.Workspaces)

-- what a fault tells of a package is malformed, or there is no root project
abbrev pub IsPackageFault : Lock → Fault → Type 0
IsPackageFault lock (fault.Field place own) = (f : Field) × IsRead f place.now × (own.now ≡ field_name f)
    × OfFields lock place.now (λ fields. IsNoObject fields f)
IsPackageFault lock (fault.Range place own) = (f : Field) × IsRead f place.now
    × OfFields lock place.now (λ fields. IsNoText fields f own.now)
IsPackageFault lock fault.Workspaces = OfFields lock [] HasOtherTexts
IsPackageFault lock fault.NoRoot = IsAt lock [] None
IsPackageFault lock (fault.Override key) = ⊥
