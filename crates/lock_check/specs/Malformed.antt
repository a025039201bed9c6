-- Statement: which faults are told of what is malformed.
use Rattle.std.specs.Prelude.{◌≡◌, ◌⊎◌, ℕ, List, [], None, Some, All, codes}
use Rattle.serde_json.specs.Data.{Data, Members}
use Rattle.serde_json.specs.Find.{as_object, get}
use Rattle.lock_check.specs.Overrides.{AreRules, HasKey, IsNoRule}
use Rattle.lock_files.specs.Faults.{ArePackagesTold, HasFault, IsFieldFault, IsPackageFault, OfFields}
use Rattle.lock_files.specs.Lookups.{IsAt}
use Rattle.lock_files.specs.declared.fault.Fault.{Fault}
use Rattle.lock_files.specs.declared.fault.Fault.TheVariants as fault
use Rattle.lock_files.specs.declared.lock.Lock.{Lock}

-- `overrides` of the root project is there and no object
abbrev pub HasOtherRules : Data → Type 0
HasOtherRules root = (value : Data) × (get (codes "overrides") root ≡ Some value) × (as_object value ≡ None)

-- a key of `overrides`, at any depth, that is no rule with its value
pub record IsMalformedRule (root : Data) (key : List ℕ) : Type 0 where
  pub rules : Members
  pub value : Data
  pub among : AreRules root rules
  pub has : HasKey rules key value
  pub none : IsNoRule key value

abbrev pub IsRuleFault : List ℕ → Fault → Type 0
IsRuleFault key (fault.Override own) = own.now ≡ key
IsRuleFault key _ = ⊥

abbrev pub AreRulesTold : Lock → List Fault → Type 0
AreRulesTold lock faults = (key : List ℕ) → OfFields lock [] (λ root. IsMalformedRule root key)
    → HasFault faults (IsRuleFault key)

-- what a fault tells of `overrides` is malformed
abbrev pub IsOverridesFault : Lock → Fault → Type 0
IsOverridesFault lock (fault.Field place own) =
    (place.now ≡ []) × (own.now ≡ codes "overrides") × OfFields lock [] HasOtherRules
IsOverridesFault lock (fault.Override key) = OfFields lock [] (λ root. IsMalformedRule root key.now)
IsOverridesFault lock _ = ⊥

-- what a fault tells of is malformed
abbrev pub IsFault : Lock → Fault → Type 0
IsFault lock f = IsPackageFault lock f ⊎ IsOverridesFault lock f

-- what is malformed is told, of each package of the lock file, and nothing else is: also that there is no
-- root project, that its `overrides` are no object or have what is no rule, or that its `workspaces` are no
-- list of texts
pub record AreAllTold (lock : Lock) (faults : List Fault) : Type 0 where
  pub root : IsAt lock [] None → HasFault faults (λ f. f ≡ fault.NoRoot)
  pub packages : ArePackagesTold lock faults
  pub rules : OfFields lock [] HasOtherRules → HasFault faults (IsFieldFault [] (codes "overrides"))
  pub inside : AreRulesTold lock faults
  pub real : All (IsFault lock) faults
