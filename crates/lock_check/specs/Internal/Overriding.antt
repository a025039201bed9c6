-- For proofs and private contracts: the rules of `overrides` as they are kept.
use Rattle.std.specs.Prelude.{⊤, ◌≡◌, ◌≢◌, ◌⊎◌, ◌<◌, ◌≤◌, ◌+◌, [], ℕ, All, Bool, List, None, Option}
use Rattle.std.specs.Prelude.{MatchOption, Some, codes, false, length, slice_get, true, unwrap_or}
use Rattle.nodejs_semver.specs.Cuts.{Span}
use Rattle.nodejs_semver.specs.Versions.{VersionValue}
use Rattle.npm_reading.specs.Ranges.{IsRangeIn}
use Rattle.semver_core.specs.declared.TheConstants.{MAX_SAFE_INTEGER}
use Rattle.serde_json.specs.Data.{Data, Members, member, no_members}
use Rattle.serde_json.specs.Find.{as_object}
use Rattle.serde_json.specs.View.{view}
use Rattle.lock_files.specs.Faults.{HasFault}
use Rattle.lock_check.specs.Malformed.{IsRuleFault}
use Rattle.lock_check.specs.Overrides.{AreRules, HasKey, IsNoRule, IsRule, IsRuleFor}
use Rattle.lock_check.specs.Overrides.{IsMeantIn, IsOverridden, IsReached, IsRuleFound}
use Rattle.lock_check.specs.Overrides.{Place, nested_in, rules_in}
use Rattle.lock_files.specs.declared.edge.Edge.{Edge}
use Rattle.std.specs.BTreeMap.{BTreeMap, get}
use Rattle.std.specs.Borrow.{Bor}
use Rattle.std.specs.Ordering.{nat_cmp}
use Rattle.lock_check.specs.Overrides.Place.{rule, top}
use Rattle.lock_check.specs.Standing.{IsReadBefore, StandsIn}
use Rattle.lock_files.specs.Wanted.{IsWantedAs}
use Rattle.lock_check.specs.Replacements.{IsReplacement}
use Rattle.lock_files.specs.declared.fault.Fault.{Fault}
use Rattle.lock_files.specs.declared.lock.Dependency.{Dependency}
use Rattle.lock_files.specs.declared.lock.Package.{Package}
use Rattle.lock_files.specs.declared.lock.Wanted.{Wanted}
use Rattle.lock_check.specs.declared.overrides.Rule.{Rule}
use Rattle.lock_check.specs.declared.overrides.Scope.{Scope}
use Rattle.lock_check.specs.declared.overrides.Scope.TheVariants as scope
use Rattle.lock_files.specs.declared.specifier.Specifier.{Specifier}

-- the package is there, and this holds of its fields
abbrev pub OfPackage : Option Package → (Data → Type 0) → Type 0
OfPackage root P = (p : Package) × (root ≡ Some p) × P (view p.fields.now)

-- the object is one of rules
abbrev pub IsObject : Option Package → Members → Type 0
IsObject root rules = OfPackage root (λ fields. AreRules fields rules)

-- the outermost of them, if there is one
abbrev pub IsFound : Option Package → Option Members → Type 0
IsFound root found = MatchOption root (found ≡ None) (λ p. found ≡ rules_in (view p.fields.now))

-- the range that is read of a key, none if it is `*`
abbrev pub IsOwnRange : List ℕ → Option (List (Span VersionValue)) → Type 0
IsOwnRange range None = range ≡ codes "*"
IsOwnRange range (Some own) = (range ≢ codes "*") × IsRangeIn false MAX_SAFE_INTEGER false range own

-- the rule is that of a key and its value
abbrev pub IsRuleOf : List ℕ → Data → Rule → Type 0
IsRuleOf key value r = (text : List ℕ) × (is : IsRuleFor key value r.name.now text)
    × IsReplacement text r.replacement × IsOwnRange is.range r.range

-- an object of rules is this one, or it stands inside
pub data IsInside (rules : Members) : Members → Type 0 where
  whole : {found : Members} → rules ≡ found → IsInside rules found
  below : {found : Members} (around : Members) (key : List ℕ) (value : Data) (name text : List ℕ)
      → IsInside rules around → HasKey around key value → IsRuleFor key value name text
      → as_object value ≡ Some found → IsInside rules found

-- what is malformed inside is told
abbrev pub AreInsideTold : List Fault → Members → Type 0
AreInsideTold faults rules = (found : Members) (key : List ℕ) (value : Data) → IsInside rules found
    → HasKey found key value → IsNoRule key value → HasFault faults (IsRuleFault key)

-- the rule is one of these
abbrev pub IsAmongRules : Data → Rule → Type 0
IsAmongRules root r = (text : List ℕ) × IsRule root r.name.now text × IsReplacement text r.replacement

-- all are rules of their root project
abbrev pub AreItsRules : Option Package → List Rule → Type 0
AreItsRules root rules = All (λ r. OfPackage root (λ fields. IsAmongRules fields r)) rules

-- ---- which rules are about a dependency

-- what is wanted is met by the range of a rule, if it has one
abbrev pub IsReachedBy : Option (List (Span VersionValue)) → Wanted → Type 0
IsReachedBy None w = ⊤
IsReachedBy (Some own) w = (s : Specifier) × IsWantedAs w s × IsReached own s

abbrev pub IsMissedBy : Option (List (Span VersionValue)) → Wanted → Type 0
IsMissedBy None w = ⊥
IsMissedBy (Some own) w = (s : Specifier) × IsWantedAs w s × ¬ (IsReached own s)

-- whether a rule is about a dependency
abbrev pub IsAboutIf : Dependency → Rule → Bool → Type 0
IsAboutIf d r true = (r.name.now ≡ d.name.now) × IsReachedBy r.range d.wanted
IsAboutIf d r false = (r.name.now ≢ d.name.now) ⊎ ((r.name.now ≡ d.name.now) × IsMissedBy r.range d.wanted)

-- a rule stands in this scope and is about it
abbrev pub IsHit : Scope → Dependency → Rule → Type 0
IsHit s d r = (r.outer ≡ s) × IsAboutIf d r true

abbrev pub IsMiss : Scope → Dependency → Rule → Type 0
IsMiss s d r = (r.outer ≢ s) ⊎ IsAboutIf d r false

-- the first of the rules that does, or there is none
abbrev pub IsFirstHit : List Rule → Scope → Dependency → Option ℕ → Type 0
IsFirstHit rules s d (Some n) = ((r : Rule) × (slice_get rules n ≡ Some r) × IsHit s d r)
    × ((i : ℕ) (r : Rule) → i < n → slice_get rules i ≡ Some r → IsMiss s d r)
IsFirstHit rules s d None = (i : ℕ) (r : Rule) → slice_get rules i ≡ Some r → IsMiss s d r

-- ---- how the rules are laid out

-- the rules of an object are laid out from one number to another: each before those nested in it, and these
-- before the next
pub data AreLaid (rules : List Rule) : Scope → (at end : ℕ) → Members → Type 0 where
  nothing : (s : Scope) (at end : ℕ) → at ≡ end → AreLaid rules s at end no_members
  passed : (s : Scope) (at end : ℕ) (key : List ℕ) (value : Data) (more : Members)
      → (key ≡ codes ".") ⊎ IsNoRule key value → AreLaid rules s at end more
      → AreLaid rules s at end (member key value more)
  laid : (s : Scope) (at middle end : ℕ) (key : List ℕ) (value : Data) (more : Members) (r : Rule)
      → slice_get rules at ≡ Some r → r.outer ≡ s → key ≢ codes "." → IsRuleOf key value r
      → AreLaid rules (scope.Rule at) (at + 1) middle (unwrap_or (as_object value) no_members)
      → AreLaid rules s middle end more → AreLaid rules s at end (member key value more)

-- all rules of the root project are
abbrev pub AreAllLaid : Option Package → List Rule → Type 0
AreAllLaid None rules = rules ≡ []
AreAllLaid (Some p) rules = AreLaid rules scope.Top 0 (length rules) (nested_in (view p.fields.now) top)

-- no rule from the end on stands in one of those
abbrev pub IsClosed : List Rule → (at end : ℕ) → Type 0
IsClosed rules at end = (i j : ℕ) (r : Rule) → end ≤ i → slice_get rules i ≡ Some r → at ≤ j → j < end
    → r.outer ≢ scope.Rule j

-- a scope is a place in the rules
pub data IsScopeOf (rules : List Rule) : Scope → Place → Type 0 where
  at_top : IsScopeOf rules scope.Top top
  in_rule : (n end : ℕ) (r : Rule) (around : Place) (key : List ℕ) (value : Data) → slice_get rules n ≡ Some r
      → IsRuleOf key value r → key ≢ codes "." → IsScopeOf rules r.outer around
      → AreLaid rules (scope.Rule n) (n + 1) end (unwrap_or (as_object value) no_members)
      → IsClosed rules n end → IsScopeOf rules (scope.Rule n) (rule around key value)

-- the rule of a scope
abbrev pub IsRuleAt : List Rule → Scope → Option Rule → Type 0
IsRuleAt rules scope.Top found = found ≡ None
IsRuleAt rules (scope.Rule n) found = found ≡ slice_get rules n

-- a scope is a place that is found so
abbrev pub IsFoundScope : List Rule → Data → Dependency → Place → Option Scope → Type 0
IsFoundScope rules root d place None = IsRuleFound root d place None
IsFoundScope rules root d place (Some s) =
    (inner : Place) × IsScopeOf rules s inner × IsRuleFound root d place (Some inner)

abbrev pub IsInnerScope : List Rule → Data → Dependency → Place → Scope → Type 0
IsInnerScope rules root d place s = (inner : Place) × IsScopeOf rules s inner × IsMeantIn root d place inner

-- ---- where packages stand

-- the scope where the package stands that is meant by the dependency of this number
abbrev pub IsLed : List Rule → Data → List Edge → ℕ → Dependency → Scope → Type 0
IsLed rules root edges n d s =
    (around : Place) × StandsIn root edges n around × IsInnerScope rules root d around s

-- of a dependency for which rules hold it is that, and of another one there is none
abbrev pub IsChosen : List Rule → Data → List Edge → ℕ → Edge → Option Scope → Type 0
IsChosen rules root edges n e None = ¬ (IsOverridden e.dependency)
IsChosen rules root edges n e (Some s) = IsOverridden e.dependency × IsLed rules root edges n e.dependency s

abbrev pub AreChosen : Option Package → List Rule → List Edge → BTreeMap ℕ Scope → Type 0
AreChosen root rules edges found = (n : ℕ) (e : Edge) → slice_get edges n ≡ Some e
    → ((rules ≡ []) × (get nat_cmp found n ≡ None))
    ⊎ OfPackage root (λ fields. IsChosen rules fields edges n e (get nat_cmp found n))

-- a dependency's turn: the folder with which it is read, whether that is of the package that wants it, and
-- its number
abbrev pub Turn : Type 0
Turn = Bor (List ℕ) × Bool × ℕ

-- the dependencies in the order in which they are read, each once
pub record AreInTurn (edges : List Edge) (order : List (Bor (List ℕ) × Bool × ℕ)) : Type 0 where
  pub rises : (i j : ℕ) (s t : Turn) → i < j → slice_get order i ≡ Some s → slice_get order j ≡ Some t
      → IsReadBefore edges s.2 t.2
  pub each : (j : ℕ) (t : Turn) → slice_get order j ≡ Some t → (e : Edge) × (slice_get edges t.2 ≡ Some e)
  pub all : (n : ℕ) (e : Edge) → slice_get edges n ≡ Some e
      → (j : ℕ) × (t : Turn) × (slice_get order j ≡ Some t) × (t.2 ≡ n)
