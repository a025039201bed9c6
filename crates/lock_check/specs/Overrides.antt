-- Statement: what `overrides` of the root project puts in the place of what its packages want.
use Rattle.std.specs.Prelude.{⊤, ◌≡◌, ◌≢◌, ◌⊎◌, ◌==◌, ℕ, Bool, false, true, if◌then◌else◌, List, [], ◌∷◌}
use Rattle.std.specs.Prelude.{Option, Some, None, codes, is_some, option_and_then, unwrap_or}
use Rattle.std.specs.Borrow.{Bor}
use Rattle.std.specs.List.{after_first, before_first, starts_with}
use Rattle.std.specs.Option.{option_or}
use Rattle.npm_reading.specs.Ranges.{IsRangeIn}
use Rattle.nodejs_semver.specs.Cuts.{Span}
use Rattle.nodejs_semver.specs.Ranges.Algebra.{intersection}
use Rattle.nodejs_semver.specs.Versions.{VersionValue}
use Rattle.semver_core.specs.Lists.{is_empty}
use Rattle.semver_core.specs.Text.Characters.{IsTrim}
use Rattle.semver_core.specs.declared.TheConstants.{MAX_SAFE_INTEGER}
use Rattle.serde_json.specs.Data.{Data, Members, member, no_members}
use Rattle.serde_json.specs.Find.{as_object, as_str, get}
use Rattle.lock_files.specs.Lookups.{written_in}
use Rattle.lock_check.specs.Readings.{IsNotWanted, IsWanted}
use Rattle.lock_files.specs.Specifiers.{IsTag, IsUnsigned, with_sign}
use Rattle.lock_files.specs.Wanted.{IsWantedAs}
use Rattle.lock_files.specs.declared.lock.Dependency.{Dependency}
use Rattle.lock_files.specs.declared.lock.Field.TheVariants as field
use Rattle.lock_files.specs.declared.lock.Wanted.{Wanted}
use Rattle.lock_files.specs.declared.lock.Wanted.TheVariants as wanted
use Rattle.lock_files.specs.declared.specifier.Specifier.{Specifier}
use Rattle.lock_files.specs.declared.specifier.Specifier.TheVariants as specifier

-- the object has this member
abbrev pub HasMember : Members → List ℕ → Data → Type 0
HasMember no_members key value = ⊥
HasMember (member k d more) key value = ((k ≡ key) × (d ≡ value)) ⊎ HasMember more key value

abbrev pub is_at : ℕ → Bool
is_at b = b == 64

-- the key of a rule: a name, which may begin with an `@`, up to the next `@`, and a range behind that. Where
-- there is none, or nothing behind it, the range is `*`
abbrev pub IsKey : (key name range : List ℕ) → Type 0
IsKey key name range = (is_scoped : Bool) × (rest middle : List ℕ) × IsUnsigned key is_scoped rest
    × (name ≡ with_sign is_scoped (before_first is_at rest)) × IsTrim (after_first is_at rest) middle
    × (range ≡ (if is_empty middle then codes "*" else middle))

-- the text of a rule: its value; of an object what that has for `.`, and else the range of its key
abbrev pub text_beside : List ℕ → Data → Option Data → Option (List ℕ)
text_beside range value (Some text) = as_str text
text_beside range value None = if is_some (as_object value) then Some range else as_str value

abbrev pub rule_text : List ℕ → Data → Option (List ℕ)
rule_text range value = text_beside range value (get (codes ".") value)

-- the strict reading reads the range of a key
abbrev pub IsReadRange : List ℕ → Type 0
IsReadRange range = (range ≡ codes "*")
    ⊎ ((read : List (Span VersionValue)) × IsRangeIn false MAX_SAFE_INTEGER false range read)

-- a key and its value are a rule for this name with this text
pub record IsRuleFor (key : List ℕ) (value : Data) (name text : List ℕ) : Type 0 where
  pub range : List ℕ
  pub named : IsKey key name range
  pub filled : name ≢ []
  pub read : IsReadRange range
  pub is : rule_text range value ≡ Some text

-- or they are none
abbrev pub IsNoRule : List ℕ → Data → Type 0
IsNoRule key value = (name text : List ℕ) → ¬ (IsRuleFor key value name text)

-- an object has the key of a rule, but for `.`, which is no key of one
abbrev pub HasKey : Members → List ℕ → Data → Type 0
HasKey rules key value = HasMember rules key value × (key ≢ codes ".")

-- the object `overrides` of the root project
abbrev pub rules_in : Data → Option Members
rules_in root = option_and_then as_object (get (codes "overrides") root)

-- an object of rules: that one, or the value of a rule
pub data AreRules (root : Data) : Members → Type 0 where
  outermost : (rules : Members) → rules_in root ≡ Some rules → AreRules root rules
  inner : (rules inside : Members) (key : List ℕ) (value : Data) (name text : List ℕ) → AreRules root rules
      → HasKey rules key value → IsRuleFor key value name text → as_object value ≡ Some inside
      → AreRules root inside

-- a rule for this name has this text
pub record IsRule (root : Data) (name text : List ℕ) : Type 0 where
  pub rules : Members
  pub key : List ℕ
  pub value : Data
  pub among : AreRules root rules
  pub has : HasKey rules key value
  pub is : IsRuleFor key value name text

-- ---- which rules are about a dependency

-- npm reads a range in a text that meets this range, or reads none, and the text is a tag
pub data MayBeIn (own : List (Span VersionValue)) (text : List ℕ) : Type 0 where
  range : (read : List (Span VersionValue)) → IsWanted MAX_SAFE_INTEGER text read
      → is_some (intersection read own) ≡ true → MayBeIn own text
  tag : IsNotWanted MAX_SAFE_INTEGER text → IsTag text → MayBeIn own text

-- what is wanted may be in the range: a text that may, of a registry or of a repository, or any folder or
-- packed package
abbrev pub IsReached : List (Span VersionValue) → Specifier → Type 0
IsReached own (specifier.Range text) = MayBeIn own text.now
IsReached own (specifier.Repository (Some text)) = MayBeIn own text.now
IsReached own (specifier.Repository None) = ⊥
IsReached own specifier.Unsupported = ⊥
IsReached own _ = ⊤

-- what is wanted may be in the range of a key, or it is not; `*` is any range
pub data IsMet (range : List ℕ) (w : Wanted) : Type 0 where
  any : range ≡ codes "*" → IsMet range w
  reached : (own : List (Span VersionValue)) (s : Specifier)
      → IsRangeIn false MAX_SAFE_INTEGER false range own → IsWantedAs w s → IsReached own s → IsMet range w

pub record IsUnmet (range : List ℕ) (w : Wanted) : Type 0 where
  pub other : range ≢ codes "*"
  pub own : List (Span VersionValue)
  pub read : IsRangeIn false MAX_SAFE_INTEGER false range own
  pub s : Specifier
  pub is : IsWantedAs w s
  pub missed : ¬ (IsReached own s)

-- a key and its value are a rule about a dependency: one for its name, with a range that is met
pub record IsAbout (d : Dependency) (key : List ℕ) (value : Data) : Type 0 where
  pub other : key ≢ codes "."
  pub text : List ℕ
  pub is : IsRuleFor key value d.name.now text
  pub met : IsMet is.range d.wanted

-- or they are none about it
pub data IsNotAbout (d : Dependency) (key : List ℕ) (value : Data) : Type 0 where
  dot : key ≡ codes "." → IsNotAbout d key value
  no_rule : IsNoRule key value → IsNotAbout d key value
  another : (name text : List ℕ) → IsRuleFor key value name text → name ≢ d.name.now → IsNotAbout d key value
  unmet : (text : List ℕ) (is : IsRuleFor key value d.name.now text) → IsUnmet is.range d.wanted
      → IsNotAbout d key value

-- of the members of an object the first that is a rule about it
abbrev pub IsFirst : Members → Dependency → List ℕ → Data → Type 0
IsFirst no_members d key value = ⊥
IsFirst (member k v more) d key value = ((k ≡ key) × (v ≡ value) × IsAbout d key value)
    ⊎ (IsNotAbout d k v × IsFirst more d key value)

-- or none is
abbrev pub NoneIsAbout : Members → Dependency → Type 0
NoneIsAbout no_members d = ⊤
NoneIsAbout (member k v more) d = IsNotAbout d k v × NoneIsAbout more d

-- ---- where packages stand in the rules

-- a place in `overrides`: the top, or a rule, which is a key and its value, and stands in another place
pub data Place : Type 0 where
  top : Place
  rule : (around : Place) (key : List ℕ) (value : Data) → Place

-- the rules that are nested in a place
abbrev pub nested_in : Data → Place → Members
nested_in root top = unwrap_or (rules_in root) no_members
nested_in root (rule around key value) = unwrap_or (as_object value) no_members

-- the rule that is found for a dependency from a place: the first of those nested there, else the rule of
-- the place itself, and else what is found from the place around it
pub data IsRuleFound (root : Data) (d : Dependency) : Place → Option Place → Type 0 where
  first : (place : Place) (key : List ℕ) (value : Data) → IsFirst (nested_in root place) d key value
      → IsRuleFound root d place (Some (rule place key value))
  own : (around : Place) (key : List ℕ) (value : Data)
      → NoneIsAbout (nested_in root (rule around key value)) d → IsAbout d key value
      → IsRuleFound root d (rule around key value) (Some (rule around key value))
  outside : (around : Place) (key : List ℕ) (value : Data) (found : Option Place)
      → NoneIsAbout (nested_in root (rule around key value)) d → IsNotAbout d key value
      → IsRuleFound root d around found → IsRuleFound root d (rule around key value) found
  none : NoneIsAbout (nested_in root top) d → IsRuleFound root d top None

-- where a package stands that is meant by a dependency of a package in this place: in the rule that is found,
-- and if there is none, in the same place
abbrev pub IsMeantIn : Data → Dependency → (place meant : Place) → Type 0
IsMeantIn root d place meant =
    (found : Option Place) × IsRuleFound root d place found × (meant ≡ unwrap_or found place)

-- ---- what is put in the place of what is wanted

-- what the root project writes for this name: in the first of these fields with a text that is not empty
abbrev pub some_text : Option (List ℕ) → Option (List ℕ)
some_text (Some []) = None
some_text text = text

abbrev pub referenced : Data → List ℕ → Option (List ℕ)
referenced root name = option_or (some_text (written_in field.Development name root))
    (option_or (some_text (written_in field.Optional name root))
    (option_or (some_text (written_in field.Production name root))
    (some_text (written_in field.Peer name root))))

-- the rule of a place has this text, and is for this name
abbrev pub HasText : Place → (name text : List ℕ) → Type 0
HasText top name text = ⊥
HasText (rule around key value) name text = IsRuleFor key value name text

-- what is put in the place of what is wanted of this name: the text of the rule of the place, but for one
-- that is empty or `*`; or what the root project writes for the name that stands behind a `$` there
pub data IsInPlace (root : Data) (place : Place) (name : List ℕ) : List ℕ → Type 0 where
  said : (text : List ℕ) → HasText place name text → text ≢ [] → text ≢ codes "*"
      → ((other : List ℕ) → text ≢ 36 ∷ other) → IsInPlace root place name text
  referred : (other text : List ℕ) → HasText place name (36 ∷ other) → referenced root other ≡ Some text
      → IsInPlace root place name text

-- what a dependency wants whose package stands in this place: what it did before, where the rule of the place
-- is for another name or puts nothing in its place; or what that puts there; None is a reference to nothing
pub data IsPutBy (root : Data) (place : Place) (d : Dependency) : Option Wanted → Type 0 where
  kept : ((text : List ℕ) → ¬ (HasText place d.name.now text)) → IsPutBy root place d (Some d.wanted)
  nothing : (text : List ℕ) → HasText place d.name.now text → (text ≡ []) ⊎ (text ≡ codes "*")
      → IsPutBy root place d (Some d.wanted)
  put : (text : Bor (List ℕ)) → IsInPlace root place d.name.now text.now
      → IsPutBy root place d (Some (wanted.Override text))
  lost : (other : List ℕ) → HasText place d.name.now (36 ∷ other) → referenced root other ≡ None
      → IsPutBy root place d None

-- rules hold for what the root project wants, and what is installed below it: not for workspaces and other
-- folders outside `node_modules`, and what is installed there
abbrev pub IsOverridden : Dependency → Type 0
IsOverridden d = (d.package.folder.now ≡ [])
    ⊎ (starts_with (λ a b. a == b) d.package.folder.now (codes "node_modules/") ≡ true)
