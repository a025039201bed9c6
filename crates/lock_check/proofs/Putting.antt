-- What a rule puts in the place of what is wanted.
use Rattle.std.proofs.Common.{◌≡◌, ◌⊎◌, ◌∙◌, [], List, None, Option, Some, ap, arith, inl, inr, length, subst, sym, ℕ}
use Rattle.std.specs.Borrow.{Bor}
use Rattle.std.specs.Prelude.{⊤, MatchOption}
use Rattle.std.proofs.lemmas.Option.{slice_get_within}
use Rattle.serde_json.specs.Data.{Data, Members}
use Rattle.serde_json.specs.View.{view}
use Rattle.lock_check.proofs.Laying.{rule-place, top-by-rule, top-place}
use Rattle.lock_check.proofs.Overriding.{one-name}
use Rattle.lock_check.specs.Internal.Overriding.{AreAllLaid, AreLaid, IsChosen, IsRuleAt, IsScopeOf, OfPackage}
use Rattle.lock_check.specs.Internal.Overriding.AreLaid.{laid, nothing as none-laid, passed}
use Rattle.lock_check.specs.Overrides.{HasKey, HasText, IsInPlace, IsKey, IsNoRule, IsPutBy, Place, referenced}
use Rattle.lock_check.specs.Overrides.IsInPlace.{referred, said}
use Rattle.lock_check.specs.Overrides.IsPutBy.{kept, lost, nothing}
use Rattle.lock_check.specs.Replacements.{IsReplacement}
use Rattle.lock_check.specs.Standing.{HasNoRule, IsAfter, IsLockedPacked}
use Rattle.lock_check.specs.Standing.IsAfter.{no_rule, outside, packed, ruled}
use Rattle.lock_files.specs.Lookups.{IsAt}
use Rattle.lock_files.specs.declared.edge.Edge.{Edge}
use Rattle.lock_files.specs.declared.lock.Dependency.{Dependency}
use Rattle.lock_files.specs.declared.lock.Lock.{Lock}
use Rattle.lock_files.specs.declared.lock.Package.{Package}
use Rattle.lock_files.specs.declared.lock.Wanted.{Wanted}
use Rattle.lock_check.specs.declared.overrides.Replacement.{Replacement}
use Rattle.lock_check.specs.declared.overrides.Replacement.TheVariants.{Nothing, Reference, Text}
use Rattle.lock_check.specs.declared.overrides.Rule.{Rule}
use Rattle.lock_check.specs.declared.overrides.Scope.{Scope}

-- ---- the rule of a place

-- it has a text for this name, by what it replaces
abbrev pub HasReplacement : Place → List ℕ → Replacement → Type 0
HasReplacement place name by = (text : List ℕ) × HasText place name text × IsReplacement text by

pub text-of : {rules : List Rule} {s : Scope} {place : Place} (r : Rule) (name : List ℕ) → IsScopeOf rules s place
    → IsRuleAt rules s (Some r) → r.name.now ≡ name → HasReplacement place name r.replacement
text-of r name at is same =
    let q = rule-place r at is in (
      q.of.0,
      subst (λ p. HasText p name q.of.0) (sym q.place_is) (record {
        range = q.of.1.range;
        named = subst (λ n. IsKey q.key n q.of.1.range) same q.of.1.named;
        filled = subst (λ n. n ≡ [] → ⊥) same q.of.1.filled;
        read = q.of.1.read;
        is = q.of.1.is;
      }),
      q.of.2,
    )

pub put-nothing : (root : Data) (place : Place) (d : Dependency) → HasReplacement place d.name.now Nothing
    → IsPutBy root place d (Some d.wanted)
put-nothing root place d of = nothing of.0 of.1 of.2

pub put-text : (root : Data) (place : Place) (d : Dependency) (text : Bor (List ℕ)) → HasReplacement place d.name.now (Text text)
    → IsInPlace root place d.name.now text.now
put-text root place d text of =
    let by : IsReplacement of.0 (Text text) = of.2 in
    subst (IsInPlace root place d.name.now) (sym by.0) (said of.0 of.1 by.1 by.2 by.3)

-- what the root project has for a name
abbrev pub IsReferenced : Option Package → List ℕ → Option (List ℕ) → Type 0
IsReferenced root other found = MatchOption root ⊤ (λ p. found ≡ referenced (view p.fields.now) other)

pub put-referred : (root : Package) (place : Place) (d : Dependency) (other : Bor (List ℕ)) (text : List ℕ)
    → HasReplacement place d.name.now (Reference other) → IsReferenced (Some root) other.now (Some text)
    → IsInPlace (view root.fields.now) place d.name.now text
put-referred root place d other text of found =
    referred other.now text (subst (HasText place d.name.now) of.2 of.1) (sym found)

pub put-lost : (root : Package) (place : Place) (d : Dependency) (other : Bor (List ℕ))
    → HasReplacement place d.name.now (Reference other) → IsReferenced (Some root) other.now None
    → IsPutBy (view root.fields.now) place d None
put-lost root place d other of found = lost other.now (subst (HasText place d.name.now) of.2 of.1) (sym found)

-- it is for another name
pub put-kept : {rules : List Rule} {s : Scope} (root : Data) (place : Place) (d : Dependency) (r : Rule) → IsScopeOf rules s place
    → IsRuleAt rules s (Some r) → (r.name.now ≡ d.name.now → ⊥) → IsPutBy root place d (Some d.wanted)
put-kept root place d r at is other =
    let q = rule-place r at is in
    kept (λ text has. other (one-name q.key q.value r.name.now d.name.now q.of.0 text q.of.1
    (subst (λ p. HasText p d.name.now text) q.place_is has)))

-- there is none
pub put-none : {rules : List Rule} {s : Scope} (root : Data) (place : Place) (d : Dependency) → IsScopeOf rules s place
    → IsRuleAt rules s None → IsPutBy root place d (Some d.wanted)
put-none root place d at is = subst (λ p. IsPutBy root p d (Some d.wanted)) (sym (top-place at (top-by-rule at is)))
    (kept (λ text has. has))

-- ---- what a dependency wants in the end

-- where no rule is kept there is none
no-key : {rules : List Rule} {s : Scope} {at end : ℕ} {m : Members} → rules ≡ [] → AreLaid rules s at end m → (key : List ℕ)
    (value : Data) → HasKey m key value → IsNoRule key value
no-key empty (none-laid s at end same) key value has = absurd has.0
no-key empty (passed s at end k v more over rest) key value (inl same, other) = elim over [
  | inl dot ↦ absurd (other (sym same.0 ∙ dot))
  | inr none ↦ subst (λ x. IsNoRule x value) same.0 (subst (IsNoRule k) same.1 none)
]
no-key empty (passed s at end k v more over rest) key value (inr later, other) = no-key empty rest key value (later, other)
no-key {rules} empty (laid s at middle end k v more r is outer dot of within rest) key value has =
    absurd (let less = slice_get_within rules at r is in omega (arith, ap length empty))

has-no-rule : (lock : Lock) (root : Option Package) (rules : List Rule) → IsAt lock [] root → AreAllLaid root rules → rules ≡ []
    → HasNoRule lock
has-no-rule lock None rules at are empty = inl at
has-no-rule lock (Some p) rules at are empty = inr (p, at, no-key empty are)

-- what is known of the scope of a dependency
abbrev pub IsKnown : Option Package → List Rule → List Edge → ℕ → Edge → Option Scope → Type 0
IsKnown root rules edges n e o = ((rules ≡ []) × (o ≡ None)) ⊎ OfPackage root (λ fields. IsChosen rules fields edges n e o)

pub after-scope : (lock : Lock) (root : Option Package) (rules : List Rule) (edges : List Edge) (n : ℕ) (e : Edge) (s : Scope)
    (w : Option Wanted) → IsAt lock [] root → IsKnown root rules edges n e (Some s)
    → ((p : Package) (place : Place) → root ≡ Some p → IsScopeOf rules s place
    → IsPutBy (view p.fields.now) place e.dependency w) → ¬ (IsLockedPacked lock e) → IsAfter lock edges n e w
after-scope lock root rules edges n e s w at (inl empty) puts loose = absurd (let two = empty.1 in cc)
after-scope lock root rules edges n e s w at (inr (p, is, (holds, (around, stands, (place, is_scope, how))))) puts loose =
    ruled w (record {
      root = p;
      is_root = subst (IsAt lock []) is at;
      holds = holds;
      unpacked = loose;
      around = around;
      stands = stands;
      place = place;
      is_meant = how;
      puts = puts p place is is_scope;
    })

pub after-none : (lock : Lock) (root : Option Package) (rules : List Rule) (edges : List Edge) (n : ℕ) (e : Edge)
    → IsAt lock [] root → AreAllLaid root rules → IsKnown root rules edges n e None
    → IsAfter lock edges n e (Some e.dependency.wanted)
after-none lock root rules edges n e at are (inl empty) = no_rule (has-no-rule lock root rules at are empty.0)
after-none lock root rules edges n e at are (inr (p, is, off)) = outside off

pub after-packed : (lock : Lock) (edges : List Edge) (n : ℕ) (e : Edge) → IsLockedPacked lock e
    → IsAfter lock edges n e (Some e.dependency.wanted)
after-packed lock edges n e is = packed is
