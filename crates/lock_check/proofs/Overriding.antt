-- The rules of `overrides`.
use Rattle.std.proofs.Common.{true≢false, length-append, ◌<◌, ◌+◌, ◌⊎◌, ◌∙◌, Bool, ap₂, arith, below_more, drop, append_assoc, codes, encode_utf8, false, get_or, if◌then◌else◌, length, refl}
use Rattle.std.proofs.Common.{◌≡◌, ◌∷◌, ◌++◌, [], Global, List, None, Option, Some, String, ap, inl, inr, string_bytes, subst, suc, sym, true, unwrap_or, zero, ℕ}
use Rattle.std.proofs.lemmas.Bool.{eqb-true}
use Rattle.std.proofs.lemmas.List.{append_cancel_right, drop_all, take_all}
use Rattle.std.proofs.lemmas.List.Sums.{passes_at_first, split_at_first}
use Rattle.std.proofs.lemmas.Slice.Eq.{bytes_eq-Decides}
use Rattle.std.proofs.lemmas.Str.{encode_ascii}
use Rattle.std.specs.List.{after_first, before_first, position_or_len}
use Rattle.std.specs.Str.Pattern.{FindsCharSuffix, StripsSuffix}
use Rattle.semver_core.specs.Lists.{is_empty}
use Rattle.semver_core.specs.Text.Characters.{IsTrim}
use Rattle.lock_files.specs.Specifiers.{IsUnsigned, with_sign}
use Rattle.std.specs.Prelude.{◌≢◌, All, IfNone, MatchOption, bytes_eq, is_some, not, option_map, slice_get}
use Rattle.std.specs.Borrow.{Bor}
use Rattle.serde_json.specs.Data.{Data, Members, array, boolean, depth, member, members_depth, no_members, null, number, object}
use Rattle.serde_json.specs.Data.{string}
use Rattle.serde_json.specs.Find.{as_object, get}
use Rattle.serde_json.specs.View.{members_view, view}
use Rattle.serde_json.specs.declared.value.Value.{Value}
use Rattle.lock_files.specs.Faults.{Extends, HasFault, IsFieldFault, OfFields}
use Rattle.lock_check.specs.Internal.Overriding.{AreInsideTold, IsAmongRules, IsFound, IsInside}
use Rattle.lock_check.specs.Internal.Overriding.{IsObject, IsRuleOf, OfPackage, below, whole}
use Rattle.lock_files.specs.Lookups.{IsAt}
use Rattle.lock_check.specs.Malformed.{AreRulesTold, HasOtherRules, IsFault, IsRuleFault}
use Rattle.lock_check.specs.Overrides.{AreRules, HasKey, HasMember, IsKey, IsNoRule}
use Rattle.lock_check.specs.Overrides.{IsRuleFor, inner, is_at, outermost, rule_text}
use Rattle.lock_check.specs.Overrides.{rules_in}
use Rattle.lock_files.specs.declared.fault.Fault.{Fault}
use Rattle.lock_files.specs.declared.fault.Fault.TheVariants as fault
use Rattle.lock_files.specs.declared.lock.Lock.{Lock}
use Rattle.lock_files.proofs.Added.{all-added, fault-added, fault-kept}
use Rattle.lock_files.proofs.Parts.{one_trim}
use Rattle.npm_words.specs.Alternatives.{HasAlternativesIn}
use Rattle.semver_core.specs.Failures.{NoValue}
use Rattle.semver_core.specs.declared.TheConstants.{MAX_SAFE_INTEGER}
use Rattle.lock_files.specs.declared.lock.Package.{Package}
use Rattle.lock_check.specs.declared.overrides.Rule.{Rule}

-- ---- a name and a range in a key

-- a text that has no such end has none with an `@` in front of it
pub no-end : (key behind : List ℕ) → ((front : List ℕ) → key ≢ front ++ behind) → (front : List ℕ)
    → key ≢ front ++ 64 ∷ behind
no-end key behind none front e = none (front ++ 64 ∷ []) (e ∙ sym (append_assoc front (64 ∷ []) behind))

-- nor has one that has it, but no `@` in front of it
no-at : (key behind before : List ℕ) → key ≡ before ++ behind → ((front : List ℕ) → before ≢ front ++ 64 ∷ [])
    → (front : List ℕ) → key ≢ front ++ 64 ∷ behind
no-at key behind before same none front e = none front
    (append_cancel_right before (front ++ 64 ∷ []) behind (sym same ∙ (e ∙ sym (append_assoc front (64 ∷ []) behind))))

pub at-end : (key behind before : List ℕ) (r : Option (Bor (List ℕ))) → key ≡ before ++ behind
    → MatchOption r (FindsCharSuffix 64 before None) (λ x. StripsSuffix (FindsCharSuffix 64) before x.now)
    → IfNone r ((front : List ℕ) → key ≢ front ++ 64 ∷ behind)
unfolding lib.Utf8.encode
at-end key behind before None same none = no-at key behind before same none
at-end key behind before (Some x) same has = tt

signed-append : (is_scoped : Bool) (a b : List ℕ) → with_sign is_scoped (a ++ b) ≡ with_sign is_scoped a ++ b
signed-append true a b = refl
signed-append false a b = refl

-- a key with an `@` behind its front is cut there
key-cut : (key rest : List ℕ) (is_scoped : Bool) → IsUnsigned key is_scoped rest → position_or_len is_at rest < length rest
    → key ≡ with_sign is_scoped (before_first is_at rest) ++ 64 ∷ after_first is_at rest
key-cut key rest is_scoped is within =
    let at : get_or rest (position_or_len is_at rest) 0 ≡ 64 = eqb-true _ 64 (passes_at_first is_at rest 0 within) in
    is.whole ∙ (ap (with_sign is_scoped) (split_at_first is_at rest 0 within)
    ∙ (signed-append is_scoped (before_first is_at rest) _
    ∙ ap (λ c. with_sign is_scoped (before_first is_at rest) ++ c ∷ after_first is_at rest) at))

trim-nil : IsTrim [] []
trim-nil = record {
  before = [];
  characters = [];
  after = [];
  divided = refl;
  middle_is = refl;
  blank_before = refl;
  blank_after = refl;
  begins_dark = refl;
  ends_dark = refl;
}

pub key-bare : (key rest : List ℕ) (is_scoped : Bool) → IsUnsigned key is_scoped rest
    → position_or_len is_at rest ≡ length rest → IsKey key key (codes "*")
key-bare key rest is_scoped is none = (
  is_scoped,
  rest,
  [],
  is,
  is.whole ∙ ap (with_sign is_scoped) (sym (take_all (position_or_len is_at rest) rest (omega (arith, none)))),
  subst (λ t. IsTrim t []) (sym (drop_all (position_or_len is_at rest + 1) rest (omega (arith, none)))) trim-nil,
  refl,
)

pub key-ranged : (key rest name behind middle range : List ℕ) (is_scoped : Bool) → IsUnsigned key is_scoped rest
    → position_or_len is_at rest < length rest → behind ≡ after_first is_at rest → key ≡ name ++ 64 ∷ behind
    → IsTrim behind middle → range ≡ (if is_empty middle then codes "*" else middle) → IsKey key name range
key-ranged key rest name behind middle range is_scoped is within after same trimmed e = (
  is_scoped,
  rest,
  middle,
  is,
  append_cancel_right name _ (64 ∷ after_first is_at rest)
      (ap (λ b. name ++ 64 ∷ b) (sym after) ∙ (sym same ∙ key-cut key rest is_scoped is within)),
  subst (λ b. IsTrim b middle) after trimmed,
  e,
)

-- and so there is a name in it
pub key-named : (key rest behind : List ℕ) (is_scoped : Bool) → IsUnsigned key is_scoped rest
    → position_or_len is_at rest < length rest → behind ≡ after_first is_at rest
    → ¬ ((front : List ℕ) → key ≢ front ++ 64 ∷ behind)
key-named key rest behind is_scoped is within after none = none (with_sign is_scoped (before_first is_at rest))
    (key-cut key rest is_scoped is within ∙ ap (λ b. with_sign is_scoped (before_first is_at rest) ++ 64 ∷ b) (sym after))

-- ---- a key has one name and one range

one_unsigned : (key a b : List ℕ) (x y : Bool) → IsUnsigned key x a → IsUnsigned key y b → (x ≡ y) × (a ≡ b)
one_unsigned key a b true true u v = (refl, ap (drop 1) (sym u.whole ∙ v.whole))
one_unsigned key a b false false u v = (refl, sym u.whole ∙ v.whole)
one_unsigned key a b true false u v = absurd (v.front refl a u.whole)
one_unsigned key a b false true u v = absurd (u.front refl b v.whole)

one_key : (key name range other also : List ℕ) → IsKey key name range → IsKey key other also
    → (name ≡ other) × (range ≡ also)
one_key key name range other also (x, a, m, u, n, t, r) (y, b, k, v, o, s, q) =
    let one = one_unsigned key a b x y u v in
    let middles = one_trim (after_first is_at a) m k t (subst (λ l. IsTrim (after_first is_at l) k) (sym one.1) s) in (
      n ∙ (ap₂ (λ c l. with_sign c (before_first is_at l)) one.0 one.1 ∙ sym o),
      r ∙ (ap (λ l. if is_empty l then codes "*" else l) middles ∙ sym q),
    )

pub one-name : (key : List ℕ) (value : Data) (a b text other : List ℕ) → IsRuleFor key value a text → IsRuleFor key value b other
    → a ≡ b
one-name key value a b text other is so = (one_key key a is.range b so.range is.named so.named).0

-- so it is no rule if the name is empty, or that range is not read, or gives no text with its value
pub no_rule-textless : (key name range : List ℕ) (value : Data) → IsKey key name range → rule_text range value ≡ None
    → IsNoRule key value
no_rule-textless key name range value named none n t is =
    let one = one_key key name range n is.range named is.named in
    let some = subst (λ r. rule_text r value ≡ Some t) (sym one.1) is.is in cc

pub no_rule-unnamed : (key name range : List ℕ) (value : Data) → IsKey key name range → name ≡ [] → IsNoRule key value
no_rule-unnamed key name range value named none n t is =
    is.filled (sym (one_key key name range n is.range named is.named).0 ∙ none)

pub no_rule-unread : (key name range : List ℕ) (value : Data) → IsKey key name range → range ≢ codes "*"
    → NoValue (HasAlternativesIn false MAX_SAFE_INTEGER false range) → IsNoRule key value
no_rule-unread key name range value named other none n t is =
    let same = (one_key key name range n is.range named is.named).1 in
    elim is.read [
      | inl star ↦ other (same ∙ star)
      | inr read ↦ none read.1.alternatives
          (subst (λ r. HasAlternativesIn false MAX_SAFE_INTEGER false r read.1.alternatives) (sym same) read.1.has)
    ]

-- ---- the members of an object

pub has_member : (es : List (String Global × Value)) (n : ℕ) (e : String Global × Value) → slice_get es n ≡ Some e
    → HasMember (members_view es) (string_bytes e.0) (view e.1)
has_member [] n e is = absurd (cc)
has_member (m ∷ es) zero e is =
    let same : m ≡ e = ap (λ o. unwrap_or o m) is in inl (ap (λ p. string_bytes p.0) same, ap (λ p. view p.1) same)
has_member (m ∷ es) (suc n) e is = inr (has_member es n e is)

-- what holds of each entry holds of each member
each-member : (P : List ℕ → Data → Type 0) (es : List (String Global × Value))
    → ((n : ℕ) (e : String Global × Value) → n < length es → slice_get es n ≡ Some e → P (string_bytes e.0) (view e.1))
    → (key : List ℕ) (value : Data) → HasMember (members_view es) key value → P key value
each-member P [] all key value has = absurd has
each-member P (m ∷ es) all key value (inl same) =
    subst (λ k. P k value) same.0 (subst (λ v. P (string_bytes m.0) v) same.1 (all 0 m (omega arith) refl))
each-member P (m ∷ es) all key value (inr more) =
    each-member P es (λ n e lt at. all (suc n) e (omega (arith, lt)) at) key value more

pub rule-made : (root : Option Package) (rules : Members) (name : List ℕ) (value : Data) (r : Rule) → IsObject root rules
    → HasKey rules name value → IsRuleOf name value r → OfPackage root (λ fields. IsAmongRules fields r)
rule-made root rules name value r of has is = (
  of.0,
  of.1,
  (is.0, record { rules = rules; key = name; value = value; among = of.2; has = has; is = is.1 }, is.2),
)

pub object-made : (root : Option Package) (rules inside : Members) (name : List ℕ) (value : Data) (r : Rule) → IsObject root rules
    → HasKey rules name value → IsRuleOf name value r → as_object value ≡ Some inside → IsObject root inside
object-made root rules inside name value r of has is it =
    (of.0, of.1, inner rules inside name value r.name.now is.0 of.2 has is.1 it)

pub fault-made : (lock : Lock) (root : Option Package) (rules : Members) (key : Bor (List ℕ)) (value : Data) → IsAt lock [] root
    → IsObject root rules → HasKey rules key.now value → IsNoRule key.now value → IsFault lock (fault.Override key)
fault-made lock root rules key value at of has none =
    let found = subst (λ r. IsAt lock [] r) of.1 at in
    inr (view of.0.fields.now, found.1, record { rules = rules; value = value; among = of.2; has = has; none = none })

-- an entry of an object is a member of it
pub has-key : (es : List (String Global × Value)) (n : ℕ) (key : String Global) (value : Value) (name : List ℕ)
    → slice_get es n ≡ Some (key, value) → name ≡ string_bytes key → name ≢ codes "." → HasKey (members_view es) name (view value)
has-key es n key value name at same other =
    (subst (λ k. HasMember (members_view es) k (view value)) (sym same) (has_member es n (key, value) at), other)

-- ---- what is malformed inside is told

-- it stands inside the value of one of the rules
record IsBelow (rules found : Members) : Type 0 where
  key : List ℕ
  value : Data
  name : List ℕ
  text : List ℕ
  object : Members
  has : HasKey rules key value
  is : IsRuleFor key value name text
  is_object : as_object value ≡ Some object
  inside : IsInside object found

inside-cases : {rules found : Members} → IsInside rules found → (rules ≡ found) ⊎ IsBelow rules found
inside-cases (whole same) = inl same
inside-cases (below around key value name text within has is it) = elim (inside-cases within) [
  | inl same ↦ inr (record {
    key = key;
    value = value;
    name = name;
    text = text;
    object = _;
    has = subst (λ r. HasKey r key value) (sym same) has;
    is = is;
    is_object = it;
    inside = whole refl;
  })
  | inr by ↦ inr (record {
    key = by.key;
    value = by.value;
    name = by.name;
    text = by.text;
    object = by.object;
    has = by.has;
    is = by.is;
    is_object = by.is_object;
    inside = below around key value name text by.inside has is it;
  })
]

pub found-object : (root : Option Package) (rules : Members) → IsFound root (Some rules) → IsObject root rules
found-object None rules is = absurd (cc)
found-object (Some p) rules is = (p, refl, outermost rules (sym is))

-- what the root project has there and is no object is what is found there
pub other-rules : (lock : Lock) (root : Option Package) (p : Package) (found : Option Data) → IsAt lock [] root → root ≡ Some p
    → found ≡ get (codes "overrides") (view p.fields.now) → OfFields lock [] HasOtherRules
    → (value : Data) × (found ≡ Some value) × (as_object value ≡ None)
other-rules lock None p found at some is has = absurd (cc)
other-rules lock (Some q) p found at some is has =
    let same : p ≡ q = ap (λ o. unwrap_or o q) (sym some) in
    let own : view q.fields.now ≡ has.0 = ap (λ o. unwrap_or o has.0) (sym at.1 ∙ has.1) in (
      has.2.0,
      is ∙ (ap (λ x. get (codes "overrides") (view x.fields.now)) same ∙ (ap (get (codes "overrides")) own ∙ has.2.1)),
      has.2.2,
    )

-- and it is a fault that it is none
others-fault : (lock : Lock) (root : Option Package) (p : Package) (value : Data) (f : Fault) → IsAt lock [] root
    → root ≡ Some p → get (codes "overrides") (view p.fields.now) ≡ Some value → as_object value ≡ None
    → IsFieldFault [] (codes "overrides") f → IsFault lock f
others-fault lock root p value (fault.Field place own) at some is none named =
    let there = subst (λ r. IsAt lock [] r) some at in
    inr (named.0, named.1, (view p.fields.now, there.1, (value, is, none)))
others-fault lock root p value (fault.Range place own) at some is none named = absurd named
others-fault lock root p value fault.Workspaces at some is none named = absurd named
others-fault lock root p value fault.NoRoot at some is none named = absurd named
others-fault lock root p value (fault.Override key) at some is none named = absurd named

pub others-added : (lock : Lock) (root : Option Package) (p : Package) (value : Data) (before after : List Fault) (f : Fault)
    → All (IsFault lock) before → after ≡ before ++ f ∷ [] → IsFieldFault [] (codes "overrides") f → IsAt lock [] root
    → root ≡ Some p → get (codes "overrides") (view p.fields.now) ≡ Some value → as_object value ≡ None
    → All (IsFault lock) after
others-added lock root p value before after f all more named at some is none =
    all-added (IsFault lock) before after f all more (others-fault lock root p value f at some is none named)

-- nor is an object found if none is there
pub no-object : {A B : Type 0} (f : A → B) (r : Option A) (is : Option B) (is_none : Bool) → option_map f r ≡ is
    → is_some r ≡ not is_none → is_none ≡ true → is ≡ None
no-object f None is is_none e some none = sym e
no-object f (Some a) is is_none e some none = absurd (true≢false (some ∙ ap not none))

pub an-object : {A B : Type 0} (f : A → B) (r : Option A) (is : Option B) (is_none : Bool) → option_map f r ≡ is
    → is_some r ≡ not is_none → is_none ≡ false → is ≢ None
an-object f None is is_none e some none = λ _. true≢false (sym (some ∙ ap not none))
an-object f (Some a) is is_none e some none = λ no. let two = e ∙ no in absurd (cc)

rules-some : {root : Data} {rules : Members} → AreRules root rules → (outer : Members) × (rules_in root ≡ Some outer)
rules-some (outermost rules at) = (rules, at)
rules-some (inner rules found key value name text among has it is_it) = rules-some among

-- all objects of rules are inside the outermost
pub all-inside : {root : Data} {rules : Members} (outer : Members) → rules_in root ≡ Some outer → AreRules root rules
    → IsInside outer rules
all-inside outer is (outermost rules at) = whole (ap (λ o. unwrap_or o outer) (sym is ∙ at))
all-inside outer is (inner rules found key value name text among has it is_it) =
    below rules key value name text (all-inside outer is among) has it is_it

pub is-other : (key : List ℕ) (is_dot : Bool) → is_dot ≡ bytes_eq key (codes ".") → is_dot ≡ false → key ≢ codes "."
is-other key is_dot test none same = true≢false (sym ((bytes_eq-Decides key (codes ".")).1 same) ∙ (sym test ∙ none))

pub is-dot : (key : List ℕ) (is_dot : Bool) → is_dot ≡ bytes_eq key (codes ".") → is_dot ≡ true → key ≡ codes "."
is-dot key is_dot test is = (bytes_eq-Decides key (codes ".")).0 (sym test ∙ is)

object-depth : (d : Data) (inside : Members) → as_object d ≡ Some inside → depth d ≡ suc (members_depth inside)
object-depth null inside is = absurd (cc)
object-depth (boolean b) inside is = absurd (cc)
object-depth (number n) inside is = absurd (cc)
object-depth (string s) inside is = absurd (cc)
object-depth (array ds) inside is = absurd (cc)
object-depth (object ms) inside is = ap (λ o. suc (members_depth (unwrap_or o ms))) is

pub less-deep : (rules inside : Members) (key : List ℕ) (value : Data) → HasMember rules key value → as_object value ≡ Some inside
    → members_depth inside < members_depth rules
less-deep no_members inside key value has is = absurd has
less-deep (member k d more) inside key value (inl same) is =
    let deeper = object-depth d inside (ap as_object same.1 ∙ is) in omega arith
less-deep (member k d more) inside key value (inr has) is =
    let deeper = less-deep more inside key value has is in omega arith

-- of a key and its value it is told that they are no rule, and what is malformed inside
pub record IsKeyTold (faults : List Fault) (key : List ℕ) (value : Data) : Type 0 where
  pub own : IsNoRule key value → HasFault faults (IsRuleFault key)
  pub inside : (name text : List ℕ) (object : Members) → IsRuleFor key value name text → as_object value ≡ Some object
      → AreInsideTold faults object

-- a rule is no other thing, and its value may be an object
pub key-told : (faults : List Fault) (key : List ℕ) (value : Data) (r : Rule) → IsRuleOf key value r
    → ((object : Members) → as_object value ≡ Some object → AreInsideTold faults object) → IsKeyTold faults key value
key-told faults key value r is inside = record {
  own = λ none. absurd (none r.name.now is.0 is.1);
  inside = λ name text object it is_object. inside object is_object;
}

-- that it is no rule is added
pub no-rule : (before after : List Fault) (name : Bor (List ℕ)) (key : String Global) (value : Data) → name.now ≡ string_bytes key
    → after ≡ before ++ fault.Override name ∷ [] → IsNoRule name.now value → IsKeyTold after (string_bytes key) value
no-rule before after name key value same more none = record {
  own = λ _. fault-added before after (IsRuleFault (string_bytes key)) (fault.Override name) more same;
  inside = λ n t object is _. absurd (none n t (subst (λ k. IsRuleFor k value n t) (sym same) is));
}

pub inside-kept : (before after : List Fault) (rules : Members) → Extends before after → AreInsideTold before rules
    → AreInsideTold after rules
inside-kept before after rules more told = λ found key value in_it has none.
    fault-kept before after (IsRuleFault key) more (told found key value in_it has none)

-- the same of an entry, but for `.`
abbrev pub IsEntryTold : List (String Global × Value) → List Fault → ℕ → Type 0
IsEntryTold es faults n = (e : String Global × Value) → slice_get es n ≡ Some e → string_bytes e.0 ≢ codes "."
    → IsKeyTold faults (string_bytes e.0) (view e.1)

abbrev pub AreToldUpto : List (String Global × Value) → List Fault → ℕ → Type 0
AreToldUpto es faults n = (i : ℕ) → i < n → IsEntryTold es faults i

pub upto-more : {X : Type 0} (es : List (String Global × Value)) (before after : List Fault) (xs : List X) (x : X)
    (key : String Global) (value : Value) → Extends before after → slice_get es (length xs) ≡ Some (key, value)
    → (string_bytes key ≢ codes "." → IsKeyTold after (string_bytes key) (view value))
    → AreToldUpto es before (length xs) → AreToldUpto es after (length (xs ++ x ∷ []))
upto-more es before after xs x key value more at here all = subst (λ n. AreToldUpto es after n) (sym (length-append xs (x ∷ [])))
    (below_more (IsEntryTold es after) (length xs)
    (λ i lt e is other. let told = all i lt e is other in record {
      own = λ none. fault-kept before after (IsRuleFault (string_bytes e.0)) more (told.own none);
      inside = λ name text object it is_object.
          inside-kept before after object more (told.inside name text object it is_object);
    })
    (λ e is. subst (λ y. string_bytes y.0 ≢ codes "." → IsKeyTold after (string_bytes y.0) (view y.1))
    (ap (λ o. unwrap_or o (key, value)) (sym at ∙ is)) here))

-- what is malformed inside of the outermost object is all that is
pub found-told : (lock : Lock) (root : Option Package) (found : Option Members) (faults : List Fault) → IsAt lock [] root
    → IsFound root found → ((rules : Members) → found ≡ Some rules → AreInsideTold faults rules) → AreRulesTold lock faults
found-told lock None found faults at is told = λ key has. let some = has.1 in absurd (cc)
found-told lock (Some p) found faults at is told = λ key has.
    let own : view p.fields.now ≡ has.0 = ap (λ o. unwrap_or o has.0) (sym at.1 ∙ has.1) in
    let outer = rules-some has.2.among in
    told outer.0 (is ∙ (ap rules_in own ∙ outer.1)) has.2.rules key has.2.value (all-inside outer.0 outer.1 has.2.among)
    has.2.has has.2.none

pub upto-all : (es : List (String Global × Value)) (faults : List Fault) (n : ℕ) → n ≡ length es → AreToldUpto es faults n
    → AreInsideTold faults (members_view es)
upto-all es faults n all_of all = λ found key value in_it has none. elim (inside-cases in_it) [
  | inl same ↦ (told key value (subst (λ r. HasKey r key value) (sym same) has)).own none
  | inr it ↦ (told it.key it.value it.has).inside it.name it.text it.object it.is it.is_object found key value it.inside has none
]
  where
    told : (key : List ℕ) (value : Data) → HasKey (members_view es) key value → IsKeyTold faults key value
    told key value has = each-member (λ k v. k ≢ codes "." → IsKeyTold faults k v) es
        (λ i e lt at. all i (subst (λ m. i < m) (sym all_of) lt) e at) key value has.0 has.1

-- a text that does not begin with an encoded `$` does not begin with its byte
pub no_dollar : (text : List ℕ) → ((rest : List ℕ) → text ≢ encode_utf8 36 ++ rest) → (name : List ℕ)
    → text ≢ 36 ∷ name
no_dollar text none name e = none name (e ∙ ap (λ t. t ++ name) (sym (encode_ascii 36 (omega arith))))
