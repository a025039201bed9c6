-- The rules of `overrides` as they are laid out, and which of them is found.
use Rattle.std.proofs.Common.{◌≡◌, ◌≢◌, ◌≤◌, ◌<◌, ◌+◌, ◌⊎◌, ◌∙◌, [], List, None, Option, Some, ap, arith, codes, false, inl, inr, length, refl}
use Rattle.std.proofs.Common.{subst, suc, sym, true, unwrap_or, ℕ}
use Rattle.std.proofs.Common.{◌∷◌, ◌++◌, Global, String, append_assoc, drop, length-append, string_bytes}
use Rattle.std.proofs.Math.Seq.{drop-cons, get_or-append_seam}
use Rattle.std.proofs.lemmas.Bool.{cases_lt, cases_order}
use Rattle.std.proofs.lemmas.List.{drop_all}
use Rattle.std.proofs.lemmas.Option.{get_or_from_slice_get, slice_get_read, slice_get_within}
use Rattle.std.specs.Prelude.{⊤, slice_get}
use Rattle.nodejs_semver.specs.Cuts.{Span}
use Rattle.nodejs_semver.specs.Versions.{VersionValue}
use Rattle.serde_json.specs.Data.{Data, Members, member, no_members}
use Rattle.serde_json.specs.Find.{as_object}
use Rattle.serde_json.specs.View.{members_view, view}
use Rattle.serde_json.specs.declared.value.Value.{Value}
use Rattle.lock_files.proofs.Added.{extends-on}
use Rattle.lock_files.specs.Faults.{Extends}
use Rattle.lock_check.specs.Internal.Overriding.{AreAllLaid, AreLaid, IsAboutIf, IsFirstHit, IsFound, IsHit, IsMiss, IsMissedBy}
use Rattle.lock_check.specs.Internal.Overriding.{IsFoundScope, IsInnerScope, IsOwnRange, IsReachedBy, IsRuleAt, IsRuleOf, IsScopeOf}
use Rattle.lock_check.specs.Internal.Overriding.AreLaid.{laid, nothing, passed}
use Rattle.lock_check.specs.Internal.Overriding.IsScopeOf.{at_top, in_rule}
use Rattle.lock_check.specs.Overrides.{IsAbout, IsFirst, IsKey, IsMet, IsNoRule, IsNotAbout, IsRuleFound, IsUnmet, NoneIsAbout, Place}
use Rattle.lock_check.specs.Overrides.{nested_in}
use Rattle.lock_check.specs.Overrides.{IsRuleFound as step}
use Rattle.lock_check.specs.Overrides.IsMet.{any, reached}
use Rattle.lock_check.specs.Overrides.IsNotAbout.{another, dot, no_rule, unmet}
use Rattle.lock_check.specs.Overrides.Place.{rule, top}
use Rattle.lock_files.specs.declared.lock.Dependency.{Dependency}
use Rattle.lock_files.specs.declared.lock.Package.{Package}
use Rattle.lock_files.specs.declared.lock.Wanted.{Wanted}
use Rattle.lock_check.specs.declared.overrides.Rule.{Rule}
use Rattle.lock_check.specs.declared.overrides.Scope.{Scope}
use Rattle.lock_check.specs.declared.overrides.Scope.TheVariants as scope

-- ---- a rule is about a dependency as its key and value are

met-of : (range : List ℕ) (o : Option (List (Span VersionValue))) (w : Wanted) → IsOwnRange range o → IsReachedBy o w
    → IsMet range w
met-of range None w is how = any is
met-of range (Some own) w is how = reached own how.0 is.1 how.1 how.2

unmet-of : (range : List ℕ) (o : Option (List (Span VersionValue))) (w : Wanted) → IsOwnRange range o → IsMissedBy o w
    → IsUnmet range w
unmet-of range None w is how = absurd how
unmet-of range (Some own) w is how = record { other = is.0; own = own; read = is.1; s = how.0; is = how.1; missed = how.2 }

pub about-of : (d : Dependency) (key : List ℕ) (value : Data) (r : Rule) → IsRuleOf key value r → key ≢ codes "."
    → IsAboutIf d r true → IsAbout d key value
about-of d key value r of other how = record {
  other = other;
  text = of.0;
  is = record {
    range = of.1.range;
    named = subst (λ n. IsKey key n of.1.range) how.0 of.1.named;
    filled = subst (λ n. n ≢ []) how.0 of.1.filled;
    read = of.1.read;
    is = of.1.is;
  };
  met = met-of of.1.range r.range d.wanted of.3 how.1;
}

pub not-about-of : (d : Dependency) (key : List ℕ) (value : Data) (r : Rule) → IsRuleOf key value r → IsAboutIf d r false
    → IsNotAbout d key value
not-about-of d key value r of (inl ne) = another r.name.now of.0 of.1 ne
not-about-of d key value r of (inr how) = unmet of.0 (record {
  range = of.1.range;
  named = subst (λ n. IsKey key n of.1.range) how.0 of.1.named;
  filled = subst (λ n. n ≢ []) how.0 of.1.filled;
  read = of.1.read;
  is = of.1.is;
}) (unmet-of of.1.range r.range d.wanted of.3 how.1)

passed-over : (d : Dependency) (key : List ℕ) (value : Data) → (key ≡ codes ".") ⊎ IsNoRule key value → IsNotAbout d key value
passed-over d key value (inl same) = dot same
passed-over d key value (inr none) = no_rule none

-- ---- where the rules of an object stand

one-rule : (rules : List Rule) (n : ℕ) (a b : Rule) → slice_get rules n ≡ Some a → slice_get rules n ≡ Some b → a ≡ b
one-rule rules n a b is so = ap (λ o. unwrap_or o a) (sym is ∙ so)

pub laid-up : {rules : List Rule} {s : Scope} {at end : ℕ} {m : Members} → AreLaid rules s at end m → at ≤ end
laid-up (nothing s at end same) = omega arith
laid-up (passed s at end key value more over rest) = laid-up rest
laid-up (laid s at middle end key value more r is outer other of within rest) =
    let a = laid-up within in let b = laid-up rest in omega arith

-- in a scope, or in a rule of these
abbrev IsWithin : Scope → (at i : ℕ) → Scope → Type 0
IsWithin s at i o = (o ≡ s) ⊎ ((j : ℕ) × (at ≤ j) × (j < i) × (o ≡ scope.Rule j))

within-later : (s o : Scope) (at later i : ℕ) → at ≤ later → IsWithin s later i o → IsWithin s at i o
within-later s o at later i up (inl same) = inl same
within-later s o at later i up (inr (j, low, high, same)) = inr (j, omega arith, high, same)

pub laid-within : {rules : List Rule} {s : Scope} {at end : ℕ} {m : Members} → AreLaid rules s at end m → (i : ℕ) (r : Rule)
    → at ≤ i → i < end → slice_get rules i ≡ Some r → IsWithin s at i r.outer
laid-within (nothing s at end same) i r low high is = absurd (omega arith)
laid-within (passed s at end key value more over rest) i r low high is = laid-within rest i r low high is
laid-within {rules} (laid s at middle end key value more own is outer other of within rest) i r low high here =
    elim (cases_lt i middle) [
      | inl below ↦ elim (cases_order at i) [
        | inl same ↦ inl (ap (λ x. x.outer)
            (one-rule rules i r own here (subst (λ n. slice_get rules n ≡ Some own) same is)) ∙ outer)
        | inr (inl above) ↦ elim (laid-within within i r (omega arith) below here) [
          | inl nested ↦ inr (at, omega arith, above, nested)
          | inr (j, up, down, nested) ↦ inr (j, omega arith, down, nested)
        ]
        | inr (inr under) ↦ absurd (omega arith)
      ]
      | inr above ↦ let up = laid-up within in within-later s r.outer at middle i (omega arith) (laid-within rest i r above high here)
    ]

-- the scope was there before
abbrev IsOld : Scope → ℕ → Type 0
IsOld scope.Top at = ⊤
IsOld (scope.Rule k) at = k < at

old-later : (s : Scope) (at later : ℕ) → at ≤ later → IsOld s at → IsOld s later
old-later scope.Top at later up old = tt
old-later (scope.Rule k) at later up old = omega arith

old-other : (s : Scope) (at j : ℕ) → IsOld s at → at ≤ j → s ≢ scope.Rule j
old-other scope.Top at j old up same = absurd (cc)
old-other (scope.Rule k) at j old up same = let is : k ≡ j = cc in omega (arith, is)

-- ---- the first rule in a scope

-- a rule of these members, with what is nested in it
record IsHere (rules : List Rule) (n end : ℕ) (d : Dependency) (m : Members) : Type 0 where
  key : List ℕ
  value : Data
  r : Rule
  middle : ℕ
  first : IsFirst m d key value
  at : slice_get rules n ≡ Some r
  of : IsRuleOf key value r
  other : key ≢ codes "."
  within : AreLaid rules (scope.Rule n) (n + 1) middle (unwrap_or (as_object value) no_members)
  up : middle ≤ end
  closed : (i j : ℕ) (r : Rule) → middle ≤ i → i < end → slice_get rules i ≡ Some r → n ≤ j → j < middle
      → r.outer ≢ scope.Rule j

here-more : {rules : List Rule} {n end : ℕ} {d : Dependency} {m : Members} (key : List ℕ) (value : Data)
    → IsNotAbout d key value → IsHere rules n end d m → IsHere rules n end d (member key value m)
here-more key value none h = record {
  key = h.key;
  value = h.value;
  r = h.r;
  middle = h.middle;
  first = inr (none, h.first);
  at = h.at;
  of = h.of;
  other = h.other;
  within = h.within;
  up = h.up;
  closed = h.closed;
}

-- what is laid behind does not stand in it
closed-behind : {rules : List Rule} {s : Scope} {middle end : ℕ} {m : Members} (n : ℕ) → AreLaid rules s middle end m → IsOld s n
    → (i j : ℕ) (r : Rule) → middle ≤ i → i < end → slice_get rules i ≡ Some r → n ≤ j → j < middle → r.outer ≢ scope.Rule j
closed-behind {s = s} n rest old i j r low high is up down same = elim (laid-within rest i r low high is) [
  | inl outer ↦ old-other s n j old up (sym outer ∙ same)
  | inr (k, above, below, outer) ↦ old-other (scope.Rule j) (j + 1) k (omega arith) (omega arith) (sym same ∙ outer)
]

-- no rule that is nested deeper stands in an older scope
deeper : {rules : List Rule} {m : Members} {middle : ℕ} (s : Scope) (at n : ℕ) (r : Rule) → AreLaid rules (scope.Rule at) (at + 1) middle m
    → IsOld s at → at < n → n < middle → slice_get rules n ≡ Some r → r.outer ≢ s
deeper s at n r within old low high is same = elim (laid-within within n r (omega arith) high is) [
  | inl outer ↦ old-other s at at old (omega arith) (sym same ∙ outer)
  | inr (j, up, down, outer) ↦ old-other s at j old (omega arith) (sym same ∙ outer)
]

missed-of : (s : Scope) (d : Dependency) (r : Rule) → r.outer ≡ s → IsMiss s d r → IsAboutIf d r false
missed-of s d r is (inl other) = absurd (other is)
missed-of s d r is (inr missed) = missed

first-laid : {rules : List Rule} {s : Scope} {at end : ℕ} {m : Members} → AreLaid rules s at end m → IsOld s at → (d : Dependency)
    (n : ℕ) (r : Rule) → at ≤ n → n < end → slice_get rules n ≡ Some r → IsHit s d r
    → ((i : ℕ) (q : Rule) → i < n → slice_get rules i ≡ Some q → IsMiss s d q) → IsHere rules n end d m
first-laid (nothing s at end same) old d n r low high is hit none = absurd (omega arith)
first-laid (passed s at end key value more over rest) old d n r low high is hit none =
    here-more key value (passed-over d key value over) (first-laid rest old d n r low high is hit none)
first-laid {rules} (laid s at middle end key value more own is outer other of within rest) old d n r low high here hit none =
    elim (cases_order at n) [
      | inl same ↦
          let own-here : slice_get rules n ≡ Some own = subst (λ k. slice_get rules k ≡ Some own) same is in
          let one : r ≡ own = one-rule rules n r own here own-here in record {
            key = key;
            value = value;
            r = own;
            middle = middle;
            first = inl (refl, refl, about-of d key value own of other (subst (λ q. IsAboutIf d q true) one hit.1));
            at = own-here;
            of = of;
            other = other;
            within = subst (λ k. AreLaid rules (scope.Rule k) (k + 1) middle (unwrap_or (as_object value) no_members)) same within;
            up = laid-up rest;
            closed = closed-behind n rest (subst (IsOld s) same old);
          }
      | inr (inl above) ↦ elim (cases_lt n middle) [
        | inl below ↦ absurd (deeper s at n r within old above below here hit.0)
        | inr behind ↦ let up = laid-up within in
            here-more key value (not-about-of d key value own of (missed-of s d own outer (none at own above is)))
            (first-laid rest (old-later s at middle (omega arith) old) d n r behind high here hit none)
      ]
      | inr (inr under) ↦ absurd (omega arith)
    ]

none-laid : {rules : List Rule} {s : Scope} {at end : ℕ} {m : Members} → AreLaid rules s at end m → (d : Dependency)
    → ((i : ℕ) (q : Rule) → slice_get rules i ≡ Some q → IsMiss s d q) → NoneIsAbout m d
none-laid (nothing s at end same) d none = tt
none-laid (passed s at end key value more over rest) d none = (passed-over d key value over, none-laid rest d none)
none-laid (laid s at middle end key value more own is outer other of within rest) d none =
    (not-about-of d key value own of (missed-of s d own outer (none at own is)), none-laid rest d none)

-- ---- in all rules of the root project

-- a scope that such a rule makes
here-scope : (rules : List Rule) (n end : ℕ) (d : Dependency) (m : Members) (p : Place) (s : Scope) (r : Rule) → IsScopeOf rules s p
    → slice_get rules n ≡ Some r → r.outer ≡ s → (h : IsHere rules n end d m)
    → ((i j : ℕ) (r : Rule) → end ≤ i → slice_get rules i ≡ Some r → n ≤ j → j < end → r.outer ≢ scope.Rule j)
    → IsScopeOf rules (scope.Rule n) (rule p h.key h.value)
here-scope rules n end d m p s r at is outer h beyond = in_rule n h.middle h.r p h.key h.value h.at h.of h.other
    (subst (λ q. IsScopeOf rules q.outer p) (one-rule rules n r h.r is h.at) (subst (λ o. IsScopeOf rules o p) (sym outer) at)) h.within
    (λ i j q low here from to. elim (cases_lt i end) [
      | inl less ↦ h.closed i j q low less here from to
      | inr more ↦ let up = h.up in beyond i j q more here from (omega arith)
    ])

pub first-found : (root : Package) (rules : List Rule) (s : Scope) (p : Place) (d : Dependency) (n : ℕ) → AreAllLaid (Some root) rules
    → IsScopeOf rules s p → IsFirstHit rules s d (Some n)
    → (key : List ℕ) × (value : Data) × IsFirst (nested_in (view root.fields.now) p) d key value
    × IsScopeOf rules (scope.Rule n) (rule p key value)
first-found root rules s p d n all at_top (hit, none) =
    let r = hit.0 in
    let below = slice_get_within rules n r hit.1 in
    let h = first-laid all tt d n r (omega arith) below hit.1 hit.2 none in (
      h.key,
      h.value,
      h.first,
      here-scope rules n (length rules) d (nested_in (view root.fields.now) top) top scope.Top r at_top hit.1 hit.2.0 h
          (λ i j q more here from to same. let under = slice_get_within rules i q here in omega arith),
    )
first-found root rules s p d n all (in_rule k end own around key value is of other out within closed) (hit, none) =
    let r = hit.0 in
    let below = slice_get_within rules n r hit.1 in
    let up : k < n = elim (laid-within all n r (omega arith) below hit.1) [
      | inl top-one ↦ absurd (let bad : scope.Rule k ≡ scope.Top = sym hit.2.0 ∙ top-one in cc)
      | inr (j, low, high, same) ↦ let bad : scope.Rule k ≡ scope.Rule j = sym hit.2.0 ∙ same in let one : k ≡ j = cc in omega (arith, one)
    ] in
    let risen = laid-up within in
    let down : n < end = elim (cases_lt n end) [
      | inl less ↦ less
      | inr more ↦ absurd (closed n k r more hit.1 (omega arith) (omega arith) hit.2.0)
    ] in
    let h = first-laid within (omega arith) d n r (omega arith) down hit.1 hit.2 none in (
      h.key,
      h.value,
      h.first,
      here-scope rules n end d (nested_in (view root.fields.now) (rule around key value)) (rule around key value) (scope.Rule k) r
          (in_rule k end own around key value is of other out within closed) hit.1 hit.2.0 h
          (λ i j q more here from to. closed i j q more here (omega arith) to),
    )

pub none-found : (root : Package) (rules : List Rule) (s : Scope) (p : Place) (d : Dependency) → AreAllLaid (Some root) rules
    → IsScopeOf rules s p → IsFirstHit rules s d None → NoneIsAbout (nested_in (view root.fields.now) p) d
none-found root rules s p d all at_top none = none-laid all d none
none-found root rules s p d all (in_rule k end own around key value is of other out within closed) none = none-laid within d none

-- ---- they are laid out so

-- once the rest of the members are laid, all are
abbrev pub IsLaidUpto : List (String Global × Value) → Scope → ℕ → List Rule → ℕ → Type 0
IsLaidUpto es s start rules n = (all : List Rule) → Extends rules all → (end : ℕ)
    → AreLaid all s (length rules) end (members_view (drop n es)) → AreLaid all s start end (members_view es)

pub upto-none : (es : List (String Global × Value)) (s : Scope) (rules : List Rule) → IsLaidUpto es s (length rules) rules 0
upto-none es s rules all more end rest = subst (λ l. AreLaid all s (length rules) end (members_view l)) drop_zero rest
  where
    drop_zero : drop 0 es ≡ es
    drop_zero = refl

drop-entry : (es : List (String Global × Value)) (n : ℕ) (e : String Global × Value) → slice_get es n ≡ Some e
    → members_view (drop n es) ≡ member (string_bytes e.0) (view e.1) (members_view (drop (suc n) es))
drop-entry es n e is = ap members_view (drop-cons es n e (slice_get_within es n e is)
    ∙ ap (λ x. x ∷ drop (suc n) es) (get_or_from_slice_get es n e e is))

next : {X : Type 0} (xs : List X) (x : X) → length (xs ++ x ∷ []) ≡ suc (length xs)
next xs x = omega (arith, length-append xs (x ∷ []))

pub upto-passed : {X : Type 0} (es : List (String Global × Value)) (s : Scope) (start : ℕ) (rules : List Rule) (xs : List X) (x : X)
    (key : String Global) (value : Value) → slice_get es (length xs) ≡ Some (key, value)
    → (string_bytes key ≡ codes ".") ⊎ IsNoRule (string_bytes key) (view value)
    → IsLaidUpto es s start rules (length xs) → IsLaidUpto es s start rules (length (xs ++ x ∷ []))
upto-passed es s start rules xs x key value at over before all more end rest = before all more end
    (subst (AreLaid all s (length rules) end) (sym (drop-entry es (length xs) (key, value) at))
    (passed s (length rules) end (string_bytes key) (view value) (members_view (drop (suc (length xs)) es)) over
    (subst (λ n. AreLaid all s (length rules) end (members_view (drop n es))) (next xs x) rest)))

get-seam : (xs : List Rule) (y : Rule) (ys : List Rule) → slice_get (xs ++ y ∷ ys) (length xs) ≡ Some y
get-seam xs y ys = slice_get_read (xs ++ y ∷ ys) (length (xs ++ y ∷ ys)) (length xs) y refl
    (omega (arith, length-append xs (y ∷ ys))) (sym (get_or-append_seam xs y ys y))

extends-at : (before all : List Rule) (r : Rule) → Extends (before ++ r ∷ []) all → slice_get all (length before) ≡ Some r
extends-at before all r more = subst (λ l. slice_get l (length before) ≡ Some r)
    (sym (more.1 ∙ append_assoc before (r ∷ []) more.0)) (get-seam before r more.0)

-- what is nested in a rule is laid behind it
abbrev pub IsLaidBehind : (before after : List Rule) → Members → Type 0
IsLaidBehind before after inside = (all : List Rule) → Extends after all
    → AreLaid all (scope.Rule (length before)) (suc (length before)) (length after) inside

pub upto-rule : {X : Type 0} (es : List (String Global × Value)) (s : Scope) (start : ℕ) (before pushed after : List Rule) (xs : List X)
    (x : X) (key : String Global) (value : Value) (r : Rule) → slice_get es (length xs) ≡ Some (key, value)
    → pushed ≡ before ++ r ∷ [] → Extends pushed after → r.outer ≡ s → string_bytes key ≢ codes "."
    → IsRuleOf (string_bytes key) (view value) r
    → IsLaidBehind before after (unwrap_or (as_object (view value)) no_members)
    → IsLaidUpto es s start before (length xs) → IsLaidUpto es s start after (length (xs ++ x ∷ []))
upto-rule es s start before pushed after xs x key value r at same more outer other of behind upto all ext end rest =
    let begun : Extends (before ++ r ∷ []) after = subst (λ l. Extends l after) same more in
    let long : Extends (before ++ r ∷ []) all = extends-on (before ++ r ∷ []) after all begun ext in
    upto all ((r ∷ []) ++ long.0, long.1 ∙ append_assoc before (r ∷ []) long.0) end
    (subst (AreLaid all s (length before) end) (sym (drop-entry es (length xs) (key, value) at))
    (laid s (length before) (length after) end (string_bytes key) (view value) (members_view (drop (suc (length xs)) es)) r
    (extends-at before all r long) outer other of
    (subst (λ n. AreLaid all (scope.Rule (length before)) n (length after) (unwrap_or (as_object (view value)) no_members))
    (omega arith) (behind all ext))
    (subst (λ n. AreLaid all s (length after) end (members_view (drop n es))) (next xs x) rest)))

-- nothing is nested in it
pub behind-none : (before pushed : List Rule) (r : Rule) (value : Data) → pushed ≡ before ++ r ∷ [] → as_object value ≡ None
    → IsLaidBehind before pushed (unwrap_or (as_object value) no_members)
behind-none before pushed r value same none all ext =
    subst (λ o. AreLaid all (scope.Rule (length before)) (suc (length before)) (length pushed) (unwrap_or o no_members)) (sym none)
    (nothing (scope.Rule (length before)) (suc (length before)) (length pushed) (sym (ap length same ∙ next before r)))

-- what is, is laid so
pub behind-some : (before pushed after : List Rule) (r : Rule) (value : Data) (inside : Members) → pushed ≡ before ++ r ∷ []
    → as_object value ≡ Some inside
    → ((all : List Rule) → Extends after all → AreLaid all (scope.Rule (length before)) (length pushed) (length after) inside)
    → IsLaidBehind before after (unwrap_or (as_object value) no_members)
behind-some before pushed after r value inside same some nested all ext =
    subst (λ o. AreLaid all (scope.Rule (length before)) (suc (length before)) (length after) (unwrap_or o no_members)) (sym some)
    (subst (λ n. AreLaid all (scope.Rule (length before)) n (length after) inside) (ap length same ∙ next before r) (nested all ext))

pub upto-end : (es : List (String Global × Value)) (s : Scope) (start : ℕ) (rules : List Rule) (n : ℕ) → n ≡ length es
    → IsLaidUpto es s start rules n → (all : List Rule) → Extends rules all → AreLaid all s start (length rules) (members_view es)
upto-end es s start rules n end upto all more = upto all more (length rules)
    (subst (λ l. AreLaid all s (length rules) (length rules) (members_view l)) (sym (drop_all n es (omega (arith, end))))
    (nothing s (length rules) (length rules) refl))

-- ---- those of the root project

pub laid-none : (root : Option Package) (rules : List Rule) → rules ≡ [] → IsFound root None → AreAllLaid root rules
laid-none None rules same is = same
laid-none (Some p) rules same is =
    subst (λ o. AreLaid rules scope.Top 0 (length rules) (unwrap_or o no_members)) is
    (nothing scope.Top 0 (length rules) (sym (ap length same)))

pub laid-some : (root : Option Package) (before rules : List Rule) (outer : Members) → before ≡ [] → IsFound root (Some outer)
    → AreLaid rules scope.Top (length before) (length rules) outer → AreAllLaid root rules
laid-some None before rules outer same is all = absurd (cc)
laid-some (Some p) before rules outer same is all =
    subst (λ o. AreLaid rules scope.Top 0 (length rules) (unwrap_or o no_members)) is
    (subst (λ l. AreLaid rules scope.Top (length l) (length rules) outer) same all)

-- ---- what is found on the way outwards

-- how many scopes there are at most, from this one outwards
abbrev pub depth_of : Scope → ℕ
depth_of scope.Top = 0
depth_of (scope.Rule n) = suc n

-- after so many steps a scope is reached: what is found from it is found from the place too
pub record IsBefore (rules : List Rule) (root : Data) (d : Dependency) (place : Place) (around : Scope) (steps : ℕ) : Type 0 where
  pub outer : Place
  pub is : IsScopeOf rules around outer
  pub so : (found : Option Place) → IsRuleFound root d outer found → IsRuleFound root d place found
  pub short : depth_of around + steps ≤ length rules

scope-depth : {rules : List Rule} {s : Scope} {p : Place} → IsScopeOf rules s p → depth_of s ≤ length rules
scope-depth at_top = omega arith
scope-depth {rules} (in_rule k end own around key value is of other out within closed) =
    let below = slice_get_within rules k own is in omega arith

pub before-first : (rules : List Rule) (root : Data) (d : Dependency) (place : Place) (s : Scope) → IsScopeOf rules s place
    → IsBefore rules root d place s 0
before-first rules root d place s is = record {
  outer = place;
  is = is;
  so = λ found how. how;
  short = let a = scope-depth is in omega arith;
}

outer-less : (root : Package) (rules : List Rule) (n : ℕ) (r : Rule) → AreAllLaid (Some root) rules → slice_get rules n ≡ Some r
    → depth_of r.outer ≤ n
outer-less root rules n r all is = elim (laid-within all n r (omega arith) (slice_get_within rules n r is) is) [
  | inl same ↦ subst (λ o. depth_of o ≤ n) (sym same) (omega arith)
  | inr (j, low, high, same) ↦ subst (λ o. depth_of o ≤ n) (sym same) (omega arith)
]

-- the rule of a scope, and where that stands
pub record IsRulePlace (rules : List Rule) (s : Scope) (p : Place) (r : Rule) : Type 0 where
  pub n : ℕ
  pub around : Place
  pub key : List ℕ
  pub value : Data
  pub scope_is : s ≡ scope.Rule n
  pub place_is : p ≡ rule around key value
  pub at : slice_get rules n ≡ Some r
  pub of : IsRuleOf key value r
  pub other : key ≢ codes "."
  pub out : IsScopeOf rules r.outer around

pub rule-place : {rules : List Rule} {s : Scope} {p : Place} (r : Rule) → IsScopeOf rules s p → IsRuleAt rules s (Some r)
    → IsRulePlace rules s p r
rule-place r at_top at = absurd (cc)
rule-place {rules} r (in_rule n end own around key value is of other out within closed) at =
    let one : own ≡ r = one-rule rules n own r is (sym at) in record {
      n = n;
      around = around;
      key = key;
      value = value;
      scope_is = refl;
      place_is = refl;
      at = sym at;
      of = subst (IsRuleOf key value) one of;
      other = other;
      out = subst (λ q. IsScopeOf rules q.outer around) one out;
    }

-- one step outwards
pub before-more : (root : Package) (rules : List Rule) (d : Dependency) (place : Place) (s : Scope) (steps : ℕ) (r : Rule)
    → AreAllLaid (Some root) rules → IsBefore rules (view root.fields.now) d place s steps → IsRuleAt rules s (Some r)
    → IsFirstHit rules s d None → IsAboutIf d r false → IsBefore rules (view root.fields.now) d place r.outer (steps + 1)
before-more root rules d place s steps r all h at none missed =
    let root' = view root.fields.now in
    let q = rule-place r h.is at in
    let depth : depth_of s ≡ suc q.n = ap depth_of q.scope_is in
    let less = outer-less root rules q.n r all q.at in
    let short = h.short in record {
      outer = q.around;
      is = q.out;
      so = λ found how. h.so found (subst (λ p. IsRuleFound root' d p found) (sym q.place_is)
          (step.outside q.around q.key q.value found
          (subst (λ p. NoneIsAbout (nested_in root' p) d) q.place_is (none-found root rules s h.outer d all h.is none))
          (not-about-of d q.key q.value r q.of missed) how));
      short = omega arith;
    }

-- the rule of the scope is about it
pub own-found : (root : Package) (rules : List Rule) (d : Dependency) (place : Place) (s : Scope) (steps : ℕ) (r : Rule)
    → AreAllLaid (Some root) rules → IsBefore rules (view root.fields.now) d place s steps → IsRuleAt rules s (Some r)
    → IsFirstHit rules s d None → IsAboutIf d r true → IsFoundScope rules (view root.fields.now) d place (Some s)
own-found root rules d place s steps r all h at none hit =
    let root' = view root.fields.now in
    let q = rule-place r h.is at in
    let here = rule q.around q.key q.value in (
      here,
      subst (IsScopeOf rules s) q.place_is h.is,
      h.so (Some here) (subst (λ p. IsRuleFound root' d p (Some here)) (sym q.place_is)
          (step.own q.around q.key q.value
          (subst (λ p. NoneIsAbout (nested_in root' p) d) q.place_is (none-found root rules s h.outer d all h.is none))
          (about-of d q.key q.value r q.of q.other hit))),
    )

-- a rule that is nested in it is
pub nested-found : (root : Package) (rules : List Rule) (d : Dependency) (place : Place) (s : Scope) (steps n : ℕ)
    → AreAllLaid (Some root) rules → IsBefore rules (view root.fields.now) d place s steps → IsFirstHit rules s d (Some n)
    → IsFoundScope rules (view root.fields.now) d place (Some (scope.Rule n))
nested-found root rules d place s steps n all h hit =
    let f = first-found root rules s h.outer d n all h.is hit in
    (rule h.outer f.0 f.1, f.3, h.so (Some (rule h.outer f.0 f.1)) (step.first h.outer f.0 f.1 f.2))

pub top-place : {rules : List Rule} {s : Scope} {p : Place} → IsScopeOf rules s p → s ≡ scope.Top → p ≡ top
top-place at_top same = refl
top-place (in_rule n end own around key value is of other out within closed) same = absurd (cc)

-- a scope without a rule is the top, and so is one after all steps
pub top-by-rule : {rules : List Rule} {s : Scope} {p : Place} → IsScopeOf rules s p → IsRuleAt rules s None → s ≡ scope.Top
top-by-rule at_top at = refl
top-by-rule (in_rule n end own around key value is of other out within closed) at = absurd (cc)

pub top-by-depth : (s : Scope) → depth_of s ≡ 0 → s ≡ scope.Top
top-by-depth scope.Top none = refl
top-by-depth (scope.Rule n) none = absurd (omega (arith, none))

-- none is, and there is nothing around it
pub nothing-found : (root : Package) (rules : List Rule) (d : Dependency) (place : Place) (s : Scope) (steps : ℕ)
    → AreAllLaid (Some root) rules → IsBefore rules (view root.fields.now) d place s steps → s ≡ scope.Top
    → IsFirstHit rules scope.Top d None → IsFoundScope rules (view root.fields.now) d place None
nothing-found root rules d place s steps all h same none =
    let root' = view root.fields.now in
    let is = top-place h.is same in
    h.so None (subst (λ p. IsRuleFound root' d p None) (sym is)
    (step.none (subst (λ p. NoneIsAbout (nested_in root' p) d) is
    (none-found root rules scope.Top h.outer d all (subst (λ t. IsScopeOf rules t h.outer) same h.is) none))))

pub nested-found-top : (root : Package) (rules : List Rule) (d : Dependency) (place : Place) (s : Scope) (steps n : ℕ)
    → AreAllLaid (Some root) rules → IsBefore rules (view root.fields.now) d place s steps → s ≡ scope.Top
    → IsFirstHit rules scope.Top d (Some n) → IsFoundScope rules (view root.fields.now) d place (Some (scope.Rule n))
nested-found-top root rules d place s steps n all h same hit =
    nested-found root rules d place s steps n all h (subst (λ t. IsFirstHit rules t d (Some n)) (sym same) hit)

-- ---- where the package that is meant stands

pub inner-found : (rules : List Rule) (root : Data) (d : Dependency) (place : Place) (s : Scope)
    → IsFoundScope rules root d place (Some s) → IsInnerScope rules root d place s
inner-found rules root d place s how = (how.0, how.1, (Some how.0, how.2, refl))

pub inner-none : (rules : List Rule) (root : Data) (d : Dependency) (place : Place) (s : Scope) → IsScopeOf rules s place
    → IsFoundScope rules root d place None → IsInnerScope rules root d place s
inner-none rules root d place s is how = (place, is, (None, how, refl))

-- ---- the search for the first

pub misses-more : (rules : List Rule) (s : Scope) (d : Dependency) (n : ℕ) (own : Rule) → slice_get rules n ≡ Some own → IsMiss s d own
    → ((i : ℕ) (r : Rule) → i < n → slice_get rules i ≡ Some r → IsMiss s d r)
    → (i : ℕ) (r : Rule) → i < n + 1 → slice_get rules i ≡ Some r → IsMiss s d r
misses-more rules s d n own at miss before i r less is = elim (cases_lt i n) [
  | inl below ↦ before i r below is
  | inr above ↦ let same : i ≡ n = omega arith in
      subst (IsMiss s d) (one-rule rules n own r at (subst (λ k. slice_get rules k ≡ Some r) same is)) miss
]
