-- Where packages stand in the rules, dependency by dependency in the order in which npm reads them.
use Rattle.std.proofs.Common.{◌≡◌, ◌≢◌, ◌<◌, ◌+◌, ◌⊎◌, ◌∙◌, [], Bool, List, None, Option, Some, ap, arith, cond, false, inl, inr, length}
use Rattle.std.proofs.Common.{refl, subst, sym, true, unwrap_or, ℕ}
use Rattle.std.proofs.lemmas.Bool.{cases_order}
use Rattle.std.proofs.lemmas.Cmp.{nat_cmp_total, nat_list_cmp_total, on_total, then_total, tied_itself}
use Rattle.std.proofs.lemmas.Map.Lookups.{exact_bytes, exact_unsigned}
use Rattle.std.proofs.lemmas.Option.{slice_get_within}
use Rattle.std.specs.BTreeMap.{BTreeMap, Updates, get, is_at}
use Rattle.std.specs.Borrow.{Bor}
use Rattle.std.specs.Cmp.{IsTotalOrder, bool_cmp_total}
use Rattle.std.specs.Cmp.Lexicographic.{on_texts, slice_cmp}
use Rattle.std.specs.Ordering.{is_eq, nat_cmp, ordering_reverse}
use Rattle.std.specs.Prelude.{slice_get}
use Rattle.std.specs.declared.cmp.Ordering.{Ordering}
use Rattle.std.specs.declared.cmp.Ordering.TheVariants.{Equal, Greater, Less}
use Rattle.serde_json.specs.Data.{Data}
use Rattle.serde_json.specs.View.{view}
use Rattle.lock_check.specs.Internal.Overriding.{AreAllLaid, AreChosen, AreInTurn, IsChosen, IsInnerScope, IsLed, IsScopeOf, Turn}
use Rattle.lock_check.specs.Internal.Overriding.IsScopeOf.{at_top}
use Rattle.lock_check.specs.Overrides.{IsOverridden, Place}
use Rattle.lock_check.specs.Overrides.Place.{top}
use Rattle.lock_check.specs.Standing.{IsReadBefore, LeadsTo, StandsIn, read_with, reading_cmp, wanting}
use Rattle.lock_check.specs.Standing.StandsIn.{meant, outermost}
use Rattle.lock_check.specs.declared.overrides.Rule.{Rule}
use Rattle.lock_check.specs.declared.overrides.Scope.{Scope}
use Rattle.lock_check.specs.declared.overrides.Scope.TheVariants as scope
use Rattle.lock_files.specs.declared.edge.Edge.{Edge}
use Rattle.lock_files.specs.declared.lock.Package.{Package}

-- ---- one of two dependencies is read before the other

abbrev edge_cmp : Edge × ℕ → Edge × ℕ → Ordering
edge_cmp a b = reading_cmp a.0 b.0 a.1 b.1

edges_total : IsTotalOrder edge_cmp
edges_total = then_total (then_total (on_texts (λ a. (read_with a.0).0)) (on_total (λ a. (read_with a.0).1) bool_cmp_total))
    (on_total (λ a. a.1) nat_cmp_total)

one-edge : (edges : List Edge) (n : ℕ) (e f : Edge) → slice_get edges n ≡ Some e → slice_get edges n ≡ Some f → e ≡ f
one-edge edges n e f is so = ap (λ o. unwrap_or o e) (sym is ∙ so)

not-itself : (edges : List Edge) (n : ℕ) → ¬ (IsReadBefore edges n n)
not-itself edges n (e, f, here, also, before) =
    let tied : Equal ≡ Less = sym (tied_itself edges_total (e, n))
    ∙ subst (λ x. reading_cmp e x n n ≡ Less) (one-edge edges n f e also here) before in absurd (cc)

not-both : (edges : List Edge) (m n : ℕ) → IsReadBefore edges m n → ¬ (IsReadBefore edges n m)
not-both edges m n (e, f, here, there, before) (g, h, also, again, after) =
    let later : reading_cmp f e n m ≡ Less =
    subst (λ x. reading_cmp x e n m ≡ Less) (one-edge edges n g f also there)
    (subst (λ x. reading_cmp g x n m ≡ Less) (one-edge edges m h e again here) after) in
    let turned : Less ≡ Greater = sym before ∙ (edges_total.antisymm (e, m) (f, n) ∙ ap ordering_reverse later) in absurd (cc)

-- ---- what was read before a turn is what had a turn before

abbrev pub IsDone : List Turn → ℕ → ℕ → Type 0
IsDone order i k = (j : ℕ) × (t : Turn) × (j < i) × (slice_get order j ≡ Some t) × (t.2 ≡ k)

before-done : (edges : List Edge) (order : List Turn) (i : ℕ) (t : Turn) → AreInTurn edges order → slice_get order i ≡ Some t
    → (k : ℕ) → IsDone order i k → IsReadBefore edges k t.2
before-done edges order i t turns at k (j, u, less, there, same) =
    subst (λ x. IsReadBefore edges x t.2) same (turns.rises j i u t less there at)

done-before : (edges : List Edge) (order : List Turn) (i : ℕ) (t : Turn) → AreInTurn edges order → slice_get order i ≡ Some t
    → (k : ℕ) → IsReadBefore edges k t.2 → IsDone order i k
done-before edges order i t turns at k before =
    let (j, u, there, same) = turns.all k before.0 before.2 in elim (cases_order j i) [
      | inl one ↦ absurd (not-itself edges t.2 (subst (λ x. IsReadBefore edges x t.2)
          (sym same ∙ ap (λ x. x.2) (ap (λ o. unwrap_or o u) (sym (subst (λ n. slice_get order n ≡ Some u) one there) ∙ at))) before))
      | inr (inl less) ↦ (j, u, less, there, same)
      | inr (inr more) ↦ absurd (not-both edges k t.2 before
          (subst (IsReadBefore edges t.2) same (turns.rises i j t u more at there)))
    ]

done-cases : (order : List Turn) (i : ℕ) (t : Turn) (k : ℕ) → slice_get order i ≡ Some t → IsDone order (i + 1) k
    → IsDone order i k ⊎ (t.2 ≡ k)
done-cases order i t k at (j, u, less, there, same) = elim (cases_order j i) [
  | inl one ↦ inr (ap (λ x. x.2) (ap (λ o. unwrap_or o t) (sym at ∙ subst (λ n. slice_get order n ≡ Some u) one there)) ∙ same)
  | inr (inl low) ↦ inl (j, u, low, there, same)
  | inr (inr more) ↦ absurd (omega arith)
]

done-more : (order : List Turn) (i k : ℕ) → IsDone order i k → IsDone order (i + 1) k
done-more order i k (j, u, less, there, same) = (j, u, omega arith, there, same)

-- ---- where the package in a folder stands after some turns

abbrev pub IsStanding : List Rule → Data → List Edge → List Turn → ℕ → List ℕ → Option Scope → Type 0
IsStanding rules root edges order i folder None = (k : ℕ) → IsDone order i k → ¬ (LeadsTo edges folder k)
IsStanding rules root edges order i folder (Some s) = (m : ℕ) × (e : Edge) × (slice_get edges m ≡ Some e) × IsDone order i m
    × LeadsTo edges folder m × ((k : ℕ) → IsDone order i k → LeadsTo edges folder k → (k ≡ m) ⊎ IsReadBefore edges k m)
    × IsLed rules root edges m e.dependency s

abbrev pub AreStanding : List Rule → Data → List Edge → List Turn → ℕ → BTreeMap (Bor (List ℕ)) Scope → Type 0
AreStanding rules root edges order i found = (folder : Bor (List ℕ))
    → IsStanding rules root edges order i folder.now (get (λ x y. slice_cmp nat_cmp x.now y.now) found folder)

-- a scope, and the place where a package stands that is in it when a dependency of it is read
abbrev pub IsFrom : List Rule → Data → List Edge → ℕ → Scope → Type 0
IsFrom rules root edges n s = (around : Place) × StandsIn root edges n around × IsScopeOf rules s around

module _ (rules : List Rule) (root : Data) (edges : List Edge) (order : List Turn) (i : ℕ) (t : Turn) (e : Edge)
    (turns : AreInTurn edges order) (at : slice_get order i ≡ Some t) (is : slice_get edges t.2 ≡ Some e) where
  pub from-none : IsStanding rules root edges order i (wanting e) None → IsFrom rules root edges t.2 scope.Top
  from-none none = (
    top,
    outermost t.2 e is (λ m before. none m (done-before edges order i t turns at m before)),
    at_top,
  )

  pub from-some : (s : Scope) → IsStanding rules root edges order i (wanting e) (Some s) → IsFrom rules root edges t.2 s
  from-some s (m, f, here, done, leads, last, (around, stands, (place, is_scope, how))) = (
    place,
    meant t.2 m e f around place is here (record {
      before = before-done edges order i t turns at m done;
      leads = leads;
      last = λ k before to. last k (done-before edges order i t turns at k before) to;
    }) stands how,
    is_scope,
  )

  -- a turn that leads nowhere changes nothing
  stays : (folder : List ℕ) (o : Option Scope) → ¬ (LeadsTo edges folder t.2) → IsStanding rules root edges order i folder o
      → IsStanding rules root edges order (i + 1) folder o
  stays folder None nowhere none = λ k done leads. elim (done-cases order i t k at done) [
    | inl old ↦ none k old leads
    | inr own ↦ nowhere (subst (LeadsTo edges folder) (sym own) leads)
  ]
  stays folder (Some s) nowhere (m, f, here, done, leads, last, led) = (
    m,
    f,
    here,
    done-more order i m done,
    leads,
    (λ k later to. elim (done-cases order i t k at later) [
      | inl old ↦ last k old to
      | inr own ↦ absurd (nowhere (subst (LeadsTo edges folder) (sym own) to))
    ]),
    led,
  )

  pub standing-same : (found : BTreeMap (Bor (List ℕ)) Scope) → ((folder : List ℕ) → ¬ (LeadsTo edges folder t.2))
      → AreStanding rules root edges order i found → AreStanding rules root edges order (i + 1) found
  standing-same found nowhere all folder = stays folder.now _ (nowhere folder.now) (all folder)

  -- where no rule holds for it, or nothing is locked for it, it leads nowhere
  pub nowhere-outside : ¬ (IsOverridden e.dependency) → (folder : List ℕ) → ¬ (LeadsTo edges folder t.2)
  nowhere-outside off folder (f, p, here, holds, some, same) =
      off (subst (λ x. IsOverridden x.dependency) (one-edge edges t.2 f e here is) holds)

  pub nowhere-unlocked : e.locked ≡ None → (folder : List ℕ) → ¬ (LeadsTo edges folder t.2)
  nowhere-unlocked none folder (f, p, here, holds, some, same) =
      let one = ap (λ x. x.locked) (one-edge edges t.2 f e here is) in
      let two : Some p ≡ None = sym some ∙ (one ∙ none) in absurd (cc)

  -- the package that is locked for it stands where it leads
  pub standing-more : (before after : BTreeMap (Bor (List ℕ)) Scope) (p : Package) (s : Scope) → e.locked ≡ Some p
      → IsOverridden e.dependency → IsLed rules root edges t.2 e.dependency s
      → Updates (λ x y. slice_cmp nat_cmp x.now y.now) before after p.folder (Some s)
      → AreStanding rules root edges order i before → AreStanding rules root edges order (i + 1) after
  standing-more before after p s locked holds led up all folder =
      subst (IsStanding rules root edges order (i + 1) folder.now) (sym (up.0 folder))
      (go (is_at (λ y. slice_cmp nat_cmp p.folder.now y.now) folder) refl)
    where
      here : p.folder.now ≡ folder.now → IsStanding rules root edges order (i + 1) folder.now (Some s)
      here same = (
        t.2,
        e,
        is,
        (i, t, omega arith, at, refl),
        (e, p, is, holds, locked, same),
        (λ k done to. elim (done-cases order i t k at done) [
          | inl old ↦ inr (before-done edges order i t turns at k old)
          | inr own ↦ inl (sym own)
        ]),
        led,
      )

      other : (is_at (λ y. slice_cmp nat_cmp p.folder.now y.now) folder ≡ false) → ¬ (LeadsTo edges folder.now t.2)
      other off (f, q, there, h, some, same) =
          let one : Some q ≡ Some p = sym some ∙ (ap (λ x. x.locked) (one-edge edges t.2 f e there is) ∙ locked) in
          let equal : p.folder.now ≡ folder.now = ap (λ x. x.folder.now) (ap (λ o. unwrap_or o p) (sym one)) ∙ same in
          let tied : slice_cmp nat_cmp p.folder.now folder.now ≡ Equal =
          subst (λ x. slice_cmp nat_cmp p.folder.now x ≡ Equal) equal (tied_itself nat_list_cmp_total p.folder.now) in
          let on = ap is_eq tied in absurd (cc)

      is-equal : (r : Ordering) → is_eq r ≡ true → r ≡ Equal
      is-equal Equal same = refl
      is-equal Less same = absurd (cc)
      is-equal Greater same = absurd (cc)

      go : (b : Bool) → is_at (λ y. slice_cmp nat_cmp p.folder.now y.now) folder ≡ b
          → IsStanding rules root edges order (i + 1) folder.now
          (cond b (Some s) (get (λ x y. slice_cmp nat_cmp x.now y.now) before folder))
      go true on = here (exact_bytes p.folder.now folder.now (is-equal (slice_cmp nat_cmp p.folder.now folder.now) on))
      go false off = stays folder.now _ (other off) (all folder)

-- ---- the scopes of all dependencies

-- those of the turns that are done
pub record AreChosenUpTo (rules : List Rule) (root : Data) (edges : List Edge) (order : List Turn) (i : ℕ) (found : BTreeMap ℕ Scope)
    : Type 0 where
  pub led : (n : ℕ) (e : Edge) (s : Scope) → slice_get edges n ≡ Some e → get nat_cmp found n ≡ Some s
      → IsOverridden e.dependency × IsLed rules root edges n e.dependency s
  pub all : (n : ℕ) (e : Edge) → IsDone order i n → slice_get edges n ≡ Some e → IsOverridden e.dependency
      → get nat_cmp found n ≢ None

pub chosen-none : (rules : List Rule) (root : Data) (edges : List Edge) (order : List Turn) (found : BTreeMap ℕ Scope)
    → ((n : ℕ) → get nat_cmp found n ≡ None) → AreChosenUpTo rules root edges order 0 found
chosen-none rules root edges order found empty = record {
  led = λ n e s at some. let two = sym (empty n) ∙ some in absurd (cc);
  all = λ n e done. absurd (omega (arith, done.2));
}

pub standing-none : (rules : List Rule) (root : Data) (edges : List Edge) (order : List Turn) (found : BTreeMap (Bor (List ℕ)) Scope)
    → ((folder : Bor (List ℕ)) → get (λ x y. slice_cmp nat_cmp x.now y.now) found folder ≡ None)
    → AreStanding rules root edges order 0 found
standing-none rules root edges order found empty folder =
    subst (IsStanding rules root edges order 0 folder.now) (sym (empty folder)) (λ k done. absurd (omega (arith, done.2)))

pub chosen-same : (rules : List Rule) (root : Data) (edges : List Edge) (order : List Turn) (i : ℕ) (t : Turn) (e : Edge)
    (found : BTreeMap ℕ Scope) → slice_get order i ≡ Some t → slice_get edges t.2 ≡ Some e → ¬ (IsOverridden e.dependency)
    → AreChosenUpTo rules root edges order i found → AreChosenUpTo rules root edges order (i + 1) found
chosen-same rules root edges order i t e found at is off all = record {
  led = all.led;
  all = λ n f done here holds. elim (done-cases order i t n at done) [
    | inl old ↦ all.all n f old here holds
    | inr own ↦ absurd (off (subst (λ x. IsOverridden x.dependency)
        (one-edge edges n f e here (subst (λ k. slice_get edges k ≡ Some e) own is)) holds))
  ];
}

pub chosen-more : (rules : List Rule) (root : Data) (edges : List Edge) (order : List Turn) (i : ℕ) (t : Turn) (e : Edge)
    (before after : BTreeMap ℕ Scope) (s : Scope) → slice_get order i ≡ Some t → slice_get edges t.2 ≡ Some e
    → IsOverridden e.dependency → IsLed rules root edges t.2 e.dependency s → Updates nat_cmp before after t.2 (Some s)
    → AreChosenUpTo rules root edges order i before → AreChosenUpTo rules root edges order (i + 1) after
chosen-more rules root edges order i t e before after s at is holds led' up all = record {
  led = λ n f r here some. go-led n f r here (is_at (nat_cmp t.2) n) refl (sym (up.0 n) ∙ some);
  all = λ n f done here h none. go-all n f done here h (is_at (nat_cmp t.2) n) refl (sym (up.0 n) ∙ none);
}
  where
    is-equal : (r : Ordering) → is_eq r ≡ true → r ≡ Equal
    is-equal Equal same = refl
    is-equal Less same = absurd (cc)
    is-equal Greater same = absurd (cc)

    go-led : (n : ℕ) (f : Edge) (r : Scope) → slice_get edges n ≡ Some f → (b : Bool) → is_at (nat_cmp t.2) n ≡ b
        → cond b (Some s) (get nat_cmp before n) ≡ Some r
        → IsOverridden f.dependency × IsLed rules root edges n f.dependency r
    go-led n f r here true on some =
        let own : t.2 ≡ n = exact_unsigned t.2 n (is-equal (nat_cmp t.2 n) on) in
        let one : e ≡ f = one-edge edges n e f (subst (λ k. slice_get edges k ≡ Some e) own is) here in
        let same : s ≡ r = ap (λ o. unwrap_or o s) some in
        subst (λ x. IsOverridden f.dependency × IsLed rules root edges n f.dependency x) same
        (subst (λ x. IsOverridden x.dependency × IsLed rules root edges n x.dependency s) one
        (subst (λ k. IsOverridden e.dependency × IsLed rules root edges k e.dependency s) own (holds, led')))
    go-led n f r here false off some = all.led n f r here some

    go-all : (n : ℕ) (f : Edge) → IsDone order (i + 1) n → slice_get edges n ≡ Some f → IsOverridden f.dependency → (b : Bool)
        → is_at (nat_cmp t.2) n ≡ b → cond b (Some s) (get nat_cmp before n) ≡ None → ⊥
    go-all n f done here h true on none = absurd (cc)
    go-all n f done here h false off none = elim (done-cases order i t n at done) [
      | inl old ↦ all.all n f old here h none
      | inr own ↦
          let on = ap is_eq (subst (λ k. nat_cmp t.2 k ≡ Equal) own (tied_itself nat_cmp_total t.2)) in absurd (cc)
    ]

pub chosen-all : (root : Option Package) (rules : List Rule) (edges : List Edge) (order : List Turn) (i : ℕ) (found : BTreeMap ℕ Scope)
    → AreInTurn edges order → i ≡ length order
    → ((p : Package) → AreAllLaid (Some p) rules → AreChosenUpTo rules (view p.fields.now) edges order i found)
    → (rules ≡ [] → ⊥) → AreAllLaid root rules → AreChosen root rules edges found
chosen-all None rules edges order i found turns end all filled laid n e at = absurd (filled laid)
chosen-all (Some p) rules edges order i found turns end all filled laid n e at =
    inr (p, refl, go (get nat_cmp found n) refl)
  where
    up-to : AreChosenUpTo rules (view p.fields.now) edges order i found
    up-to = all p laid

    done : IsDone order i n
    done = let (j, t, there, same) = turns.all n e at in
        (j, t, omega (arith, end, slice_get_within order j t there), there, same)

    go : (o : Option Scope) → get nat_cmp found n ≡ o → IsChosen rules (view p.fields.now) edges n e o
    go None none = λ holds. up-to.all n e done at holds none
    go (Some s) some = up-to.led n e s at some

pub chosen-empty : (root : Option Package) (rules : List Rule) (edges : List Edge) (found : BTreeMap ℕ Scope) → rules ≡ []
    → ((n : ℕ) → get nat_cmp found n ≡ None) → AreChosen root rules edges found
chosen-empty root rules edges found none empty n e at = inl (none, empty n)

-- a dependency leads on from where its package stands
pub led-on : {rules : List Rule} {root : Data} {edges : List Edge} {n : ℕ} (d : _) (s inner : Scope)
    (from : IsFrom rules root edges n s) → IsInnerScope rules root d from.0 inner → IsLed rules root edges n d inner
led-on d s inner from how = (from.0, from.1, how)
