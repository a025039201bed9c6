-- The findings of the dependencies of a lock file.
use Rattle.std.proofs.Common.{◌≡◌, ◌+◌, ◌∷◌, ◌++◌, ◌∙◌, [], List, None, Option, Some, ap, arith, inl, inr, length, length-append, subst}
use Rattle.std.proofs.Common.{sym, true, true≢false, false, ℕ}
use Rattle.lock_check.specs.Judged.{IsFinding}
use Rattle.std.specs.BTreeMap.{BTreeMap}
use Rattle.std.specs.Prelude.{All, Err, IfOk, Ok, OnOk, Result, is_some, slice_get}
use Rattle.lock_check.specs.Internal.Overriding.{AreAllLaid, AreChosen}
use Rattle.lock_files.specs.Edges.{AreAllCollected, AreApartEdges, AreInOrder, AreWorkspacesCollected, IsEdge}
use Rattle.lock_check.specs.Standing.{AreEdges}
use Rattle.lock_files.specs.Lookups.{IsAt}
use Rattle.lock_files.specs.declared.edge.Edge.{Edge}
use Rattle.lock_check.specs.declared.finding.Finding.{Finding}
use Rattle.lock_files.specs.declared.lock.Lock.{Lock}
use Rattle.lock_files.specs.declared.lock.Package.{Package}
use Rattle.lock_check.specs.declared.overrides.Overrides.{Overrides}
use Rattle.lock_check.specs.declared.overrides.Scope.{Scope}
use Rattle.lock_check.proofs.Turns.{push-cases}

-- the findings of the first dependencies
abbrev pub AreFirst : Lock → List Edge → ℕ → List Finding → Type 0
AreFirst lock edges k found = (length found ≡ k)
    × ((n : ℕ) (f : Finding) → slice_get found n ≡ Some f → IsFinding lock edges n f)

pub first-none : (lock : Lock) (edges : List Edge) (found : List Finding) → found ≡ [] → AreFirst lock edges 0 found
first-none lock edges found none = (ap length none, λ n f at. absurd (let two = sym (ap (λ l. slice_get l n) none) ∙ at in cc))

pub first-more : (lock : Lock) (edges : List Edge) (k : ℕ) (before after : List Finding) (f : Finding) → IsFinding lock edges k f
    → after ≡ before ++ f ∷ [] → AreFirst lock edges k before → AreFirst lock edges (k + 1) after
first-more lock edges k before after f is same (long, all) = (
  omega (arith, ap length same, length-append before (f ∷ []), long),
  λ n g at. elim (push-cases before f n g (subst (λ l. slice_get l n ≡ Some g) same at)) [
    | inl old ↦ all n g old
    | inr (last, own) ↦ subst (IsFinding lock edges n) own (subst (λ m. IsFinding lock edges m f) (sym (last ∙ long)) is)
  ],
)

-- what holds does so where a call returns
pub on_ok : {T E P : Type 0} (r : Result T E) → P → OnOk r P
on_ok (Ok t) p = p
on_ok (Err e) p = tt

pub edges-of : {T E : Type 0} (lock : Lock) (items : T → List Edge) (r : Result T E) → IfOk r (λ t. All (IsEdge lock) (items t))
    → IfOk r (λ t. AreAllCollected lock (items t)) → IfOk r (λ t. AreApartEdges (items t)) → IfOk r (λ t. AreInOrder (items t))
    → IfOk r (λ t. AreWorkspacesCollected lock (items t)) → IfOk r (λ t. AreEdges lock (items t))
edges-of lock items (Ok t) each all apart ordered workspaces = record {
  each = each;
  all = all;
  apart = apart;
  ordered = ordered;
  workspaces = workspaces;
}
edges-of lock items (Err e) each all apart ordered workspaces = tt

-- the rules are those of the root project
pub ruled : (lock : Lock) (root : Option Package) (o s : Overrides) (edges : List Edge) (found : BTreeMap ℕ Scope)
    → IsAt lock [] root → o.root ≡ root → AreAllLaid root o.rules.items
    → ((root : Option Package) → AreAllLaid root o.rules.items → AreChosen root o.rules.items edges found) → s ≡ o
    → IsAt lock [] s.root × AreAllLaid s.root s.rules.items × AreChosen s.root s.rules.items edges found
ruled lock root o s edges found at same laid chosen is =
    subst (λ s. IsAt lock [] s.root × AreAllLaid s.root s.rules.items × AreChosen s.root s.rules.items edges found) (sym is)
    (subst (λ r. IsAt lock [] r × AreAllLaid r o.rules.items × AreChosen r o.rules.items edges found) (sym same)
    (at, laid, chosen root laid))

-- a lock file that has a root project is not one without
pub has-root : (lock : Lock) (root : Option Package) → IsAt lock [] root → is_some root ≡ true → IsAt lock [] None → ⊥
has-root lock None at some none = absurd (true≢false (sym some))
has-root lock (Some p) at some none = let two = sym none ∙ at.1 in absurd (cc)

pub no-root : (lock : Lock) (root : Option Package) → IsAt lock [] root → is_some root ≡ false → IsAt lock [] None
no-root lock None at none = at
no-root lock (Some p) at none = absurd (true≢false none)
