-- Picks on the way to a plan: one more pick keeps what is asked, met and taken.
use Rattle.uses.specs.Internal.Search.{Agrees, HasNoPlan, NeedsAll}
use Rattle.std.proofs.Common.{◌≡◌, ◌≢◌, ap, subst, refl, sym, ◌∙◌, ℕ, ◌+◌, ◌<◌, ◌≤◌, ◌⊎◌, inl, inr, List, [], length, replicate}
use Rattle.std.proofs.Common.{take, set, get_or, slice_get, slice_index_or}
use Rattle.std.proofs.Common.{Option, None, Some, IfNone, IfSome, All, Contains, true, false, arith, get_or-set_other}
use Rattle.std.proofs.Common.{get_or-set_same}
use denote.Ref.{Bor}
use Rattle.std.specs.List.{sum_by}
use Rattle.std.specs.Option.{option_map, unwrap_or}
use Rattle.std.proofs.lemmas.List.Sums.{sum_by-set}
use Rattle.std.proofs.lemmas.Bool.{cases_lt, false≢true}
use Rattle.std.proofs.lemmas.Bool.Decides.{eqb_tells}
use Rattle.nodejs_semver.specs.Ranges.Gate.{accepts}
use Rattle.std.proofs.lemmas.List.{get_or-replicate, get_or_past, length-replicate, get_or_read, length-set, set-get_or, set-set}
use Rattle.std.proofs.lemmas.Option.{none-some, same_Some, slice_get-get_or, slice_get_past}
use Rattle.std.proofs.lemmas.List.Elements.{All-contains, All-more}
use Rattle.uses.specs.Resolver.{IsBegun, IsConflict, IsHopeless, IsMet, IsNeeded, IsPicked, MeetsAll}
use Rattle.uses.specs.Resolver.{of_release, of_root, release_at, releases_of}
use Rattle.uses.specs.declared.resolver.Conflict.{Conflict}
use Rattle.uses.specs.declared.resolver.Conflict.TheVariants.{Unmatched, Clash}
use Rattle.uses.specs.declared.resolver.Package.{Package}
use Rattle.uses.specs.declared.resolver.Pick.{Pick}
use Rattle.uses.specs.declared.resolver.Release.{Release}
use Rattle.uses.specs.declared.resolver.Requirement.{Requirement}

-- 1 for a package of which nothing is taken yet
abbrev pub is_free : Option Pick → ℕ
is_free None = 1
is_free (Some pick) = 0

pub fewer_free : (xs ys : List (Option Pick)) (p : ℕ) (pick : Pick) (n : ℕ) → ys ≡ xs → sum_by is_free xs ≡ n → p < length xs →
    slice_index_or xs p None ≡ None → sum_by is_free (set ys p (Some pick)) < n
fewer_free xs ys p pick n same count h e = rw same (omega (arith, sum_by-set is_free xs p (Some pick) None h, ap is_free e))

pub IsNeeded-kept : {f g : ℕ → Option Release} (root : List Requirement) (q : Requirement) → Agrees f g → IsNeeded root f q →
    IsNeeded root g q
IsNeeded-kept root q k (of_root s h) = of_root s h
IsNeeded-kept root q k (of_release s t r n e h) = of_release s t r (IsNeeded-kept root t k n) (k t.package r e) h

pub IsMet-kept : {f g : ℕ → Option Release} (q : Requirement) → Agrees f g → IsMet f q → IsMet g q
IsMet-kept q k h = (h.0, k q.package h.0 h.1, h.2)

-- where one more pick is put
pub at_set : (xs : List (Option Pick)) (p q : ℕ) (a : Option Pick) → p < length xs →
    ((q ≡ p) × (slice_index_or (set xs p a) q None ≡ a)) ⊎ ((q ≢ p)
    × (slice_index_or (set xs p a) q None ≡ slice_index_or xs q None))
at_set xs p q a h = elim (eqb_tells q p) [
  | inl e ↦ inl (e.1, rw e.1 (get_or-set_same xs p a None h))
  | inr n ↦ inr (n.1, get_or-set_other xs p q a None n.1)
]

pub Agrees-more : (xs : List (Option Pick)) (p : ℕ) (pick : Pick) → p < length xs → slice_index_or xs p None ≡ None →
    Agrees (release_at xs) (release_at (set xs p (Some pick)))
Agrees-more xs p pick h none q r e = elim (at_set xs p q (Some pick) h) [
  | inl (same, a) ↦ absurd (cc)
  | inr (other, a) ↦ rw a e
]

pub Agrees-with : (xs : List (Option Pick)) (f : ℕ → Option Release) (p : ℕ) (pick : Pick) → p < length xs →
    Agrees (release_at xs) f →
    f p ≡ Some pick.release.now → Agrees (release_at (set xs p (Some pick))) f
Agrees-with xs f p pick h k e q r t = elim (at_set xs p q (Some pick) h) [
  | inl (same, a) ↦ rw same (e ∙ (rw a at t))
  | inr (other, a) ↦ k q r (rw a at t)
]

pub IsMet-from_pick : (xs : List (Option Pick)) (q : Requirement) (pick : Pick) → Some pick ≡ slice_index_or xs q.package None →
    accepts q.range pick.release.now.version false ≡ true → IsMet (release_at xs) q
IsMet-from_pick xs q pick e fits = (pick.release.now, ap (option_map (λ p. p.release.now)) (sym e), fits)

pub IsPicked-more : {packages : List Package} {root : List Requirement} {xs : List (Option Pick)} (p : ℕ) (pick : Pick) →
    IsPicked packages root xs → p < length packages → slice_index_or xs p None ≡ None →
    Contains (releases_of packages p) pick.release.now →
    pick.requirement.now.package ≡ p → IsNeeded root (release_at xs) pick.requirement.now →
    accepts pick.requirement.now.range pick.release.now.version false ≡ true → IsPicked packages root (set xs p (Some pick))
IsPicked-more {packages} {root} {xs} p pick s h none member place asked met =
    let within : p < length xs = omega arith in
    let more = Agrees-more xs p pick within none in
    record {
      as_many = rw length-set s.as_many;
      choice = λ q r t. elim (at_set xs p q (Some pick) within) [
        | inl (same, a) ↦ rw (same, ← same_Some _ _ (rw a at t)) member
        | inr (other, a) ↦ s.choice q r (rw a at t)
      ];
      needed = λ q other t. elim (at_set xs p q (Some pick) within) [
        | inl (same, a) ↦
            let ys = set xs p (Some pick) in
            let P : Pick → Type 0 =
            λ k. (k.requirement.now.package ≡ q) × IsNeeded root (release_at ys) k.requirement.now
            × IsMet (release_at ys) k.requirement.now
            in
            let at : Some pick ≡ slice_index_or ys pick.requirement.now.package None = sym (get_or-set_same xs p (Some pick)
            None within) ∙ ap (λ n. get_or ys n None) (sym place) in
            let taken = IsMet-from_pick ys pick.requirement.now pick at met in
            subst P (same_Some _ _ (sym a ∙ t)) (place ∙ sym same, IsNeeded-kept root pick.requirement.now more asked, taken)
        | inr (apart, a) ↦
            let (place, asked, met) = s.needed q other (sym a ∙ t) in
            (place, IsNeeded-kept root other.requirement.now more asked, IsMet-kept other.requirement.now more met)
      ];
    }

abbrev pub IsRejected : Requirement → Release → Type 0
IsRejected q r = accepts q.range r.version false ≡ false

pub IsHopeless-rejected : (packages : List Package) (root : List Requirement) (xs : List (Option Pick)) (q : Requirement) (r :
    Release) →
    IsNeeded root (release_at xs) q → accepts q.range r.version false ≡ false → IsHopeless packages root xs q.package r
IsHopeless-rejected packages root xs q r asked rejected f plan agrees e =
    let (s, t, fits) = plan.1 q (IsNeeded-kept root q agrees asked) in
    let same : s ≡ r = same_Some _ _ (sym t ∙ e) in
    false≢true (sym rejected ∙ (rw same at fits))

pub none_from_hopeless : (packages : List Package) (root : List Requirement) (xs : List (Option Pick)) (q : Requirement) →
    IsNeeded root (release_at xs) q → All (IsHopeless packages root xs q.package) (releases_of packages q.package) →
    HasNoPlan packages root xs
none_from_hopeless packages root xs q asked all f plan agrees =
    let (r, e, fits) = plan.1 q (IsNeeded-kept root q agrees asked) in
    All-contains (IsHopeless packages root xs q.package) _ r all (plan.0 q.package r e) f plan agrees e

pub pick_at : (xs : List (Option Pick)) (i : ℕ) (item : Option Pick) (pick : Pick) → i < length xs → item ≡ get_or xs i item →
    item ≡ Some pick → slice_index_or xs i None ≡ Some pick
pick_at xs i item pick h e s = sym (get_or_read xs i item h e None) ∙ s

pub release_at-item : (xs : List (Option Pick)) (i : ℕ) (item : Option Pick) (pick : Pick) → i < length xs →
    item ≡ get_or xs i item →
    item ≡ Some pick → release_at xs i ≡ Some pick.release.now
release_at-item xs i item pick h e s = ap (option_map (λ p. p.release.now)) (sym (get_or_read xs i item h e None) ∙ s)

-- what the release that is taken requires is met
abbrev pub IsServed : List (Option Pick) → Option Pick → Type 0
IsServed xs None = Unit {0}
IsServed xs (Some pick) = All (IsMet (release_at xs)) pick.release.now.requirements.items

served_meets : (xs : List (Option Pick)) (o : Option Pick) (r : Release) (q : Requirement) → IsServed xs o →
    option_map (λ pick. pick.release.now) o ≡ Some r → Contains r.requirements.items q → IsMet (release_at xs) q
served_meets xs None r q h e asked = absurd (none-some r e)
served_meets xs (Some pick) r q h e asked =
    All-contains (IsMet (release_at xs)) pick.release.now.requirements.items q h (let same : r ≡ pick.release.now = sym
    (same_Some _ _ e) in rw same at asked)

pub MeetsAll-from_served : (root : List Requirement) (xs : List (Option Pick)) → All (IsMet (release_at xs)) root →
    All (IsServed xs) xs →
    MeetsAll root (release_at xs)
MeetsAll-from_served root xs h served q (of_root s asked) = All-contains (IsMet (release_at xs)) root s h asked
MeetsAll-from_served root xs h served q (of_release s t r n e asked) =
    let p = t.package in
    let at : IsServed xs (slice_index_or xs p None) =
    elim (cases_lt p (length xs)) [ inl l ↦ served p None l | inr n ↦ rw (get_or_past xs p None n) tt ]
    in
    served_meets xs (slice_index_or xs p None) r s at e asked

-- the package p is taken, and the requirement q on it is not met
abbrev pub IsClash : List Requirement → List (Option Pick) → Pick → Requirement → Type 0
IsClash root xs pick q = (Some pick ≡ slice_index_or xs q.package None) × IsNeeded root (release_at xs) q
    × ¬ (IsMet (release_at xs) q)

-- what was picked is on the way to a plan
begun : (packages : List Package) (root : List Requirement) (xs : List (Option Pick)) → IsPicked packages root xs →
    IsBegun packages root (release_at xs)
begun packages root xs s p r e = (s.choice p r e, at (slice_index_or xs p None) refl e)
  where
    at : (o : Option Pick) → slice_index_or xs p None ≡ o → option_map (λ pick. pick.release.now) o ≡ Some r →
        (q : Requirement) × (q.package ≡ p) × IsNeeded root (release_at xs) q × IsMet (release_at xs) q
    at None is t = absurd (none-some r t)
    at (Some pick) is t = let (place, needed, met) = s.needed p pick is in (pick.requirement.now, place, needed, met)

pub NeedsAll-from_picked : (packages : List Package) (root : List Requirement) (xs : List (Option Pick)) →
    IsPicked packages root xs → NeedsAll root xs
NeedsAll-from_picked packages root xs s p pick e = let (place, needed, met) = s.needed p pick e in (place, needed)

pub IsConflict-from_clash : (packages : List Package) (root : List Requirement) (xs : List (Option Pick)) (pick : Pick) (q :
    Bor Requirement) →
    IsPicked packages root xs → IsClash root xs pick q.now → IsConflict packages root (Clash pick.requirement q)
IsConflict-from_clash packages root xs pick q s (e, asked, unmet) =
    let (place, also, met) = s.needed q.now.package pick (sym e) in
    (release_at xs, begun packages root xs s, also, asked, place, met, unmet)

pub none_from_clash : (packages : List Package) (root : List Requirement) (xs : List (Option Pick)) (pick : Pick) (q :
    Requirement) →
    IsClash root xs pick q → HasNoPlan packages root xs
none_from_clash packages root xs pick q (e, asked, unmet) f plan agrees =
    let (r, t, fits) = plan.1 q (IsNeeded-kept root q agrees asked) in
    let taken : release_at xs q.package ≡ Some pick.release.now = ap (option_map (λ p. p.release.now)) (sym e) in
    let same : pick.release.now ≡ r = same_Some _ _ (sym (agrees q.package pick.release.now taken) ∙ t) in
    unmet (pick.release.now, taken, rw same fits)

pub releases_of-at : (packages : List Package) (p : ℕ) (d : Package) (rs : List Release) → p < length packages →
    rs ≡ (get_or packages p d).releases.items → rs ≡ releases_of packages p
releases_of-at packages p d rs h same = rw (releases_of, slice_get-get_or packages p d h) same

pub releases_of-past : (packages : List Package) (p : ℕ) → length packages ≤ p → releases_of packages p ≡ []
releases_of-past packages p h = rw (releases_of, slice_get_past packages p h) refl

pub released : (rs : List Release) (i : ℕ) (r : Release) → i < length rs → r ≡ get_or rs i r → Contains rs r
released rs i r h e = (i, h, sym e)

pub taken_back : (xs : List (Option Pick)) (p : ℕ) (a : Option Pick) → slice_index_or xs p None ≡ None →
    set (set xs p a) p None ≡ xs
taken_back xs p a e = set-set xs p a None ∙ ap (set xs p) (sym e) ∙ set-get_or xs p None

-- what stays true of the conflict that was found last
pub rejected_more : (o : Option Conflict) (q : Requirement) (rs : List Release) (i : ℕ) (r : Release) → i < length rs →
    IfNone o (All (IsRejected q) (take i rs)) → IsRejected q (get_or rs i r) → IfNone o (All (IsRejected q) (take (i + 1) rs))
rejected_more None q rs i r h all here = All-more (IsRejected q) rs i r h all here
rejected_more (Some conflict) q rs i r h all here = tt

pub IsConflict-found : (packages : List Package) (root : List Requirement) (xs : List (Option Pick)) (q : Bor Requirement) (o :
    Option Conflict) →
    IsPicked packages root xs → IsNeeded root (release_at xs) q.now →
    IfNone o (All (IsRejected q.now) (releases_of packages q.now.package)) →
    IfSome o (IsConflict packages root) → IsConflict packages root (unwrap_or o (Unmatched q))
IsConflict-found packages root xs q None s asked rejected found = (release_at xs, begun packages root xs s, asked, rejected)
IsConflict-found packages root xs q (Some conflict) s asked rejected found = found

pub Agrees-from_none : (xs : List (Option Pick)) (n : ℕ) (f : ℕ → Option Release) → xs ≡ replicate n None →
    Agrees (release_at xs) f
Agrees-from_none xs n f same p r e = absurd (none-some r (sym (ap (option_map (λ pick. pick.release.now)) none) ∙ e))
  where
    none : slice_index_or xs p None ≡ None
    none = rw same (elim (cases_lt p n) [
      | inl l ↦ get_or-replicate n p None None l
      | inr h ↦ get_or_past (replicate n None) p
          None (rw length-replicate h)
    ])

pub at_item : (rs : List Release) (i : ℕ) (r : Release) → i < length rs → r ≡ get_or rs i r → slice_get rs i ≡ Some r
at_item rs i r h e = slice_get-get_or rs i r h ∙ ap (λ (x : Release). Some x) (sym e)
