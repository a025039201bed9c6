-- The greatest version of a set, and that of a smaller set.
use Rattle.std.proofs.Common.{◌≡◌, ◌∷◌, ◌∙◌, ◌&&◌, ◌||◌, List, [], None, Some, Bool, ap, arith}
use Rattle.std.proofs.Common.{false, if◌then◌else◌, is_lt, not, refl, subst, sym, true}
use Rattle.std.proofs.lemmas.Bool.{and_from, and_parts, or_right}
use Rattle.std.proofs.lemmas.List.Folds.{list_all-append, list_any-append}
use Rattle.std.specs.Cmp.{tied_itself}
use Rattle.std.specs.List.{list_all, list_any}
use Rattle.std.specs.Ordering.{is_le}
use Rattle.std.specs.Prelude.{Option}
use Rattle.nodejs_semver.specs.Cuts.{Span}
use Rattle.nodejs_semver.specs.Order.{precedence}
use Rattle.nodejs_semver.specs.Versions.{VersionValue, is_release}
use Rattle.nodejs_semver.specs.Ranges.Best.{IsMax}
use Rattle.nodejs_semver.specs.Ranges.Gate.{accepts}
use Rattle.semver_core.proofs.FlatMaps.{all_weaker}
use Rattle.semver_core.proofs.Gate.{le_of_lt, le_trans, lt_is, lt_le}
use Rattle.semver_core.specs.Internal.OrderLaws.{precedence_total}
use Rattle.lock_check.specs.Raises.{is_above, is_beyond, is_raised, may_be_newest}

-- ---- the order

-- a version is not above itself
not_above_itself : (v : VersionValue) → is_above v v ≡ false
not_above_itself v = ap is_lt (tied_itself precedence_total v)

-- what is up to a version that is not above the locked one is not above that either
pub not_above_upto : (locked v w : VersionValue) → is_above v locked ≡ false → is_le (precedence w v) ≡ true
    → is_above w locked ≡ false
not_above_upto locked v w off upto = only_false (is_above w locked)
    (λ above. lt_le precedence_total locked w v above upto) off
  where
    only_false : (b : Bool) {c : Bool} → (b ≡ true → c ≡ true) → c ≡ false → b ≡ false
    only_false b f e = grind arith

-- what is up to a version below another one is below that too
below_upto : (v b w : VersionValue) → is_above v b ≡ true → is_le (precedence w b) ≡ true → is_above v w ≡ true
below_upto v b w above upto =
    turned (is_le (precedence v w)) (is_le (precedence v b)) (λ k. le_trans precedence_total v w b k upto)
    (sym (lt_is precedence_total b v) ∙ above) (lt_is precedence_total w v)
  where
    turned : (x y : Bool) {r : Bool} → (x ≡ true → y ≡ true) → not y ≡ true → r ≡ not x → r ≡ true
    turned x y f e is = grind arith

-- ---- the greatest of a set

fewer : (s m a : Bool) → (not s || a) ≡ true → (not (s && m) || a) ≡ true
fewer s m a h = grind arith

fewer_still : (s m : Bool) → not s ≡ true → not (s && m) ≡ true
fewer_still s m h = grind arith

weaker : (s a b : Bool) → (a ≡ true → b ≡ true) → (not s || a) ≡ true → (not s || b) ≡ true
weaker s a b f h = grind arith

shut : (s m a : Bool) → (a ≡ true → m ≡ false) → (not s || a) ≡ true → not (s && m) ≡ true
shut s m a f h = grind arith

module _ (set : VersionValue → Bool) (list : List VersionValue) (v : VersionValue) (h : IsMax set list (Some v)) where
  -- it stands in the list
  pub at_greatest : (p : VersionValue → Bool) → list_all p list ≡ true → p v ≡ true
  at_greatest p all =
      let parts = and_parts (list_all p h.1) (list_all p (v ∷ h.2))
      (sym (list_all-append p h.1 (v ∷ h.2)) ∙ ap (list_all p) (sym h.3) ∙ all) in
      (and_parts (p v) (list_all p h.2) parts.1).0

  -- all of the set are up to it
  pub upto_greatest : list_all (λ w. not (set w) || is_le (precedence w v)) list ≡ true
  upto_greatest =
      let p : VersionValue → Bool = λ w. not (set w) || is_le (precedence w v) in
      let back = all_weaker (λ w. not (set w) || is_lt (precedence w v)) p
      (λ w. weaker (set w) (is_lt (precedence w v)) (is_le (precedence w v)) (le_of_lt (precedence w v))) h.2 h.5 in
      let own = or_right (not (set v)) (is_le (precedence v v)) (ap is_le (tied_itself precedence_total v)) in
      ap (list_all p) h.3 ∙ list_all-append p h.1 (v ∷ h.2)
      ∙ and_from (list_all p h.1) (list_all p (v ∷ h.2)) h.4 (and_from (p v) (list_all p h.2) own back)

  module _ (more : VersionValue → Bool) where
    -- it is the greatest of each smaller set that it is in
    pub kept : more v ≡ true → IsMax (λ w. set w && more w) list (Some v)
    kept k = (
      and_from (set v) (more v) h.0 k,
      h.1,
      h.2,
      h.3,
      all_weaker (λ w. not (set w) || is_le (precedence w v)) (λ w. not (set w && more w) || is_le (precedence w v))
          (λ w. fewer (set w) (more w) (is_le (precedence w v))) h.1 h.4,
      all_weaker (λ w. not (set w) || is_lt (precedence w v)) (λ w. not (set w && more w) || is_lt (precedence w v))
          (λ w. fewer (set w) (more w) (is_lt (precedence w v))) h.2 h.5,
    )

    -- a smaller set, in which nothing up to it is, has no version of the list
    pub none_left : ((w : VersionValue) → is_le (precedence w v) ≡ true → more w ≡ false)
        → IsMax (λ w. set w && more w) list None
    none_left f = all_weaker (λ w. not (set w) || is_le (precedence w v)) (λ w. not (set w && more w))
        (λ w. shut (set w) (more w) (is_le (precedence w v)) (f w)) list upto_greatest

-- a set of which the list has none, and a smaller one
pub none_of_none : (set more : VersionValue → Bool) (list : List VersionValue) → IsMax set list None
    → IsMax (λ w. set w && more w) list None
none_of_none set more list h = all_weaker (λ w. not (set w)) (λ w. not (set w && more w))
    (λ w. fewer_still (set w) (more w)) list h

-- ---- what is beyond a range

shut_left : (a b c : Bool) → b ≡ false → (a && b && c) ≡ false
shut_left a true c e = absurd (cc)
shut_left true false c e = refl
shut_left false false c e = refl

shut_right : (a b c : Bool) → (c ≡ true → ⊥) → (a && b && c) ≡ false
shut_right a b true f = absurd (f refl)
shut_right true true false f = refl
shut_right true false false f = refl
shut_right false b false f = refl

passes : (s a : Bool) → (not s || a) ≡ true → s ≡ true → a ≡ true
passes true a h k = h
passes false a h k = absurd (cc)

only_left : (a b : Bool) → (a || b) ≡ true → b ≡ false → a ≡ true
only_left true b h e = refl
only_left false b h e = absurd (cc)

-- a version is above all of the list that the range accepts
abbrev above_all : List (Span VersionValue) → List VersionValue → VersionValue → Bool
above_all r list v = list_all (λ w. not (accepts r w false) || is_above v w) list

module _ (r : List (Span VersionValue)) (locked : VersionValue) (list : List VersionValue) where
  -- nothing that is not above the locked version
  pub not_beyond-locked : (w : VersionValue) → is_above w locked ≡ false → is_beyond r locked list w ≡ false
  not_beyond-locked w e = shut_left (not (accepts r w false)) (is_above w locked) (above_all r list w) e

  -- nothing that is not above the greatest version that the range accepts
  pub not_beyond-best : (b w : VersionValue) → IsMax (λ v. accepts r v false) list (Some b) → is_above w b ≡ false
      → is_beyond r locked list w ≡ false
  not_beyond-best b w best e = shut_right (not (accepts r w false)) (is_above w locked) (above_all r list w) (λ all.
      let at = at_greatest (λ v. accepts r v false) list b best (λ x. not (accepts r x false) || is_above w x) all in
      let held = passes (accepts r b false) (is_above w b) at best.0 in
      absurd (cc))

  -- a version of the list above the locked one and above each that the range accepts
  by_all : (set : VersionValue → Bool) (v : VersionValue) → IsMax set list (Some v) → is_above v locked ≡ true
      → list_all (λ w. not (accepts r w false) || is_above v w) list ≡ true → is_beyond r locked list v ≡ true
  by_all set v newest above all =
      let own = at_greatest set list v newest (λ w. not (accepts r w false) || is_above v w) all in
      let rejected = only_left (not (accepts r v false)) (is_above v v) own (not_above_itself v) in
      and_from (not (accepts r v false) && is_above v locked) (above_all r list v)
      (and_from (not (accepts r v false)) (is_above v locked) rejected above) all

  pub beyond-best : (set : VersionValue → Bool) (v b : VersionValue) → IsMax set list (Some v)
      → is_above v locked ≡ true → IsMax (λ v. accepts r v false) list (Some b) → is_above v b ≡ true
      → is_beyond r locked list v ≡ true
  beyond-best set v b newest above best higher = by_all set v newest above
      (all_weaker (λ w. not (accepts r w false) || is_le (precedence w b)) (λ w. not (accepts r w false) || is_above v w)
      (λ w. weaker (accepts r w false) (is_le (precedence w b)) (is_above v w) (below_upto v b w higher)) list
      (upto_greatest (λ v. accepts r v false) list b best))

  pub beyond-none : (set : VersionValue → Bool) (v : VersionValue) → IsMax set list (Some v)
      → is_above v locked ≡ true → IsMax (λ v. accepts r v false) list None → is_beyond r locked list v ≡ true
  beyond-none set v newest above none = by_all set v newest above
      (all_weaker (λ w. not (accepts r w false)) (λ w. not (accepts r w false) || is_above v w)
      (λ w. either (accepts r w false) (is_above v w)) list none)
    where
      either : (s a : Bool) → not s ≡ true → (not s || a) ≡ true
      either s a h = grind arith

-- ---- which versions may be the newest

or_false : (b : Bool) → (b || false) ≡ b
or_false true = refl
or_false false = refl

-- in a list with a release those that are one
pub newest-release : (list : List VersionValue) (v : VersionValue) → IsMax is_release list (Some v)
    → IsMax (may_be_newest list) list (Some v)
newest-release list v h = subst (λ set. IsMax set list (Some v)) (λ i w. sym (same w) i) h
  where
    has : list_any is_release list ≡ true
    has = ap (list_any is_release) h.3 ∙ list_any-append is_release h.1 (v ∷ h.2)
        ∙ or_right (list_any is_release h.1) _ (ap (λ b. b || list_any is_release h.2) h.0)

    same : (w : VersionValue) → may_be_newest list w ≡ is_release w
    same w = ap (λ b. is_release w || not b) has ∙ or_false (is_release w)

-- in another one all of them
none_any : (list : List VersionValue) → list_all (λ w. not (is_release w)) list ≡ true → list_any is_release list ≡ false
none_any [] h = refl
none_any (w ∷ ws) h = grind (arith, none_any ws)

pub newest-any : (list : List VersionValue) (found : Option VersionValue) → IsMax is_release list None
    → IsMax (λ w. true) list found → IsMax (may_be_newest list) list found
newest-any list found none h = subst (λ set. IsMax set list found) (λ i w. sym (same w) i) h
  where
    same : (w : VersionValue) → may_be_newest list w ≡ true
    same w = ap (λ b. is_release w || not b) (none_any list none) ∙ or_right (is_release w) true refl

-- ---- what the calls return

module _ (r : List (Span VersionValue)) (locked : VersionValue) (list : List VersionValue) where
  -- of the versions that the range accepts, by whether the greatest is above the locked one
  pub raised-some : (v : VersionValue) (above : Bool) (found : Option VersionValue)
      → IsMax (λ w. accepts r w false) list (Some v) → above ≡ is_above v locked
      → found ≡ (if above then Some v else None) → IsMax (is_raised r locked) list found
  raised-some v true found best is e =
      subst (IsMax (is_raised r locked) list) (sym e)
      (kept (λ w. accepts r w false) list v best (λ w. is_above w locked) (sym is))
  raised-some v false found best is e =
      subst (IsMax (is_raised r locked) list) (sym e)
      (none_left (λ w. accepts r w false) list v best (λ w. is_above w locked)
      (λ w upto. not_above_upto locked v w (sym is) upto))

  pub raised-none : IsMax (λ w. accepts r w false) list None → IsMax (is_raised r locked) list None
  raised-none none = none_of_none (λ w. accepts r w false) (λ w. is_above w locked) list none

  abbrev above_best : VersionValue → Option VersionValue → Bool
  above_best v best = elim best [ Some b ↦ is_above v b | None ↦ true ]

  abbrev IsLatest : Option VersionValue → Type 0
  IsLatest found = IsMax (λ v. may_be_newest list v && is_beyond r locked list v) list found

  -- of the newest version, by whether it is above the locked one and above the best that the range accepts
  latest-out : (v : VersionValue) → IsMax (may_be_newest list) list (Some v)
      → ((w : VersionValue) → is_le (precedence w v) ≡ true → is_beyond r locked list w ≡ false) → IsLatest None
  latest-out v newest f = none_left (may_be_newest list) list v newest (is_beyond r locked list) f

  latest-in : (v : VersionValue) → IsMax (may_be_newest list) list (Some v) → is_beyond r locked list v ≡ true
      → IsLatest (Some v)
  latest-in v newest beyond = kept (may_be_newest list) list v newest (is_beyond r locked list) beyond

  latest-by : (v : VersionValue) (best : Option VersionValue) (above higher : Bool)
      → IsMax (may_be_newest list) list (Some v) → IsMax (λ w. accepts r w false) list best
      → above ≡ is_above v locked → higher ≡ above_best v best
      → IsLatest (if above && higher then Some v else None)
  latest-by v best false higher newest accepted is more = latest-out v newest
      (λ w upto. not_beyond-locked r locked list w (not_above_upto locked v w (sym is) upto))
  latest-by v (Some b) true true newest accepted is more =
      latest-in v newest (beyond-best r locked list (may_be_newest list) v b newest (sym is) accepted (sym more))
  latest-by v None true true newest accepted is more =
      latest-in v newest (beyond-none r locked list (may_be_newest list) v newest (sym is) accepted)
  latest-by v (Some b) true false newest accepted is more = latest-out v newest
      (λ w upto. not_beyond-best r locked list b w accepted (not_above_upto b v w (sym more) upto))
  latest-by v None true false newest accepted is more = absurd (cc)

  pub latest-some : (v : VersionValue) (best : Option VersionValue) (both : Bool) (found : Option VersionValue)
      → IsMax (may_be_newest list) list (Some v) → IsMax (λ w. accepts r w false) list best
      → both ≡ (is_above v locked && above_best v best) → found ≡ (if both then Some v else None) → IsLatest found
  latest-some v best both found newest accepted is e = subst IsLatest (sym (e ∙ ap (λ b. if b then Some v else None) is))
      (latest-by v best (is_above v locked) (above_best v best) newest accepted refl refl)

  pub latest-none : IsMax (may_be_newest list) list None → IsLatest None
  latest-none none = none_of_none (may_be_newest list) (is_beyond r locked list) list none
