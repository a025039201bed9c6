-- The least version beyond is the first of its kind past a mark: a lower cut of what is kept, an upper cut of what is removed,
-- or the cut below the pre-releases that an upper bound of what is kept names. First what comes next after a version.
use Rattle.nodejs_semver.proofs.Common.{After, All, All-append, All-cons, All-from_recursion, All-head, All-nil, All-tail, Before, Beside, Bool}
use Rattle.nodejs_semver.proofs.Common.{Bound, Cut, End, Equal, Far, Id, IfSome, IsLeastOf, IsTrue, Less, List, Near, None, Numeric, Option, Ordering}
use Rattle.nodejs_semver.proofs.Common.{Some, Span, Start, Unbounded, VersionValue, [], above_patch, accepts, alike_right, all_accept, all_flat}
use Rattle.nodejs_semver.proofs.Common.{all_weaker, and-true, and_from, and_parts, any_flat, any_same, any_under, ap, arith, begins_with, below_named}
use Rattle.nodejs_semver.proofs.Common.{beside, better, beyond, bool_cmp, build_by, candidates, cases_Bool, chain, common_steps, cond_both, cut_total}
use Rattle.nodejs_semver.proofs.Common.{empty_is, false, find, first_so, firsts, flat_map, fold, gt_lt, holds, if◌then◌else◌, inl, inr, irreflexive}
use Rattle.nodejs_semver.proofs.Common.{is_gt, is_le, is_past, is_past-down, is_release, least_build, least_of, length, lets_in, list_all}
use Rattle.nodejs_semver.proofs.Common.{list_all-append, list_any, list_marks, lower_cut, map, names, nat_tests, not, not-true, not_above, or-false}
use Rattle.nodejs_semver.proofs.Common.{or_cases, or_left, or_right, past_lt, pick_both, pre_cmp, precedence, precedence_total, refl, release_value}
use Rattle.nodejs_semver.proofs.Common.{removed_marks, second_so, subst, sym, tells, tied_itself, true, upper_cut, version_eq, wanted, ◌&&◌, ◌++◌}
use Rattle.nodejs_semver.{proofs.{Common.{◌<◌, ◌||◌, ◌↔◌, ◌∙◌, ◌∷◌, ◌≡◌}, Questions.Unions.by_least}, specs.Internal.Candidates.{after_cut, among}}
use Rattle.nodejs_semver.specs.Internal.Candidates.{bare, bare_release, below_at, better_kept, first_past, first_pre, improves, is_reached, kept}
use Rattle.nodejs_semver.specs.{Internal.Candidates.{kept_marks, patch_after, pre_after, release_after}, Ranges.Subsets.IsSubset}
use Rattle.semver_core.proofs.Gate.{below, in_order, le_of_lt, le_trans, lt_is, named, named_parts, not_gt_then, past_order, pre_upto, same_triple_is}
use Rattle.semver_core.proofs.{Gate.{triple_between, triple_cmp, triple_total, triple_upto, upto_by_both}, Values.NextLaws.first_of_all}
use Rattle.semver_core.{proofs.Values.NextLaws.{least_after_pre_release, least_after_release}, specs.Internal.Successors.{above_pre, below_cases}}
use Rattle.{semver_core.specs.Internal.Successors.{below_more, upto_patch, zero_least}, std.specs.Prelude.{is_none, is_some}}

pub le_not_gt : (r : Ordering) → is_le r ≡ true → is_gt r ≡ false
le_not_gt r h = not-true _ (sym (tells r).0 ∙ h)

-- Numeric 0 alone is the least pre-release
pub first_pre_least : (w v : VersionValue) → triple_cmp w v ≡ Equal → is_gt (precedence (first_pre w) v) ≡ false
first_pre_least w v e = upto_by_both (first_pre w) v (ap is_gt e) (le_not_gt _ (zero_least v.pre_release))

-- the list with Numeric 0 after it is above it, and not above what is above it
pub next_pre_above : (w : VersionValue) → is_release w ≡ false → precedence w (pre_after w) ≡ Less
next_pre_above w k = grind (arith, above_pre, below_more)

pub next_pre_least : (w v : VersionValue) → is_release w ≡ false → precedence w v ≡ Less → is_gt (precedence (pre_after w) v) ≡ false
next_pre_least w v k h = le_not_gt _ (least_after_pre_release w v (grind arith) h)

pub release_above : (w : VersionValue) → is_release w ≡ false → precedence w (bare_release w) ≡ Less
release_above w k = grind (arith, above_pre)

pub next_patch_above : (w : VersionValue) → precedence w (patch_after w) ≡ Less
next_patch_above w = above_patch w (patch_after w) refl refl (omega arith)

-- the next patch of a release is not above a release that is above it
pub next_patch_least : (w v : VersionValue) → w.pre_release ≡ [] → v.pre_release ≡ [] → precedence w v ≡ Less → is_gt (precedence (patch_after w) v) ≡ false
next_patch_least w v e f h = grind (arith, nat_tests, below_cases w v h, le_not_gt)

-- ---- the greatest mark

-- a mark that v lies past is not above g
abbrev under : VersionValue → Cut VersionValue → Cut VersionValue → Bool
under v g d = not (is_past precedence d v) || not (below g d)

under_past : (v : VersionValue) (g d : Cut VersionValue) → under v g d ≡ true → is_past precedence d v ≡ true → below g d ≡ false
under_past v g d h p = not-true _ (rw p at h)

-- some mark has what every mark has that v lies past and that no such mark is above
greatest : (v : VersionValue) (P : Cut VersionValue → Bool) (c : Cut VersionValue) (ds : List (Cut VersionValue)) → is_past precedence c v ≡ true
    → ((g : Cut VersionValue) → is_past precedence g v ≡ true → list_all (under v g) (c ∷ ds) ≡ true → P g ≡ true)
    → list_any P (c ∷ ds) ≡ true
greatest v P c [] h f = or_left (P c) false (f c h (rw (irreflexive precedence_total c, h) refl))
greatest v P c (d ∷ ds) h f = by_test (is_past precedence d v) (below c d) refl refl (λ p. greatest v P d ds p) (greatest v P c ds h)
  where
    kept : (((g : Cut VersionValue) → is_past precedence g v ≡ true → list_all (under v g) (c ∷ ds) ≡ true → P g ≡ true) → list_any P (c ∷ ds) ≡ true)
        → ((g : Cut VersionValue) → under v g c ≡ true → under v g d ≡ true) → list_any P (c ∷ d ∷ ds) ≡ true
    kept rest more = grind (arith, and_parts, and_from)

    by_test : (p t : Bool) → is_past precedence d v ≡ p → below c d ≡ t
        → (is_past precedence d v ≡ true → ((g : Cut VersionValue) → is_past precedence g v ≡ true
        → list_all (under v g) (d ∷ ds) ≡ true → P g ≡ true) → list_any P (d ∷ ds) ≡ true)
        → (((g : Cut VersionValue) → is_past precedence g v ≡ true → list_all (under v g) (c ∷ ds) ≡ true → P g ≡ true)
        → list_any P (c ∷ ds) ≡ true) → list_any P (c ∷ d ∷ ds) ≡ true
    by_test true true p t from_d from_c = grind (arith, or_right, and_from, below, not_above, precedence_total, under_past, first_so)
    by_test true false p t from_d from_c = kept from_c (λ g e. or_right (not (is_past precedence d v)) (not (below g d))
        (ap not (chain precedence_total d c g t (under_past v g c e h))))
    by_test false t p e from_d from_c = kept from_c (λ g e. or_left (not (is_past precedence d v)) (not (below g d)) (ap not p))

-- ---- versions that are let in alike

-- releases alike, and of one triple if they are none
pub record Alike (x v : VersionValue) : Type 0 where
  pub release : is_release x ≡ is_release v
  pub triple : is_release v ≡ false → triple_cmp x v ≡ Equal

pub lets_in_alike : (s : Span VersionValue) (x v : VersionValue) → Alike x v → lets_in s x ≡ lets_in s v
lets_in_alike s x v k = grind (arith, same_triple_is, alike_right, triple_total)

kind_of_release : (x v : VersionValue) → is_release x ≡ true → is_release v ≡ true → Alike x v
kind_of_release x v h k = grind arith

-- ---- the first versions past a mark

-- x is past the mark, not above v, and of v's kind
pub record Begins (g : Cut VersionValue) (v x : VersionValue) : Type 0 where
  pub past : is_past precedence g x ≡ true
  pub below : is_gt (precedence x v) ≡ false
  pub alike : Alike x v

pub past_near : (w x : VersionValue) → precedence w x ≡ Equal → is_past precedence (Beside w Near) x ≡ true
past_near w x e = grind arith

pub past_less : (w x : VersionValue) (s : Bool) → precedence w x ≡ Less → is_past precedence (Beside w s) x ≡ true
past_less w x s e = grind arith

-- what lies past the far side of a point is above the point
pub far_less : (w v : VersionValue) → is_past precedence (Beside w Far) v ≡ true → precedence w v ≡ Less
far_less w v h = grind arith

near_begins : (w v : VersionValue) → is_past precedence (Beside w Near) v ≡ true → Alike (bare w) v → Begins (Beside w Near) v (bare w)
near_begins w v h k =
    record { past = past_near w (bare w) (tied_itself precedence_total w); below = past_order w v Near h; alike = k }

begins_release : (g : Cut VersionValue) (v : VersionValue) → is_release v ≡ true → is_past precedence g v ≡ true
    → (P : VersionValue → Bool) → ((x : VersionValue) → Begins g v x → P x ≡ true) → list_any P (firsts g) ≡ true
begins_release Start v k h P f = grind (arith, le_not_gt, upto_patch, empty_is, kind_of_release)
begins_release End v k h P f = cc
begins_release (Beside w s) v k h P f = grind (arith, by_side s h, by_pre, f (release_after w s), f (bare_release w))
  where
    by_pre : is_release w ≡ false → Begins (Beside w s) v (bare_release w)
    by_pre r = record {
      past = past_less w (bare_release w) s (release_above w r);
      below = upto_by_both (bare_release w) v (triple_upto w v (past_order w v s h))
          (ap (λ l. is_gt (pre_cmp [] l)) (empty_is v.pre_release k));
      alike = kind_of_release (bare_release w) v refl k;
    }

    by_side : (s : Bool) → is_past precedence (Beside w s) v ≡ true → is_release w ≡ true → Begins (Beside w s) v (release_after w s)
    by_side Near h r = near_begins w v h (kind_of_release (bare w) v r k)
    by_side Far h r = record {
      past = past_less w (patch_after w) Far (next_patch_above w);
      below = next_patch_least w v (empty_is w.pre_release r) (empty_is v.pre_release k) (far_less w v h);
      alike = kind_of_release (patch_after w) v refl k;
    }

-- a mark not below the pre-releases of v's triple is beside one of them, if v lies past it
begins_pre : (g : Cut VersionValue) (w v : VersionValue) → is_release v ≡ false → triple_cmp w v ≡ Equal
    → below g (Beside (first_pre w) Near) ≡ false → is_past precedence g v ≡ true
    → (P : VersionValue → Bool) → ((x : VersionValue) → Begins g v x → P x ≡ true) → list_any P (firsts g) ≡ true
begins_pre Start w v k e m h P f = cc
begins_pre End w v k e m h P f = cc
begins_pre (Beside u s) w v k e m h P f =
    let up = past_order u v s h in
    let tied = triple_between (first_pre w) u v e (in_order (first_pre w) u Near s m) up in
    let pre = pre_upto u v k tied up in
    rw pre (or_left (P (after_cut u s)) _ (f (after_cut u s) (by_side s h tied pre)))
  where
    by_side : (s : Bool) → is_past precedence (Beside u s) v ≡ true → triple_cmp u v ≡ Equal → is_release u ≡ false → Begins (Beside u s) v (after_cut u s)
    by_side Near h t r = near_begins u v h (record { release = r ∙ sym k; triple = λ _. t })
    by_side Far h t r = record {
      past = past_less u (pre_after u) Far (next_pre_above u r);
      below = next_pre_least u v r (far_less u v h);
      alike = record { release = grind arith; triple = λ _. t };
    }

-- ---- the span that lets a pre-release in names the triple

-- the cut below the pre-releases that w names is not above g
record NamedBy (v : VersionValue) (g : Cut VersionValue) (w : VersionValue) : Type 0 where
  pub triple : triple_cmp w v ≡ Equal
  pub above : below g (Beside (first_pre w) Near) ≡ false

-- by a lower bound, past which v lies
named_lower : (w v : VersionValue) (s : Bool) (g : Cut VersionValue) → named w v ≡ true
    → is_past precedence (Beside w s) v ≡ true → under v g (Beside w s) ≡ true → (x : VersionValue) × NamedBy v g x
named_lower w v s g n p e =
    let (pre, tied) = named_parts w v n in
    let first = first_pre_least w w (tied_itself triple_total w) in (
      w,
      record {
        triple = tied;
        above = chain precedence_total (Beside (first_pre w) Near) (Beside w s) g
            (sym (gt_lt precedence_total (Beside (first_pre w) Near) (Beside w s))
            ∙ not_gt_then (precedence (first_pre w) w) (bool_cmp Near s) first (by_side s)) (under_past v g (Beside w s) e p);
      },
    )
  where
    by_side : (s : Bool) → is_gt (bool_cmp Near s) ≡ false
    by_side s = grind arith

-- by an upper bound, with the cut below the pre-releases that it names
named_upper : (w v : VersionValue) (g : Cut VersionValue) → is_release v ≡ false → named w v ≡ true
    → list_all (under v g) (below_at w) ≡ true → (x : VersionValue) × NamedBy v g x
named_upper w v g k n e = grind (arith, named_parts, under_past, past_up)
  where
    past_up : triple_cmp w v ≡ Equal → is_past precedence (Beside (first_pre w) Near) v ≡ true
    past_up tied = grind (arith, tells, not_gt_then, first_pre_least)

named_span : (s : Span VersionValue) (v : VersionValue) (g : Cut VersionValue) → is_release v ≡ false
    → (holds precedence s v && lets_in s v) ≡ true → list_all (under v g) (kept_marks s) ≡ true
    → (x : VersionValue) × NamedBy v g x
named_span s v g k h e =
    let (held, let_in) = and_parts (holds precedence s v) (lets_in s v) h in
    let (low, up) = and_parts (list_all (under v g) (beside s.lower)) _
    (sym (list_all-append (under v g) (beside s.lower) (below_named s.upper)) ∙ e) in
    elim (or_cases (names s.lower v) (names s.upper v) (rw k at let_in)) [
      | inl n ↦ by_lower s.lower n (first_so _ _ held) low
      | inr n ↦ by_upper s.upper n up
    ]
  where
    by_lower : (b : Bound VersionValue) → names b v ≡ true → is_past precedence (lower_cut b) v ≡ true
        → list_all (under v g) (beside b) ≡ true → (x : VersionValue) × NamedBy v g x
    by_lower Unbounded n p e = cc
    by_lower (Before w) n p e = named_lower w v Near g n p (first_so _ _ e)
    by_lower (After w) n p e = named_lower w v Far g n p (first_so _ _ e)

    by_upper : (b : Bound VersionValue) → names b v ≡ true → list_all (under v g) (below_named b) ≡ true → (x : VersionValue)
        × NamedBy v g x
    by_upper Unbounded n e = cc
    by_upper (Before w) n e = named_upper w v g k n e
    by_upper (After w) n e = named_upper w v g k n e

-- ---- what begins a piece is accepted alike

-- what lies past a cut and not above v, v lies past
pub past_up : (v x : VersionValue) → is_gt (precedence x v) ≡ false → (d : Cut VersionValue) → is_past precedence d x ≡ true → is_past precedence d v ≡ true
past_up v x h d p = past_lt precedence_total d v
    ∙ ap not (chain precedence_total d (Beside x Near) (Beside v Near) (not-true _ (sym (past_lt precedence_total d x) ∙ p))
    (sym (gt_lt precedence_total (Beside x Near) (Beside v Near)) ∙ not_gt_then (precedence x v) Equal h refl))

module _ (v x : VersionValue) (g : Cut VersionValue) (b : Begins g v x) where
  mark_past : (d : Cut VersionValue) → under v g d ≡ true → is_past precedence d v ≡ true → is_past precedence d x ≡ true
  mark_past d e p = is_past-down precedence_total d g x (under_past v g d e p) b.past

  cuts_past : (c : Bound VersionValue) → list_all (under v g) (beside c) ≡ true
      → (is_past precedence (lower_cut c) v ≡ true → is_past precedence (lower_cut c) x ≡ true)
      × (is_past precedence (upper_cut c) v ≡ true → is_past precedence (upper_cut c) x ≡ true)
  cuts_past c e = grind (arith, mark_past, first_so)

  admitted : (p q l p' q' l' : Bool) → (p ≡ true → p' ≡ true) → (q' ≡ true → q ≡ true) → l ≡ l' → (not ((p && not q) && l) || ((p' && not q') && l')) ≡ true
  admitted p q l p' q' l' f h e = grind arith

  pub kept_accept : (ss : List (Span VersionValue)) → list_all (under v g) (flat_map kept_marks ss) ≡ true
      → accepts ss v false ≡ true → accepts ss x false ≡ true
  kept_accept ss top h = any_under (λ s. holds precedence s v && lets_in s v) (λ s. holds precedence s x && lets_in s x) ss h
      (all_weaker (λ s. list_all (under v g) (kept_marks s)) _ (λ s e.
      admitted _ _ _ _ _ _ (cuts_past s.lower (first_so _ _ (sym
      (list_all-append (under v g) (beside s.lower) (below_named s.upper)) ∙ e))).0 (past_up v x b.below (upper_cut s.upper))
      (sym (lets_in_alike s x v b.alike))) ss (sym (all_flat (under v g) kept_marks ss) ∙ top))

  all_accepted : (kss : List (List (Span VersionValue))) → list_all (under v g) (flat_map list_marks kss) ≡ true
      → all_accept kss v ≡ true → all_accept kss x ≡ true
  all_accepted [] top h = refl
  all_accepted (ss ∷ kss) top h = grind (arith, and_parts, list_all-append, kept_accept, all_accepted kss)

  pub removed_accept : (ss : List (Span VersionValue)) → list_all (under v g) (flat_map removed_marks ss) ≡ true
      → accepts ss x false ≡ true → accepts ss v false ≡ true
  removed_accept ss top h = any_under (λ s. holds precedence s x && lets_in s x) (λ s. holds precedence s v && lets_in s v) ss h
      (all_weaker (λ s. list_all (under v g) (removed_marks s)) _ (λ s e.
      admitted _ _ _ _ _ _ (past_up v x b.below (lower_cut s.lower)) (cuts_past s.upper e).1 (lets_in_alike s x v b.alike)) ss
      (sym (all_flat (under v g) removed_marks ss) ∙ top))

-- whatever is in the set, a candidate that is not above it is in the set too
pub candidate : (ks : List (Span VersionValue)) (kss : List (List (Span VersionValue))) (ls : List (Span VersionValue))
    (v : VersionValue) → among ks kss ls v ≡ true
    → list_any (λ x. among ks kss ls x && is_le (precedence x v)) (candidates (ks ∷ kss) ls) ≡ true
candidate ks kss ls v h = any_flat found firsts (Start ∷ marks) ∙ greatest v (λ g. list_any found (firsts g)) Start marks refl at
  where
    found : VersionValue → Bool
    found x = among ks kss ls x && is_le (precedence x v)

    marks : List (Cut VersionValue)
    marks = flat_map list_marks (ks ∷ kss) ++ flat_map removed_marks ls

    at : (g : Cut VersionValue) → is_past precedence g v ≡ true → list_all (under v g) (Start ∷ marks) ≡ true → list_any found (firsts g) ≡ true
    at g past top =
        let tops = and_parts (list_all (under v g) (flat_map list_marks (ks ∷ kss))) _
        (sym (list_all-append (under v g) (flat_map list_marks (ks ∷ kss)) (flat_map removed_marks ls))
        ∙ second_so (under v g Start) (list_all (under v g) marks) top) in
        let kept = and_parts (list_all (under v g) (list_marks ks)) _
        (sym (list_all-append (under v g) (list_marks ks) (flat_map list_marks kss)) ∙ tops.0) in
        let done : (x : VersionValue) → Begins g v x → found x ≡ true = λ x b.
        grind (
          arith,
          all_accepted v x g b kss kept.1,
          kept_accept v x g b ks kept.0,
          removed_accept v x g b ls tops.1,
          tells (precedence x v),
          b.below,
        ) in
        elim (cases_Bool (is_release v)) [
          | inl r ↦ begins_release g v r past found done
          | inr r ↦
              let (s, (admitted, span)) = pick_both (λ s. holds precedence s v && lets_in s v)
              (λ s. list_all (under v g) (kept_marks s)) ks (first_so _ _ (second_so (all_accept kss v) _ h))
              (sym (all_flat (under v g) kept_marks ks) ∙ kept.0) in
              let (w, n) = named_span s v g r admitted span in
              begins_pre g w v r n.triple n.above past found done
        ]

-- ---- the least of a list of versions

module _ (set : VersionValue → Bool) where
  -- ---- what is best so far is in the set, and no version of it that was seen is below

  fold_fine : (best : Option VersionValue) (xs : List VersionValue) → IfSome best (λ b. set b ≡ true) → IfSome (fold (better set) best xs) (λ b. set b ≡ true)
  fold_fine best [] h = h
  fold_fine best (x ∷ xs) h = grind (arith, fold_fine (better set best x) xs)

  -- v is reached by the best so far, or by x
  reaches : (best : Option VersionValue) (x v : VersionValue) → (is_reached best v || (set x && is_le (precedence x v))) ≡ true
      → is_reached (better set best x) v ≡ true
  reaches None x v h = grind arith
  reaches (Some b) x v h = cond_both (not (is_le (precedence b x)) && set x) (Some x) (Some b) (λ o. is_reached o v ≡ true)
      (λ e. replaced (is_le (precedence b v)) (set x) (is_le (precedence x v)) h
      (λ k. le_trans precedence_total x b v (le_of_lt (precedence x b) (lt_is precedence_total x b ∙ first_so _ _ e)) k))
      (λ e. kept (is_le (precedence b v)) (set x) (is_le (precedence x v)) (is_le (precedence b x)) h
      e (le_trans precedence_total b x v))
    where
      replaced : (r s l : Bool) → (r || (s && l)) ≡ true → (r ≡ true → l ≡ true) → l ≡ true
      replaced r s l h f = grind arith

      kept : (r s l d : Bool) → (r || (s && l)) ≡ true → (not d && s) ≡ false → (d ≡ true → l ≡ true → r ≡ true) → r ≡ true
      kept r s l d h e f = grind arith

  fold_reaches : (best : Option VersionValue) (xs : List VersionValue) (v : VersionValue)
      → (is_reached best v || list_any (λ x. set x && is_le (precedence x v)) xs) ≡ true
      → is_reached (fold (better set) best xs) v ≡ true
  fold_reaches best [] v h = sym (or-false _) ∙ h
  fold_reaches best (x ∷ xs) v h = fold_reaches (better set best x) xs v (shift (is_reached best v) (set x && is_le (precedence x v))
      (list_any (λ x. set x && is_le (precedence x v)) xs) _ h (reaches best x v))
    where
      shift : (r a l q : Bool) → (r || (a || l)) ≡ true → ((r || a) ≡ true → q ≡ true) → (q || l) ≡ true
      shift r a l q h f = grind arith

  -- ---- nothing from w on improves on a best that is not above w

  no_better : (copies : Bool) (best : Option VersionValue) (w x : VersionValue) → is_reached best w ≡ true → is_le (precedence w x) ≡ true
      → better_kept copies set best x ≡ best
  no_better copies None w x h k = cc
  no_better copies (Some b) w x h k = ap (λ q. if q && set x then Some (kept copies x) else Some b) (ap not (le_trans precedence_total b w x h k))

  pub reached : (copies : Bool) (best : Option VersionValue) (w : VersionValue) (s : Bool) → is_reached best w ≡ true
      → fold (better_kept copies set) best (firsts (Beside w s)) ≡ best
  reached copies best w s h =
      grind (arith, no_better, tied_itself precedence_total w, next_patch_above w, next_pre_above w, release_above w)

  pub reached_near : (copies : Bool) (best : Option VersionValue) (w : VersionValue) → is_reached best w ≡ true
      → fold (better_kept copies set) best (firsts (Beside w Near)) ≡ best
  reached_near copies best w h = reached copies best w Near h

  -- the least version that a list names, where each version of the set has one of the list that is not above it
  pub least_named : (xs : List VersionValue) → ((v : VersionValue) → set v ≡ true → list_any (λ x. set x && is_le (precedence x v)) xs ≡ true)
      → IsLeastOf set (least_of set xs)
  least_named xs f = grind (arith, fold_fine None xs, fold_reaches None xs)

-- a set with the same versions has the same least one
same_least : (p q : VersionValue → Bool) (r : Option VersionValue) → ((v : VersionValue) → p v ≡ q v) → IsLeastOf p r → IsLeastOf q r
same_least p q r e h = subst (λ (set : VersionValue → Bool). IsLeastOf set r) (λ i v. e v i) h

-- the least candidate of the set is its least version
pub least_wanted : (kss : List (List (Span VersionValue))) (ls : List (Span VersionValue)) → 0 < length kss
    → IsLeastOf (wanted kss ls) (least_of (wanted kss ls) (candidates kss ls))
least_wanted [] ls n = absurd (omega arith)
least_wanted (ks ∷ kss) ls n = subst (λ (set : VersionValue → Bool). IsLeastOf set (least_of set (candidates (ks ∷ kss) ls)))
    (λ i v. same v i) (least_named (among ks kss ls) (candidates (ks ∷ kss) ls) (candidate ks kss ls))
  where
    same : (v : VersionValue) → among ks kss ls v ≡ wanted (ks ∷ kss) ls v
    same v = grind arith

-- of no lists it is the least version, and of more the least that all accept and nothing rejects
pub least_of_none : (lists : List (List (Span VersionValue))) (v : VersionValue) → length lists < 1
    → v ≡ record (release_value 0 0 0) { pre_release = Numeric 0 ∷ [] } → IsLeastOf (all_accept lists) (Some v)
least_of_none [] v n e = rw e (refl, λ w h. first_of_all w)
least_of_none (ks ∷ kss) v n e = absurd (omega arith)

-- of one list it is the least beyond the other
pub least_of_one : (ks ls : List (Span VersionValue)) (r : Option VersionValue) → IsLeastOf (wanted (ks ∷ []) ls) r → IsLeastOf (beyond ks ls) r
least_of_one ks ls r h = same_least (wanted (ks ∷ []) ls) (beyond ks ls) r (λ v. ap (λ a. a && not (accepts ls v false)) (and-true _)) h

pub least_of_itself : (ks : List (Span VersionValue)) (r : Option VersionValue) → IsLeastOf (beyond ks []) r → IsLeastOf (λ v. accepts ks v false) r
least_of_itself ks r h = same_least (beyond ks []) (λ v. accepts ks v false) r (λ v. and-true _) h

-- ---- no candidate has a build

abbrev IsBare : VersionValue → Type 0
IsBare v = v.build ≡ []

all_bare : (ds : List (Cut VersionValue)) → All IsBare (flat_map firsts ds)
all_bare [] = All-nil IsBare
all_bare (d ∷ ds) = grind (arith, All-append, All-from_recursion, all_bare ds)

fold_bare : (set : VersionValue → Bool) (best : Option VersionValue) (xs : List VersionValue) → IfSome best IsBare
    → All IsBare xs → IfSome (fold (better set) best xs) IsBare
fold_bare set best [] h e = h
fold_bare set best (x ∷ xs) h e = fold_bare set (better set best x) xs (cond_both (improves best x && set x) (Some x) best (λ o. IfSome o IsBare)
    (λ _. All-head IsBare x xs e) (λ _. h)) (All-tail IsBare x xs e)

pub list_bare : (set : VersionValue → Bool) (xs : List VersionValue) (r : Option VersionValue) → All (λ v. v.build ≡ []) xs
    → r ≡ least_of set xs → IfSome r (λ v. v.build ≡ [])
list_bare set xs r bare e = grind (arith, fold_bare)

pub least_bare : (set : VersionValue → Bool) (kss : List (List (Span VersionValue))) (ls : List (Span VersionValue))
    (r : Option VersionValue) → r ≡ least_of set (candidates kss ls) → IfSome r (λ v. v.build ≡ [])
least_bare set kss ls r e = list_bare set (candidates kss ls) r (all_bare (Start ∷ (flat_map list_marks kss ++ flat_map removed_marks ls))) e

-- ---- a version with another build is accepted alike

admits_built : (s : Span VersionValue) (v : VersionValue) (b : List Id)
    → (holds precedence s (record v { build = b }) && lets_in s (record v { build = b })) ≡ (holds precedence s v && lets_in s v)
admits_built s v b = grind (arith, alike_right, cut_total, precedence_total, lets_in_alike, tied_itself, triple_total)

accepts_built : (ks : List (Span VersionValue)) (v : VersionValue) (b : List Id) → accepts ks (record v { build = b }) false ≡ accepts ks v false
accepts_built ks v b = any_same _ _ (λ s. admits_built s v b) ks

all_built : (kss : List (List (Span VersionValue))) (v : VersionValue) (b : List Id) → all_accept kss (record v { build = b }) ≡ all_accept kss v
all_built [] v b = refl
all_built (ks ∷ kss) v b = grind (arith, accepts_built, all_built kss v b)

pub wanted_bare : (w : VersionValue) (kss : List (List (Span VersionValue))) (ls : List (Span VersionValue))
    → wanted kss ls (bare w) ≡ wanted kss ls w
wanted_bare w kss ls = grind (arith, all_built, accepts_built)

pub better_bare : (copies : Bool) (set : VersionValue → Bool) (b : Bool) (best : Option VersionValue) (w : VersionValue)
    → b ≡ (improves best w && set (bare w)) → (if b then Some (kept copies (bare w)) else best) ≡ better_kept copies set best (bare w)
better_bare copies set b best w e = grind arith

-- a search that copies nothing finds something where one that copies does
same_found : (set : VersionValue → Bool) (copies : Bool) (xs : List VersionValue) (best other : Option VersionValue)
    → is_none best ≡ is_none other → is_none (fold (better_kept copies set) best xs) ≡ is_none (fold (better set) other xs)
same_found set copies [] best other e = e
same_found set copies (x ∷ xs) best other e = same_found set copies xs _ _ (grind arith)

pub answered : {A : Type 0} (r : Option A) (answer : Bool) → is_some r ≡ not answer → answer ≡ is_none r
answered r answer e = grind arith

-- it finds nothing where there is nothing beyond
pub found_beyond : (copies : Bool) (ks ls : List (Span VersionValue)) (kss : List (List (Span VersionValue))) (removed : List (Span VersionValue))
    (r : Option VersionValue) (answer : Bool) → kss ≡ ks ∷ [] → removed ≡ ls → is_some r ≡ not answer
    → r ≡ fold (better_kept copies (wanted kss removed)) None (candidates kss removed) → IsTrue answer ↔ IsSubset false ks ls
found_beyond copies ks ls kss removed r answer k l is e =
    rw (answered r answer is, e, k, l, same_found (wanted (ks ∷ []) ls) copies (candidates (ks ∷ []) ls) None None refl)
    (by_least ks ls (beyond ks ls) false (λ v. refl) _ (least_of_one ks ls _ (least_wanted (ks ∷ []) ls (omega arith))))

-- the least beyond nothing is the least that is accepted, whatever its build
pub least_accepted : (ks : List (Span VersionValue)) (v : VersionValue) (b : List Id) → IsLeastOf (beyond ks []) (Some v)
    → IsLeastOf (λ w. accepts ks w false) (Some (record v { build = b }))
least_accepted ks v b h = grind (arith, accepts_built)

find_same : {X : Type 0} (p q : X → Bool) (xs : List X) → ((x : X) → p x ≡ q x) → find p xs ≡ find q xs
find_same p q xs f = λ i. find (λ x. f x i) xs

pub least_build_built : (ks : List (Span VersionValue)) (v : VersionValue) (b : List Id) → least_build ks (record v { build = b }) ≡ least_build ks v
least_build_built ks v b = grind (arith, find_same, admits_built)

-- ---- the least version that spans hold, the first past one of their lower cuts

-- the first version past a lower cut is past it, and not above any that is
past_lower : (b : Bound VersionValue) → is_past precedence (lower_cut b) (first_past b) ≡ true
past_lower Unbounded = refl
past_lower (Before w) = past_near w w (tied_itself precedence_total w)
past_lower (After w) = grind (arith, nat_tests, common_steps, past_less, above_patch, next_pre_above)

least_past : (b : Bound VersionValue) (v : VersionValue) → is_past precedence (lower_cut b) v ≡ true → is_gt (precedence (first_past b) v) ≡ false
least_past Unbounded v h = le_not_gt _ (first_of_all v)
least_past (Before w) v h = past_order w v Near h
least_past (After w) v h = grind (arith, le_not_gt, least_after_release w v, empty_is w.pre_release, far_less, next_pre_least)

-- the first version past the lower cut of a span that holds v is held as well
least_in : (s : Span VersionValue) (v : VersionValue) → holds precedence s v ≡ true → is_gt (precedence (first_past s.lower) v) ≡ false
least_in s v h = grind (arith, nat_tests, common_steps, least_past)

first_held : (s : Span VersionValue) (v : VersionValue) → holds precedence s v ≡ true → holds precedence s (first_past s.lower) ≡ true
first_held s v h = grind (arith, past_lower, past_up v (first_past s.lower) (least_in s v h))

abbrev pub firsts_past : List (Span VersionValue) → List VersionValue
firsts_past ss = map (λ s. first_past s.lower) ss

-- whatever the spans hold, a first version that is not above it is in every set that has what they hold
held_candidate : (set : VersionValue → Bool) (ss : List (Span VersionValue)) (v : VersionValue)
    → ((x : VersionValue) → accepts ss x true ≡ true → set x ≡ true) → accepts ss v true ≡ true
    → list_any (λ x. set x && is_le (precedence x v)) (firsts_past ss) ≡ true
held_candidate set [] v f h = cc
held_candidate set (s ∷ ss) v f h = elim (or_cases (holds precedence s v && true) (accepts ss v true) h) [
  | inl k ↦
      let x = first_past s.lower in
      let held_v = first_so (holds precedence s v) true k in
      or_left (set x && is_le (precedence x v)) _ (and_from (set x) (is_le (precedence x v))
      (f x (or_left (holds precedence s x && true) (accepts ss x true) (ap (λ q. q && true) (first_held s v held_v))))
      ((tells (precedence x v)).0 ∙ ap not (least_in s v held_v)))
  | inr k ↦
      or_right (set (first_past s.lower) && is_le (precedence (first_past s.lower) v)) _
      (held_candidate set ss v (λ x e. f x (or_right (holds precedence s x && true) (accepts ss x true) e)) k)
]

-- the least first version that is held is the least version that is held, and it has no build
pub least_held : (ss : List (Span VersionValue)) → IsLeastOf (λ v. accepts ss v true) (least_of (λ v. accepts ss v true) (firsts_past ss))
least_held ss = grind (arith, nat_tests, common_steps, least_named, held_candidate)

bare_firsts : (ss : List (Span VersionValue)) → All (λ v. v.build ≡ []) (firsts_past ss)
bare_firsts [] = All-nil (λ v. v.build ≡ [])
bare_firsts (s ∷ ss) = All-cons IsBare (first_past s.lower) (firsts_past ss) (grind arith) (bare_firsts ss)

pub held_bare : (ss : List (Span VersionValue)) (r : Option VersionValue) → r ≡ least_of (λ v. accepts ss v true) (firsts_past ss)
    → IfSome r (λ v. v.build ≡ [])
held_bare ss r e = grind (arith, list_bare, bare_firsts)

-- a version without its build is held as it is with it
pub held_alike : (w : VersionValue) (ss : List (Span VersionValue)) → accepts ss (bare w) true ≡ accepts ss w true
held_alike w ss = grind (arith, nat_tests, common_steps, cut_total, precedence_total, triple_total, any_same)

-- ---- the build of a least version, that of the lower bound from which it comes

-- the first that passes is found behind those that do not
found : {X : Type 0} (p : X → Bool) (front : List X) (x : X) (back : List X) → list_any p front ≡ false → p x ≡ true → find p (front ++ x ∷ back) ≡ Some x
found p [] x back none h = rw h refl
found p (y ∷ front) x back none h = grind (arith, found p front x back)

first : (front back : List (Span VersionValue)) (s : Span VersionValue) (v : VersionValue) → accepts front v false ≡ false
    → accepts (s ∷ []) v false ≡ true → least_build (front ++ s ∷ back) v ≡ build_by (begins_with s.lower) v
first front back s v none one = grind (arith, nat_tests, common_steps, found, or-false)

pub build_of_bound : (front back : List (Span VersionValue)) (s : Span VersionValue) (v x : VersionValue)
    → accepts front v false ≡ false → accepts (s ∷ []) v false ≡ true → begins_with s.lower ≡ Some x
    → version_eq x v ≡ true → least_build (front ++ s ∷ back) v ≡ x.build
build_of_bound front back s v x none one begins tie = grind (arith, nat_tests, common_steps, first)

pub build_of_none : (front back : List (Span VersionValue)) (s : Span VersionValue) (v : VersionValue)
    → accepts front v false ≡ false → accepts (s ∷ []) v false ≡ true
    → ((x : VersionValue) → begins_with s.lower ≡ Some x → version_eq x v ≡ false) → least_build (front ++ s ∷ back) v ≡ []
build_of_none front back s v none one other = grind (arith, nat_tests, common_steps, first)
