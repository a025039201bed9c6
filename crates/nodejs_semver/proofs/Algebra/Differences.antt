-- What is left of a list is what of each of its spans lies within what is left of the whole line.
use Rattle.nodejs_semver.proofs.Common.{AllWithin, Bool, Bound, Cut, Err, IfOk, IsTotalOrder, IsTrue, List, None, Option, Ordering, Result, Some}
use Rattle.nodejs_semver.proofs.Common.{Span, Start, Unbounded, [], and-false, and_from, and_parts, ap, append-nil, append_assoc, ap₂, arith}
use Rattle.nodejs_semver.proofs.Common.{below_lesser, below_upto, between, between_from, between_parts, cases_Bool, clip, cut_cmp, drop, false}
use Rattle.nodejs_semver.proofs.Common.{flat_flat, flat_map, flat_map-append, flat_same, fold-append, get_or, get_or-drop, greater_below}
use Rattle.nodejs_semver.proofs.Common.{greater_lower, gt_lt, if◌then◌else◌, inl, inr, irreflexive, is_interval, is_lt, is_some, is_some-interval}
use Rattle.nodejs_semver.proofs.Common.{left_above, left_below, length, length-drop, lesser_upper, list_all, lower_cut, lt, minus, not, not_above}
use Rattle.nodejs_semver.proofs.Common.{not_below, not_if, one_way, option_to_list, refl, remainder, remainders_by, subst, suc, sym, take, take_all}
use Rattle.nodejs_semver.proofs.Common.{true, turned_lower, turned_upper, upper_cut, upto_below, zero, ℕ, ◌&&◌, ◌++◌, ◌+◌, ◌<◌, ◌∙◌, ◌∷◌, ◌≡◌, ◌≤◌}
use Rattle.nodejs_semver.{proofs.Dividing.RunLemmas.{greater_assoc, lesser_assoc}, specs.Internal.Along.IsAlong}
use Rattle.std.specs.{List.Sorted.{IsPartitionPoint, IsPartitionedBy}, Result.{IsOkAnd, MatchResult, OnErr}}

-- one element or none
abbrev pick : {A : Type 0} → Bool → A → List A
pick i x = option_to_list (if i then Some x else None)

flat_pick : {A B : Type 0} (f : A → List B) (i : Bool) (x : A) → flat_map f (pick i x) ≡ (if i then f x else [])
flat_pick f i x = grind (arith, append-nil)

nested : {A : Type 0} (i j : Bool) (x : A) → (if i then pick j x else []) ≡ pick (i && j) x
nested i j x = grind arith

single : {A : Type 0} (i : Bool) (x : A) → (if i then x ∷ [] else []) ≡ pick i x ++ []
single i x = grind arith

in_two : {A : Type 0} (i : Bool) (l m n : List A) → (i ≡ true → l ≡ m ++ n) → (if i then l else []) ≡ (if i then m else []) ++ (if i then n else [])
in_two i l m n h = grind arith

all_five : (a b c d e : Bool) → (((a && b) && (c && d)) && e) ≡ ((a && (b && true)) && (c && (d && e)))
all_five a b c d e = grind arith

five_all : (a b c d e : Bool) → (((a && b) && (c && d)) && (e && true)) ≡ (((e && a) && b) && (c && d))
five_all a b c d e = grind arith

module _ {V : Type 0} {R : V → V → Ordering} (o : IsTotalOrder R) where
  abbrev whole : Span V
  whole = record { lower = Unbounded; upper = Unbounded }

  abbrev clips : List (Span V) → Span V → List (Span V)
  clips cs s = flat_map (λ c. option_to_list (clip R s c)) cs

  abbrev both : Span V → Span V → Span V
  both s t = record { lower = greater_lower R s.lower t.lower; upper = lesser_upper R s.upper t.upper }

  abbrev clipped : Span V → Span V → Span V
  clipped s c = record { lower = greater_lower R c.lower s.lower; upper = lesser_upper R s.upper c.upper }

  in_clip : (s c : Span V) → is_interval R (clipped s c) ≡ true
      → ((lt o (lower_cut c.lower) (upper_cut s.upper) ≡ true) × (lt o (lower_cut c.lower) (upper_cut c.upper) ≡ true))
      × ((lt o (lower_cut s.lower) (upper_cut s.upper) ≡ true) × (lt o (lower_cut s.lower) (upper_cut c.upper) ≡ true))
  in_clip s c h = between_parts o c.lower s.lower s.upper c.upper h

  -- what of an interval lies below a lower bound of another, and what above an upper one, is what that one leaves
  abbrev below : Span V → Bound V → List (Span V)
  below s b = pick (lt o (lower_cut s.lower) (lower_cut b)) (record { lower = s.lower; upper = lesser_upper R s.upper b })

  abbrev above : Span V → Bound V → List (Span V)
  above s b = pick (lt o (upper_cut b) (upper_cut s.upper)) (record { lower = greater_lower R b s.lower; upper = s.upper })

  left_lower : (s t : Span V) → lt o (lower_cut s.lower) (lower_cut t.lower) ≡ true
      → lesser_upper R s.upper t.lower ≡ (if lt o (lower_cut t.lower) (upper_cut s.upper) then t.lower else s.upper)
  left_lower s t h = grind (arith, gt_lt, turned_lower)

  left_upper : (s t : Span V) → lt o (upper_cut t.upper) (upper_cut s.upper) ≡ true
      → greater_lower R t.upper s.lower ≡ (if lt o (lower_cut s.lower) (upper_cut t.upper) then t.upper else s.lower)
  left_upper s t h = grind (arith, gt_lt, turned_upper)

  below_met : (s t : Span V) → lt o (lower_cut t.lower) (upper_cut s.upper) ≡ true → option_to_list (left_below R s t) ≡ below s t.lower
  below_met s t h = grind (arith, left_lower)

  above_met : (s t : Span V) → lt o (lower_cut s.lower) (upper_cut t.upper) ≡ true → option_to_list (left_above R s t) ≡ above s t.upper
  above_met s t h = grind (arith, left_upper)

  remainder_is : (s t : Span V) → is_interval R s ≡ true → is_interval R t ≡ true → remainder R s t ≡ below s t.lower ++ above s t.upper
  remainder_is s t h k = remainders_by o s t (λ r. (option_to_list r.0 ++ option_to_list r.1) ≡ below s t.lower ++ above s t.upper)
      (λ e. grind (arith, between_parts, below_met, above_met))
      (λ e. elim (cases_Bool (lt o (lower_cut t.lower) (upper_cut s.upper))) [
        | inr f ↦
            let i = below_upto o (lower_cut s.lower) (upper_cut s.upper) (lower_cut t.lower) h f in
            rw (i, not_below o (lower_cut t.lower) (upper_cut t.upper) (upper_cut s.upper) k f, left_lower s t i, f) refl
        | inl f ↦
            let n = not_if (lt o (lower_cut s.lower) (upper_cut t.upper)) _ (λ m. between_from o s.lower t.lower s.upper t.upper h m f k) e in
            let j = upto_below o (upper_cut t.upper) (lower_cut s.lower) (upper_cut s.upper) n h in
            rw (not_above o (lower_cut s.lower) (lower_cut t.lower) (upper_cut t.upper) k n, j, left_upper s t j, n) refl
      ])

  -- what is clipped from a piece of c is a piece of what is clipped from c
  clip_piece : (s c y z : Span V) (i j : Bool) → z ≡ clipped s y → (is_interval R (clipped s c) && i) ≡ (j && is_interval R (clipped s y))
      → (if is_interval R (clipped s c) then pick i z else []) ≡ clips (pick j y) s
  clip_piece s c y z i j e f = grind (arith, nested, flat_pick)

  clip_below : (s c : Span V) (b : Bound V) → (if is_interval R (clipped s c) then below (clipped s c) b else [])
      ≡ clips (below c b) s
  clip_below s c b = clip_piece s c _ _ _ _ (ap (λ (u : Bound V). record { lower = greater_lower R c.lower s.lower; upper = u })
      (lesser_assoc o s.upper c.upper b)) (rw (
        between o c.lower s.lower s.upper c.upper,
        greater_below o c.lower s.lower (lower_cut b),
        between o c.lower s.lower s.upper (lesser_upper R c.upper b),
        below_lesser o c.upper b,
        below_lesser o c.upper b,
      ) (elim (cases_Bool (lt o (lower_cut c.lower) (lower_cut b))) [
        | inl h ↦ rw (turned_lower o b _ h, h) (search all_five)
        | inr h ↦ rw h (and-false _)
      ]))

  clip_above : (s c : Span V) (b : Bound V) → (if is_interval R (clipped s c) then above (clipped s c) b else [])
      ≡ clips (above c b) s
  clip_above s c b = clip_piece s c _ _ _ _ (ap (λ (u : Bound V). record { lower = u; upper = lesser_upper R s.upper c.upper })
      (sym (greater_assoc o b c.lower s.lower))) (rw (
        between o c.lower s.lower s.upper c.upper,
        below_lesser o s.upper c.upper (upper_cut b),
        between o (greater_lower R b c.lower) s.lower s.upper c.upper,
        greater_below o b c.lower,
        greater_below o b c.lower,
      ) (elim (cases_Bool (lt o (upper_cut b) (upper_cut c.upper))) [
        | inl h ↦ rw (turned_upper o b _ h, h) (search five_all)
        | inr h ↦ rw (h, and-false (lt o (upper_cut b) (upper_cut s.upper)), and-false _) refl
      ]))

  -- t leaves of what s cuts from c what s cuts from what t leaves of c
  unmet : (s t : Span V) → is_interval R (both s t) ≡ false → remainder R s t ≡ s ∷ []
  unmet s t h = remainders_by o s t (λ r. (option_to_list r.0 ++ option_to_list r.1) ≡ s ∷ []) (λ e. cc) (λ _. refl)

  clip_remainder : (s c t : Span V) → flat_map (λ m. remainder R m t) (option_to_list (clip R s c)) ≡ clips (remainder R c t) s
  clip_remainder s c t = flat_pick (λ m. remainder R m t) (is_interval R (clipped s c)) (clipped s c) ∙ elim (cases_Bool (is_interval R c && is_interval R t)) [
    | inl h ↦
        let (i, j) = and_parts (is_interval R c) (is_interval R t) h in
        in_two _ _ _ _ (λ k. remainder_is (clipped s c) t k j)
        ∙ ap₂ (λ l k. l ++ k) (clip_below s c t.lower) (clip_above s c t.upper)
        ∙ sym (ap (λ l. clips l s) (remainder_is c t i j)
        ∙ flat_map-append (λ d. option_to_list (clip R s d)) (below c t.lower) (above c t.upper))
    | inr h ↦
        let apart = not_if (is_interval R (both c t)) _ (λ e. let m = between_parts o c.lower t.lower c.upper t.upper e in
        and_from _ _ m.0.0 m.1.1) h in
        let unclipped = not_if (is_interval R (both (clipped s c) t)) _ (λ e.
        let m = between_parts o (clipped s c).lower t.lower (clipped s c).upper t.upper e in
        and_from _ _ (in_clip s c m.0.0).0.1 m.1.1) h in
        rw (unmet (clipped s c) t unclipped, unmet c t apart) (single (is_interval R (clipped s c)) (clipped s c))
  ]

  -- and so for lists
  clips_remainder : (s t : Span V) (cs : List (Span V)) → flat_map (λ m. remainder R m t) (clips cs s) ≡ clips (flat_map (λ c. remainder R c t) cs) s
  clips_remainder s t cs = flat_flat (λ m. remainder R m t) (λ c. option_to_list (clip R s c)) cs ∙ flat_same _ _ (λ c. clip_remainder s c t) cs
      ∙ sym (flat_flat (λ d. option_to_list (clip R s d)) (λ c. remainder R c t) cs)

  minus_clips : (cs ss ts : List (Span V)) → minus R (flat_map (clips cs) ss) ts ≡ flat_map (clips (minus R cs ts)) ss
  minus_clips cs ss [] = refl
  minus_clips cs ss (t ∷ ts) = ap (λ l. minus R l ts)
      (flat_flat (λ s. remainder R s t) (clips cs) ss ∙ flat_same _ (clips (flat_map (λ c. remainder R c t) cs))
      (λ s. clips_remainder s t cs) ss) ∙ minus_clips (flat_map (λ c. remainder R c t) cs) ss ts

  -- intervals lie within the whole line
  all_whole : (ss : List (Span V)) → list_all (is_interval R) ss ≡ true → flat_map (clips (whole ∷ [])) ss ≡ ss
  all_whole [] h = refl
  all_whole (s ∷ ss) h = grind (arith, all_whole ss)

  -- what is left of the line stands in order along it
  along_lower : (a b : Cut V) (cs : List (Span V)) → lt o b a ≡ false → IsAlong R b cs → IsAlong R a cs
  along_lower a b [] h k = tt
  along_lower a b (c ∷ cs) h k = grind (arith, below_upto)

  along_above : (b : Cut V) (c t : Span V) (cs : List (Span V)) → is_interval R c ≡ true → IsAlong R (upper_cut c.upper) cs
      → lt o (upper_cut c.upper) b ≡ false → (lt o (upper_cut t.upper) b && lt o (lower_cut c.lower) b) ≡ false
      → IsAlong R b (above c t.upper ++ cs)
  along_above b c t cs h k p q = grind (arith, along_lower, turned_upper, greater_below)

  along_remainder : (a : Cut V) (c t : Span V) (cs : List (Span V)) → IsAlong R a (c ∷ cs) → IsAlong R a (remainder R c t ++ cs)
  along_remainder a c t cs h = elim (cases_Bool (is_interval R t)) [
    | inr k ↦
        subst (λ l. IsAlong R a (l ++ cs))
        (sym (unmet c t (not_if _ _ (λ e. (between_parts o c.lower t.lower c.upper t.upper e).1.1) k))) h
    | inl k ↦
        let end : Bound V = lesser_upper R c.upper t.lower in
        subst (λ l. IsAlong R a (l ++ cs)) (sym (remainder_is c t h.1.0 k)) (rw append_assoc
        (elim (cases_Bool (lt o (lower_cut c.lower) (lower_cut t.lower))) [
          | inr f ↦
              rw f (along_above a c t cs h.1.0 h.1.1 (not_below o (lower_cut c.lower) (upper_cut c.upper) a h.1.0 h.0)
              (rw h.0 (and-false _)))
          | inl i ↦
              let turned = turned_lower o t.lower _ i in
              rw i (
                h.0,
                (
                  below_lesser o c.upper t.lower (lower_cut c.lower) ∙ rw (turned, i, h.1.0) refl,
                  along_above (upper_cut end) c t cs h.1.0 h.1.1
                      (below_lesser o c.upper t.lower (upper_cut c.upper) ∙ rw (irreflexive o (upper_cut c.upper)) refl)
                      (rw (below_lesser o c.upper t.lower (upper_cut t.upper), turned, one_way o (lower_cut t.lower) _ k)
                      (rw (and-false (lt o (upper_cut t.upper) (upper_cut c.upper))) refl)),
                ),
              )
        ]))
  ]

  along_remainders : (a : Cut V) (cs : List (Span V)) (t : Span V) → IsAlong R a cs → IsAlong R a (flat_map (λ c. remainder R c t) cs)
  along_remainders a [] t h = tt
  along_remainders a (c ∷ cs) t h = grind (arith, along_remainder a c t, along_remainders (upper_cut c.upper) cs t)

  along_minus : (a : Cut V) (cs ts : List (Span V)) → IsAlong R a cs → IsAlong R a (minus R cs ts)
  along_minus a cs [] h = h
  along_minus a cs (t ∷ ts) h = along_minus a (flat_map (λ c. remainder R c t) cs) ts (along_remainders a cs t h)

  along_all : (a : Cut V) (cs : List (Span V)) → IsAlong R a cs → list_all (is_interval R) cs ≡ true
  along_all a [] h = refl
  along_all a (c ∷ cs) h = grind (arith, along_all (upper_cut c.upper) cs)

  pub along-gaps : (ts cs : List (Span V)) → cs ≡ minus R (whole ∷ []) ts → IsAlong R Start cs
  along-gaps ts cs e = grind (arith, along_minus Start)

  -- what is cut from each span by what is left of the whole line
  pub minus-clips : (ss ts cs : List (Span V)) → list_all (is_interval R) ss ≡ true → cs ≡ minus R (whole ∷ []) ts
      → flat_map (λ s. flat_map (λ c. option_to_list (clip R s c)) cs) ss ≡ minus R ss ts
  minus-clips ss ts cs h e = ap (λ (l : List (Span V)). flat_map (clips l) ss) e ∙ sym (minus_clips (whole ∷ []) ss ts)
      ∙ ap (λ l. minus R l ts) (all_whole ss h)

  -- what is left of the line by one list after another
  pub gaps-joined : (ts us cs ds es left : List (Span V)) → cs ≡ minus R (whole ∷ []) ts → ds ≡ minus R (whole ∷ []) us
      → left ≡ flat_map (λ s. flat_map (λ c. option_to_list (clip R s c)) ds) cs → es ≡ ts ++ us → left ≡ minus R (whole ∷ []) es
  gaps-joined ts us cs ds es left e k f g = f ∙ minus-clips cs us ds (along_all Start cs (along-gaps ts cs e)) k ∙ ap (λ l. minus R l us) e
      ∙ sym (fold-append (λ (left : List (Span V)) (t : Span V). flat_map (λ s. remainder R s t) left) (whole ∷ []) ts us)
      ∙ ap (λ l. minus R (whole ∷ []) l) (sym g)

  -- the beginnings and the ends rise along the line
  all_past : (a : Cut V) (cs : List (Span V)) (j : ℕ) (d : Span V) → IsAlong R a cs → j < length cs
      → (lt o (lower_cut (get_or cs j d).lower) a ≡ false) × (lt o (upper_cut (get_or cs j d).upper) a ≡ false)
  all_past a [] j d h k = absurd (omega arith)
  all_past a (c ∷ cs) zero d h k = (h.0, not_below o (lower_cut c.lower) (upper_cut c.upper) a h.1.0 h.0)
  all_past a (c ∷ cs) (suc j) d h k =
      grind (arith, all_past (upper_cut c.upper) cs j d h.1.1, below_upto, not_below)

  pub all_rise : (a : Cut V) (cs : List (Span V)) (i j : ℕ) (d : Span V) → IsAlong R a cs → i ≤ j → j < length cs
      → (lt o (lower_cut (get_or cs j d).lower) (lower_cut (get_or cs i d).lower) ≡ false)
      × (lt o (upper_cut (get_or cs j d).upper) (upper_cut (get_or cs i d).upper) ≡ false)
  all_rise a (c ∷ cs) zero zero d h l k = (irreflexive o (lower_cut c.lower), irreflexive o (upper_cut c.upper))
  all_rise a (c ∷ cs) zero (suc j) d h l k =
      grind (arith, not_above, all_past (upper_cut c.upper) cs j d h.1.1)
  all_rise a (c ∷ cs) (suc i) (suc j) d h l k = all_rise (upper_cut c.upper) cs i j d h.1.1 (omega arith) (omega arith)
  all_rise a cs i j d h l k = absurd (omega arith)

  -- the piece ends not above where s begins
  abbrev pub falls_short : Span V → Span V → Bool
  falls_short s c = not (is_lt (cut_cmp R (lower_cut s.lower) (upper_cut c.upper)))

  pub parted : (s : Span V) (cs : List (Span V)) → IsAlong R Start cs → IsPartitionedBy (falls_short s) cs
  parted s cs h i j d l k e = grind (arith, below_upto, all_rise Start cs i j d h)

  -- nothing is cut where they are apart
  no_clip : (s c : Span V) → is_interval R (clipped s c) ≡ false → option_to_list (clip R s c) ≡ []
  no_clip s c h = ap (λ i. pick i (clipped s c)) h

  short_clip : (s c : Span V) → lt o (lower_cut s.lower) (upper_cut c.upper) ≡ false → option_to_list (clip R s c) ≡ []
  short_clip s c h = no_clip s c (not_if _ _ (λ e. (in_clip s c e).1.1) h)

  past_clip : (s c : Span V) → lt o (lower_cut c.lower) (upper_cut s.upper) ≡ false → option_to_list (clip R s c) ≡ []
  past_clip s c h = no_clip s c (not_if _ _ (λ e. (in_clip s c e).0.0) h)

  -- the pieces in front
  skipped : (s : Span V) (cs : List (Span V)) (r : ℕ) → AllWithin (λ c. falls_short s c ≡ true) cs 0 r → r ≤ length cs → clips cs s ≡ clips (drop r cs) s
  skipped s cs zero h k = refl
  skipped s [] (suc r) h k = absurd (omega arith)
  skipped s (c ∷ cs) (suc r) h k =
      let more = skipped s cs r (λ i d p q. h (suc i) d (omega arith) (omega arith)) in
      grind (arith, more, h 0 c, short_clip)

  -- the pieces behind
  none_past : (s : Span V) (b : Cut V) (cs : List (Span V)) → IsAlong R b cs → lt o b (upper_cut s.upper) ≡ false → clips cs s ≡ []
  none_past s b [] h k = refl
  none_past s b (c ∷ cs) h k =
      grind (arith, upto_below, past_clip, not_below, none_past s (upper_cut c.upper) cs)

  none_of : (s : Span V) (cs : List (Span V)) → lt o (lower_cut s.lower) (upper_cut s.upper) ≡ false → clips cs s ≡ []
  none_of s [] h = refl
  none_of s (c ∷ cs) h = ap (λ l. l ++ clips cs s) (no_clip s c (not_if _ _ (λ e. (in_clip s c e).1.0) h)) ∙ none_of s cs h

  stop_at : (s : Span V) (a : Cut V) (es : List (Span V)) (i : ℕ) (d : Span V) → IsAlong R a es → i < length es
      → lt o (lower_cut s.lower) (upper_cut (get_or es i d).upper) ≡ true → is_some (clip R s (get_or es i d)) ≡ false
      → clips (take i es) s ≡ clips es s
  stop_at s a [] i d h k e n = absurd (omega arith)
  stop_at s a (c ∷ es) (suc i) d h k e n = ap (λ l. option_to_list (clip R s c) ++ l)
      (stop_at s (upper_cut c.upper) es i d h.1.1 (omega arith) e n)
  stop_at s a (c ∷ es) zero d h k e n =
      let apart : is_interval R (clipped s c) ≡ false = sym (is_some-interval o (clipped s c)) ∙ n in
      sym (ap (λ l. l ++ clips es s) (no_clip s c apart) ∙ elim (cases_Bool (lt o (lower_cut s.lower) (upper_cut s.upper))) [
        | inr f ↦ none_of s es f
        | inl m ↦
            let f = not_if (lt o (lower_cut c.lower) (upper_cut s.upper)) _
            (λ p. between_from o c.lower s.lower s.upper c.upper p h.1.0 m e) apart in
            none_past s (upper_cut c.upper) es h.1.1 (not_below o (lower_cut c.lower) (upper_cut c.upper) (upper_cut s.upper) h.1.0 f)
      ])

  pub along_drop : (a : Cut V) (cs : List (Span V)) (r : ℕ) → IsAlong R a cs → IsAlong R a (drop r cs)
  along_drop a cs zero h = h
  along_drop a [] (suc r) h = tt
  along_drop a (c ∷ cs) (suc r) h =
      grind (arith, along_lower, not_below, along_drop (upper_cut c.upper) cs r)

  -- the pieces from the first that does not fall short of s up to one that is past it, or to the last
  module _ (s : Span V) (cs : List (Span V)) (r : ℕ) (b : r ≤ length cs)
      (p : IsPartitionPoint (λ c. falls_short s c ≡ true) (λ c. falls_short s c ≡ false) cs r) where
    pub clips-to_end : (near : List (Span V)) (i : ℕ) → near ≡ drop r cs → length near ≤ i → clips (take i near) s ≡ clips cs s
    clips-to_end near i e k = grind (arith, take_all, skipped)

    to_none : (i : ℕ) (d : Span V) → IsAlong R Start cs → i < length (drop r cs)
        → is_some (clip R s (get_or (drop r cs) i d)) ≡ false → clips (take i (drop r cs)) s ≡ clips cs s
    to_none i d h k n =
        let at = get_or-drop r cs i d in
        let short = p.1 (r + i) d in
        let stopped = stop_at s Start (drop r cs) i d in
        grind (arith, at, short, stopped, length-drop, along_drop, skipped)

    pub clips-to_none : (near : List (Span V)) (i : ℕ) (d : Span V) (part : Option (Span V)) → near ≡ drop r cs → IsAlong R Start cs → i < length near
        → d ≡ get_or near i d → part ≡ clip R s d → is_some part ≡ false → clips (take i near) s ≡ clips cs s
    clips-to_none near i d part e h k at is n = grind (arith, to_none)

-- a part that was put at the end is the one that was to be made; and where that failed, there was one to make
pub pushed : {A E : Type 0} (part : Result (Option A) E) (made : Option A) (old new : List A) → IfOk part (λ p. p ≡ made)
    → IsOkAnd part (λ p. new ≡ old ++ option_to_list p) → new ≡ old ++ option_to_list made
pushed part made old new is k = grind arith

pub unpushed : {A E : Type 0} (part : Result (Option A) E) (made : Option A) → IfOk part (λ p. p ≡ made)
    → OnErr part (IsTrue (is_some made)) → IfOk part (λ p. IsTrue (is_some p)) → IsTrue (is_some made)
unpushed part made is h k = grind arith

-- what `map(Some)` returns
pub some-map : {A E : Type 0} (r : Result A E) (part : Result (Option A) E) (x : A) → IfOk r (λ y. y ≡ x)
    → MatchResult r (λ y. IsOkAnd part (λ p. p ≡ Some y)) (λ e. part ≡ Err e) → IfOk part (λ p. p ≡ Some x)
some-map r part x is k = grind arith
