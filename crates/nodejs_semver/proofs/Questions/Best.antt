-- The version that is found in a list is the best one of those in the set.
use Rattle.nodejs_semver.proofs.Common.{All, Bool, Bor, Contains, Contains-append_right, IfNone, IfSome, IsBest, IsMax, IsMin, IsTotalOrder, List}
use Rattle.nodejs_semver.proofs.Common.{None, Option, Ordering, Some, VersionValue, [], all_weaker, and_from, ap, append_assoc, arith, cases_Bool}
use Rattle.nodejs_semver.proofs.Common.{common_steps, false, get_or, if◌then◌else◌, is_le, is_lt, length, list_all-append, map, nat_tests, not}
use Rattle.nodejs_semver.proofs.Common.{not-true, option_copied, precedence, precedence_total, refl, replaces, subst, sym, take, tied_itself, true, ℕ}
use Rattle.{nodejs_semver.proofs.{Common.{◌&&◌, ◌++◌, ◌+◌, ◌<◌, ◌∙◌, ◌∷◌, ◌≡◌, IsMaxOf, IsMinOf, list_all-map, map-append, take_next, value_of}}, semver_core.proofs.Gate.le_of_lt}
use Rattle.semver_core.proofs.Gate.{le_trans, lt_is, lt_le}

-- what holds of the two relations of the best
record Ranks {V : Type 0} (in_front behind : V → V → Bool) : Type 0 where
  pub passes : (w b x : V) → in_front b x ≡ true → in_front w b ≡ true → in_front w x ≡ true
  pub weaker : (w b x : V) → in_front b x ≡ true → behind w b ≡ true → in_front w x ≡ true
  pub other : (b x : V) → in_front b x ≡ false → behind x b ≡ true

module _ {V : Type 0} (in_front behind : V → V → Bool) (ranks : Ranks in_front behind) (set : V → Bool) (list : List V) where
  one_more : (best : Option V) (x : V) (new : Bool) → new ≡ replaces in_front set best x → IsBest in_front behind set list best
      → IsBest in_front behind set (list ++ x ∷ []) (if new then Some x else best)
  one_more None x new is h = grind (arith, nat_tests, common_steps, cases_Bool, all_weaker, list_all-append, and_from)
  one_more (Some b) x new is h = grind (arith, nat_tests, list_all-append, append_assoc h.1 (b ∷ h.2) (x ∷ []), cases_Bool, all_weaker, and_from)

not_below : {V : Type 0} {R : V → V → Ordering} (o : IsTotalOrder R) (b x : V) → is_lt (R x b) ≡ false → is_le (R b x) ≡ true
not_below o b x e = grind (arith, lt_is o x b)

module _ {W : Type 0} (value : W → VersionValue) (set : VersionValue → Bool) where
  pub max_more : (list : List W) (best : Option W) (x : W) (new : Bool)
      → new ≡ replaces (λ b x. is_le (precedence (value b) (value x))) (λ w. set (value w)) best x
      → IsMaxOf value set list best → IsMaxOf value set (list ++ x ∷ []) (if new then Some x else best)
  max_more = let o = precedence_total in one_more _ _ (record {
    passes = λ w b x t h. le_trans o (value w) (value b) (value x) h t;
    weaker = λ w b x t h. le_trans o (value w) (value b) (value x) (le_of_lt (precedence (value w) (value b)) h) t;
    other = λ b x e. lt_is o (value x) (value b) ∙ ap not e;
  }) _

  pub min_more : (list : List W) (best : Option W) (x : W) (new : Bool)
      → new ≡ replaces (λ b x. is_lt (precedence (value x) (value b))) (λ w. set (value w)) best x
      → IsMinOf value set list best → IsMinOf value set (list ++ x ∷ []) (if new then Some x else best)
  min_more = let o = precedence_total in one_more _ _ (record {
    passes = λ w b x t h. lt_le o (value x) (value b) (value w) t (le_of_lt (precedence (value b) (value w)) h);
    weaker = λ w b x t h. lt_le o (value x) (value b) (value w) t h;
    other = λ b x. not_below o (value b) (value x);
  }) _

  pub by_value : (beaten : VersionValue → VersionValue → Bool) (best : Option (Bor W)) (x : W) → replaces beaten set (value_of value best) (value x)
      ≡ replaces (λ b x. beaten (value b) (value x)) (λ w. set (value w)) (option_copied best) x
  by_value beaten best x = grind arith

  -- the best so far of a loop over the list, one place further
  module _ (list : List W) (i : ℕ) (x : W) (best next : Option (Bor W)) (new : Bool) (within : i < length list) (at : x ≡ get_or list i x)
      (is : option_copied next ≡ (if new then Some x else option_copied best)) where
    pub max_further : new ≡ replaces (λ b x. is_le (precedence b x)) set (value_of value best) (value x)
        → IsMaxOf value set (take i list) (option_copied best) → IsMaxOf value set (take (i + 1) list) (option_copied next)
    max_further e h = rw (is, take_next list i x within at) (max_more (take i list) (option_copied best) x new (e ∙ by_value _ best x) h)

    pub min_further : new ≡ replaces (λ b x. is_lt (precedence x b)) set (value_of value best) (value x)
        → IsMinOf value set (take i list) (option_copied best) → IsMinOf value set (take (i + 1) list) (option_copied next)
    min_further e h = rw (is, take_next list i x within at) (min_more (take i list) (option_copied best) x new (e ∙ by_value _ best x) h)

  -- the best element has the best version
  best_version : (in_front behind : VersionValue → VersionValue → Bool) (list : List W) (r : Option (Bor W))
      → IsBest (λ w v. in_front (value w) (value v)) (λ w v. behind (value w) (value v)) (λ w. set (value w)) list (option_copied r)
      → IsBest in_front behind set (map value list) (value_of value r)
  best_version in_front behind list None h = grind (arith, list_all-map)
  best_version in_front behind list (Some v) h = (
    h.0,
    map value h.1,
    map value h.2,
    grind (arith, map-append),
    grind (arith, list_all-map),
    grind (arith, list_all-map),
  )

  pub max_version : (list : List W) (r : Option (Bor W)) → IsMaxOf value set list (option_copied r) → IsMax set (map value list) (value_of value r)
  max_version = best_version (λ w v. is_le (precedence w v)) (λ w v. is_lt (precedence w v))

  pub min_version : (list : List W) (r : Option (Bor W)) → IsMinOf value set list (option_copied r) → IsMin set (map value list) (value_of value r)
  min_version = best_version (λ w v. is_lt (precedence v w)) (λ w v. is_le (precedence v w))

-- what takes the place of the best is in the set, and the best is not in front of it
pub replaces_both : {V : Type 0} (beaten : V → V → Bool) (set : V → Bool) (best : Option V) (v : V) (new : Bool)
    → new ≡ replaces beaten (λ _. true) best v → replaces beaten set best v ≡ (new && set v)
replaces_both beaten set best v new is = grind arith

-- what callers cite of the best: it is a version of the list that is in the set, and none of the set in the list beats it; and
-- there is none where no version of the list is in the set
abbrev pub Says : {V : Type 0} → (V → V → Bool) → (V → Bool) → List V → Option (Bor V) → Type 0
Says beaten set list r = IfSome r (λ v. Contains list v.now) × IfSome r (λ v. set v.now ≡ true)
    × IfSome r (λ v. All (λ w. set w ≡ true → beaten w v.now ≡ true) list) × IfNone r (All (λ w. set w ≡ false) list)

module _ {V : Type 0} (in_front behind beaten : V → V → Bool) (front : (w v : V) → in_front w v ≡ true → beaten w v ≡ true)
    (back : (w v : V) → behind w v ≡ true → beaten w v ≡ true) (tied : (v : V) → beaten v v ≡ true) (set : V → Bool) where
  all_beaten : (list : List V) (v : V) → IsBest in_front behind set list (Some v) → All (λ w. set w ≡ true → beaten w v ≡ true) list
  all_beaten list v h = grind (arith, nat_tests, common_steps)

  best_says : (list : List V) (r : Option (Bor V)) → IsBest in_front behind set list (option_copied r) → Says beaten set list r
  best_says list None h = grind (arith, nat_tests, common_steps, not-true)
  best_says list (Some v) h =
      let member = Contains-append_right h.1 (v.now ∷ h.2) v.now (0, omega arith, refl) in
      (subst (λ l. Contains l v.now) (sym h.3) member, h.0, all_beaten list v.now h, tt)

module _ {W : Type 0} (value : W → VersionValue) (set : VersionValue → Bool) (list : List W) (r : Option (Bor W)) where
  pub max_says : IsMaxOf value set list (option_copied r) → Says (λ w v. is_le (precedence (value w) (value v))) (λ w. set (value w)) list r
  max_says = best_says _ _ _ (λ w v h. h) (λ w v h. le_of_lt (precedence (value w) (value v)) h) (λ v. ap is_le (tied_itself precedence_total (value v))) _ list r

  pub min_says : IsMinOf value set list (option_copied r) → Says (λ w v. is_le (precedence (value v) (value w))) (λ w. set (value w)) list r
  min_says = best_says _ _ _ (λ w v h. le_of_lt (precedence (value v) (value w)) h) (λ w v h. h) (λ v. ap is_le (tied_itself precedence_total (value v))) _ list r
