-- The reasons for which dependencies are skipped, one by one.
use Rattle.std.proofs.Common.{◌≡◌, ◌<◌, ◌≤◌, ◌+◌, ◌∷◌, ◌++◌, ◌∙◌, [], Bool, List, ap, append_assoc, codes, cond, false}
use Rattle.std.proofs.Common.{filter, get_or, length, refl, sym, take, true, ℕ, arith}
use Rattle.std.proofs.lemmas.Bool.Decides.{nat_tests}
use Rattle.std.proofs.lemmas.List.{append-nil, take_all}
use Rattle.std.proofs.lemmas.List.Concat.{flat_map-append}
use Rattle.std.proofs.lemmas.List.Elements.{filter_more}
use Rattle.std.specs.List.{flat_map, join_by}
use Rattle.std.specs.Prelude.{nat_lt}
use Rattle.lock_check.specs.Summary.{in_brackets, is_counted, reason_text, separator}
use Rattle.lock_check.specs.declared.finding.Skip.{Skip}

lt-ltb : (m n : ℕ) → m < n → nat_lt m n ≡ true
lt-ltb m n h = grind (arith, nat_tests)

ge-ltb : (m n : ℕ) → n ≤ m → nat_lt m n ≡ false
ge-ltb m n h = grind (arith, nat_tests)

-- the reasons so far, with the bracket in front of them
abbrev pub opened : List (Skip × ℕ) → List ℕ
opened [] = []
opened (r ∷ rs) = separator true ++ join_by reason_text (separator false) (r ∷ rs)

abbrev pub is_none : List (Skip × ℕ) → Bool
is_none [] = true
is_none (r ∷ rs) = false

-- what stands behind all
abbrev pub back : Bool → List ℕ
back true = []
back false = codes ")"

pub opened-more : (rs : List (Skip × ℕ)) (r : Skip × ℕ)
    → opened (rs ++ r ∷ []) ≡ opened rs ++ (separator (is_none rs) ++ reason_text r)
opened-more [] r = ap (λ t. separator true ++ t) (append-nil (reason_text r))
opened-more (x ∷ xs) r =
    let g : Skip × ℕ → List ℕ = λ y. separator false ++ reason_text y in
    ap (λ t. separator true ++ (reason_text x ++ t)) (flat_map-append g xs (r ∷ []) ∙ ap (λ t. flat_map g xs ++ t) (append-nil (g r)))
    ∙ ap (λ t. separator true ++ t) (sym (append_assoc (reason_text x) (flat_map g xs) (g r)))
    ∙ sym (append_assoc (separator true) (reason_text x ++ flat_map g xs) (g r))

pub is_none-more : (rs : List (Skip × ℕ)) (r : Skip × ℕ) → is_none (rs ++ r ∷ []) ≡ false
is_none-more [] r = refl
is_none-more (x ∷ xs) r = refl

pub closed : (rs : List (Skip × ℕ)) → in_brackets rs ≡ opened rs ++ back (is_none rs)
closed [] = refl
closed (r ∷ rs) = sym (append_assoc (separator true) (join_by reason_text (separator false) (r ∷ rs)) (codes ")"))

-- one more reason for which some are skipped
pub told_more : (named : List (Skip × ℕ)) (i : ℕ) (d : Skip × ℕ) → i < length named → 0 < (get_or named i d).1
    → (start out new : List ℕ) (is_first : Bool) → out ≡ start ++ opened (filter is_counted (take i named))
    → is_first ≡ is_none (filter is_counted (take i named))
    → new ≡ (out ++ separator is_first) ++ reason_text (get_or named i d)
    → (new ≡ start ++ opened (filter is_counted (take (i + 1) named)))
    × (false ≡ is_none (filter is_counted (take (i + 1) named)))
told_more named i d at some start out new is_first was first is =
    let r = get_or named i d in
    let so_far = filter is_counted (take i named) in
    let more : filter is_counted (take (i + 1) named) ≡ so_far ++ r ∷ [] =
    filter_more is_counted named i d at ∙ ap (λ b. so_far ++ cond b (r ∷ []) []) (lt-ltb 0 r.1 some) in (
      is ∙ ap (λ t. (t ++ separator is_first) ++ reason_text r) was
          ∙ ap (λ b. ((start ++ opened so_far) ++ separator b) ++ reason_text r) first
          ∙ append_assoc (start ++ opened so_far) (separator (is_none so_far)) (reason_text r)
          ∙ append_assoc start (opened so_far) (separator (is_none so_far) ++ reason_text r)
          ∙ ap (λ t. start ++ t) (sym (opened-more so_far r)) ∙ ap (λ t. start ++ opened t) (sym more),
      sym (is_none-more so_far r) ∙ ap is_none (sym more),
    )

-- one for which none is
pub told_same : (named : List (Skip × ℕ)) (i : ℕ) (d : Skip × ℕ) → i < length named → (get_or named i d).1 ≤ 0
    → filter is_counted (take (i + 1) named) ≡ filter is_counted (take i named)
told_same named i d at none =
    let r = get_or named i d in
    let so_far = filter is_counted (take i named) in
    filter_more is_counted named i d at ∙ ap (λ b. so_far ++ cond b (r ∷ []) []) (ge-ltb 0 r.1 none)
    ∙ append-nil so_far

-- all of them
pub told_all : (named : List (Skip × ℕ)) (i : ℕ) → length named ≤ i → (start out new : List ℕ) (is_first : Bool)
    → out ≡ start ++ opened (filter is_counted (take i named))
    → is_first ≡ is_none (filter is_counted (take i named)) → new ≡ out ++ back is_first
    → new ≡ start ++ in_brackets (filter is_counted named)
told_all named i end start out new is_first was first is =
    let all : take i named ≡ named = take_all i named end in
    let told = filter is_counted (take i named) in
    is ∙ ap (λ t. t ++ back is_first) was ∙ ap (λ b. (start ++ opened told) ++ back b) first
    ∙ append_assoc start (opened told) (back (is_none told)) ∙ ap (λ t. start ++ t) (sym (closed told))
    ∙ ap (λ t. start ++ in_brackets (filter is_counted t)) all
