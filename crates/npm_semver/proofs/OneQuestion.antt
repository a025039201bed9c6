-- Arguments ask one question.
use Rattle.std.proofs.Common.{◌≡◌, ◌∙◌, ◌∷◌, ◌++◌, [], ℕ, suc, List, Option, ap, arith, drop, get_or, length, length-append, refl, subst, sym}
use Rattle.npm_semver.specs.Arguments.{Asked, Asks, IsAsked, all, asked_by, help, left_by, next, none, some, word_of}
use Rattle.npm_semver.specs.Words.{FirstWord, IsUncut, front, whole}

heads : (t u : List ℕ) (r s : List (List ℕ)) → t ∷ r ≡ u ∷ s → (t ≡ u) × (r ≡ s)
heads t u r s e = (ap (λ (l : List (List ℕ)). get_or l 0 []) e, ap (drop 1) e)

at_cut : (word behind : List ℕ) → get_or (word ++ 61 ∷ behind) (length word) 0 ≡ 61
at_cut [] behind = refl
at_cut (c ∷ word) behind = at_cut word behind

is_cut : (word behind : List ℕ) → IsUncut (word ++ 61 ∷ behind) → ⊥
is_cut word behind uncut = uncut (length word) (omega (arith, length-append word (61 ∷ behind))) (at_cut word behind)

cut_once : (w b x c : List ℕ) → IsUncut w → IsUncut x → w ++ 61 ∷ b ≡ x ++ 61 ∷ c → (w ≡ x) × (b ≡ c)
cut_once [] b [] c u v e = (refl, ap (drop 1) e)
cut_once [] b (d ∷ x) c u v e = absurd (v 0 (omega arith) (sym (ap (λ (l : List ℕ). get_or l 0 0) e)))
cut_once (a ∷ w) b [] c u v e = absurd (u 0 (omega arith) (ap (λ (l : List ℕ). get_or l 0 0) e))
cut_once (a ∷ w) b (d ∷ x) c u v e =
    let head : a ≡ d = ap (λ (l : List ℕ). get_or l 0 0) e in
    let (same, rest) = cut_once w b x c (λ i lt. u (suc i) (omega arith)) (λ i lt. v (suc i) (omega arith)) (ap (drop 1) e) in
    (rw (head, same) refl, rest)

first_once : (words more : List (List ℕ)) (w x : List ℕ) (b c : List (List ℕ)) → words ≡ more → FirstWord words w b → FirstWord more x c
    → (w ≡ x) × (b ≡ c)
first_once words more w x b c e (whole _ rest uncut) (whole _ others also) = heads w x b c e
first_once words more w x b c e (whole _ rest uncut) (front _ behind others also) =
    absurd (is_cut x behind (subst IsUncut (heads _ _ _ _ e).0 uncut))
first_once words more w x b c e (front _ behind rest uncut) (whole _ others also) =
    absurd (is_cut w behind (subst IsUncut (sym (heads _ _ _ _ e).0) also))
first_once words more w x b c e (front _ behind rest uncut) (front _ back others also) =
    let (argument, left) = heads _ _ _ _ e in
    let (word, value) = cut_once w behind x back uncut also argument in
    (word, rw (value, left) refl)

asks_once : (words : List (List ℕ)) (q : Asked) (one other : Option Asked) → Asks words q one → Asks words q other → one ≡ other
asks_once words q one other (all _) (all _) = refl
asks_once words q one other (all _) (help _ behind word _ first is) = elim first [ ]
asks_once words q one other (all _) (next _ behind word _ _ first isnt rest) = elim first [ ]
asks_once words q one other (help _ behind word _ first is) (all _) = elim first [ ]
asks_once words q one other (help _ behind word _ first is) (help _ back more _ second of) = refl
asks_once words q one other (help _ behind word _ first is) (next _ back more _ _ second isnt rest) =
    let (same, left) = first_once words words word more behind back refl first second in absurd (isnt (ap word_of (sym same) ∙ is))
asks_once words q one other (next _ behind word _ _ first isnt rest) (all _) = elim first [ ]
asks_once words q one other (next _ behind word _ _ first isnt rest) (help _ back more _ second is) =
    let (same, left) = first_once words words word more behind back refl first second in absurd (isnt (ap word_of same ∙ is))
asks_once words q one other (next _ behind word _ _ first isnt rest) (next _ back more _ _ second aint others) =
    let (same, left) = first_once words words word more behind back refl first second in
    asks_once (left_by (word_of word) behind) (asked_by (word_of word) word behind q) one other rest (rw (same, left) others)

pub asked_once : (arguments : List (List ℕ)) (one other : Option Asked) → IsAsked arguments one → IsAsked arguments other → one ≡ other
asked_once arguments one other none none = refl
asked_once arguments one other (some argument rest _ asks) (some _ _ _ asked) = asks_once arguments _ one other asks asked
