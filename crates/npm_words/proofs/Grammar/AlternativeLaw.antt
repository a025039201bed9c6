-- Alternatives of node-semver's range texts: the functions that read them find exactly what the statement has.
use Rattle.npm_words.proofs.Common.{AllByRecursion, AreAlternatives, Bool, Comparison, Ended, HasAlternativesIn, IsAlternative, IsHyphen, IsUtf8}
use Rattle.npm_words.proofs.Common.{List, None, Option, Signed, Some, [], alternative_of, alternatives_of, and_parts, ap, are_normal, arith}
use Rattle.npm_words.proofs.Common.{bind_some, capped_in, capped_partial, cases_Bool, common_steps, cond_some, drop, false, first_as, hyphen_ends}
use Rattle.npm_words.proofs.Common.{inl, inr, is_empty, is_free_lower, is_free_upper, is_mark, is_right, is_valid, kept, length, length-drop}
use Rattle.npm_words.proofs.Common.{list_all, map, marks_len, middle_is_trim, nat_tests, prefix_len, refl, same_Some, signed_word, suc, sym, take}
use Rattle.npm_words.proofs.Common.{take_rest, trim, trim_is_middle, true, words_of_all, words_within, ℕ, ◌&&◌, ◌+◌, ◌-◌, ◌↔◌, ◌∙◌, ◌∷◌, ◌≡◌, ◌≤◌}
use Rattle.npm_words.proofs.Grammar.Hyphens.{ended_of, ends_of, front-normal, hyphen-found, hyphen-read, normal-capped, partial-le, right-end}
use Rattle.npm_words.{proofs.Grammar.Words.{words-found, words-read}, specs.Internal.Words.{hyphen_or, npm_alternatives, places_front}}
use Rattle.{npm_words.specs.{RangeText.{hyphen, next, words}, Table.Partial}, semver_core.proofs.Dividing.BarsDivide.{bars_divide, bars_once}}
use Rattle.semver_core.proofs.{Dividing.BarsDivide.pieces-utf8, Reading.{Boundaries.{tail-utf8, trim-utf8}, Steps.option-cases}}

-- ---- marks

-- what stands behind marks is a text
pub marks-utf8 : (text : List ℕ) → IsUtf8 text → IsUtf8 (drop (marks_len text) text)
marks-utf8 [] u = u
marks-utf8 (c ∷ rest) u = elim (cases_Bool (is_mark c)) [
  | inr other ↦ rw other u
  | inl mark ↦
      let more : 1 + prefix_len is_mark rest ≡ suc (prefix_len is_mark rest) = omega arith in
      rw (mark, more) (marks-utf8 rest (tail-utf8 c rest (grind (arith, nat_tests)) u))
]

pub behind-le : (loose : Bool) (text : List ℕ) (at : ℕ) (p : Partial) (rest : List ℕ)
    → Some (p, rest) ≡ first_as capped_partial (places_front loose (take (length text - at) (drop at text))) → length rest ≤ length text
behind-le loose text at p rest h = grind (arith, nat_tests, common_steps, partial-le, take_rest, length-drop)

-- ---- the identifiers of the partials that are read are in normal form

pub word-normal : (loose : Bool) (text : List ℕ) (w : Signed × List ℕ) → Some w ≡ first_as capped_in (signed_word loose text) → are_normal w.0.1 ≡ true
unfolding signed_word
word-normal loose text w h = grind (arith, front-normal, normal-capped)

-- ---- alternatives

pub alternative-read : (loose include : Bool) (text : List ℕ) (lost : Bool) (cs : List Comparison) → IsUtf8 text → IsAlternative loose include text lost cs
    → alternative_of loose include text ≡ Some (lost, cs)
unfolding alternative_of
alternative-read loose include text lost cs u (hyphen t h lower upper) =
    let low : is_right loose is_free_lower (ended_of loose t h.before h.lower) ≡ true = right-end loose (λ v. false) t h.before h.lower ∙ lower in
    let high : is_right loose (is_free_upper include) (ended_of loose h.second [] h.upper) ≡ true = right-end loose _ h.second [] h.upper ∙ upper in
    rw (hyphen-read loose t u h, low, high) refl
alternative-read loose include text lost cs u (words t all absent w) = elim (option-cases (hyphen_ends loose t)) [
  | inl e ↦ rw (e, words-read loose include (length t) t all u w (omega arith)) refl
  | inr e ↦ absurd (absent (hyphen-found loose t e.0 u e.1).0)
]

pub alternative-found : (loose include : Bool) (text : List ℕ) (a : Bool × List Comparison) → IsUtf8 text → alternative_of loose include text ≡ Some a
    → IsAlternative loose include text a.0 a.1
unfolding alternative_of
alternative-found loose include text a u h = go (hyphen_ends loose text) refl h
  where
    go : (o : Option (Ended × Ended)) → hyphen_ends loose text ≡ o → hyphen_or loose include text o ≡ Some a → IsAlternative loose include text a.0 a.1
    go (Some e) k l =
        let f = hyphen-found loose text e u k in
        let ends = ends_of loose text f.0 in
        let t = cond_some (is_right loose is_free_lower ends.0 && is_right loose (is_free_upper include) ends.1) _ a (rw f.1 at l) in
        let both = and_parts (is_right loose is_free_lower ends.0) (is_right loose (is_free_upper include) ends.1) t.0 in
        let lower = sym (right-end loose (λ v. false) text f.0.before f.0.lower) ∙ both.0 in
        let upper = sym (right-end loose _ f.0.second [] f.0.upper) ∙ both.1 in
        rw (← t.1) (hyphen text f.0 lower upper)
    go None k l =
        let w = bind_some (words_within loose include (length text) text) (λ all. Some (words_of_all all)) a l in
        let absent : IsHyphen loose text → ⊥ = λ h. cc (k, hyphen-read loose text u h) in
        rw (← same_Some _ _ w.2) (words text w.0 absent (words-found loose include (length text) text w.0 u w.1))

-- ---- range texts as node-semver reads them: the function that reads the alternatives finds exactly what the statement has

each-read : (loose include : Bool) (pieces : List (List ℕ)) (ls : List (List Comparison)) → AllByRecursion IsUtf8 pieces
    → AreAlternatives loose include pieces ls → alternatives_of loose include (map trim pieces) ≡ Some ls
unfolding alternatives_of
each-read loose include pieces ls u AreAlternatives.none = refl
each-read loose include pieces ls u (next piece text others lost cs rest is is_trim each) =
    let v = trim-utf8 piece text u.0 is_trim in
    let same : text ≡ trim piece = middle_is_trim piece text is_trim in
    grind (arith, alternative-read, each-read loose include others rest u.1 each)

each-found : (loose include : Bool) (pieces : List (List ℕ)) (ls : List (List Comparison)) → AllByRecursion IsUtf8 pieces
    → alternatives_of loose include (map trim pieces) ≡ Some ls → AreAlternatives loose include pieces ls
unfolding alternatives_of
each-found loose include [] ls u h = rw (← same_Some _ _ h) AreAlternatives.none
each-found loose include (piece ∷ others) ls u h =
    let a = bind_some (alternative_of loose include (trim piece)) _ ls h in
    let rest = bind_some (alternatives_of loose include (map trim others)) (λ rest. Some (kept a.0 rest)) ls a.2 in
    let is_trim = trim_is_middle piece u.0 in
    let is = alternative-found loose include (trim piece) a.0 (trim-utf8 piece (trim piece) u.0 is_trim) a.1 in
    let found = next piece (trim piece) others a.0.0 a.0.1 rest.0 is is_trim (each-found loose include others rest.0 u.1 rest.1) in
    grind (arith, nat_tests, common_steps)

-- a text has the alternatives that are read, if they are valid
pub alternatives_are : (loose : Bool) (limit : ℕ) (include : Bool) (text : List ℕ) (ls : List (List Comparison)) → IsUtf8 text
    → HasAlternativesIn loose limit include text ls ↔ ((npm_alternatives loose include text ≡ Some ls)
    × (list_all (list_all (is_valid limit)) ls ≡ true) × (is_empty ls ≡ false))
alternatives_are loose limit include text ls u = (
  λ h.
      (let e = bars_once text h.parts h.divided in
      let read = each-read loose include h.parts ls (pieces-utf8 text h.parts h.divided u) h.each in
      (ap (λ (ps : List (List ℕ)). alternatives_of loose include (map trim ps)) (sym e) ∙ read, h.valid, h.some)),
  λ h.
      let cut = bars_divide text in
      grind (arith, nat_tests, common_steps, each-found, pieces-utf8),
)

pub alternatives_once : (loose : Bool) (limit : ℕ) (include : Bool) (text : List ℕ) (a b : List (List Comparison)) → IsUtf8 text
    → HasAlternativesIn loose limit include text a → HasAlternativesIn loose limit include text b → a ≡ b
alternatives_once loose limit include text a b u h k =
    same_Some a b (sym ((alternatives_are loose limit include text a u).0 h).0 ∙ ((alternatives_are loose limit include text b u).0 k).0)
