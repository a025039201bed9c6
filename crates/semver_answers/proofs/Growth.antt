-- The text of an intersection or a difference, part by part.
use Rattle.std.proofs.Common.{◌≡◌, ◌<◌, ◌+◌, ◌∙◌, ◌++◌, ◌∷◌, ℕ, Bool, true, false, ◌||◌, List, [], Option, Some, None, length}
use Rattle.std.proofs.Common.{append-nil, append_assoc, refl, sym, ap, arith, if◌then◌else◌, take, drop, codes}
use Rattle.std.proofs.Common.{length-drop, take-append-drop}
use Rattle.std.proofs.lemmas.Bool.{and_parts}
use Rattle.std.proofs.lemmas.Grind.{flat_map-append}
use Rattle.std.proofs.Math.Seq.{take-add}
use Rattle.std.proofs.lemmas.List.{length-take}
use Rattle.std.proofs.lemmas.List.Folds.{list_all-append}
use Rattle.std.specs.List.{flat_map, join_by, list_all}
use Rattle.std.specs.Option.{is_some}
use Rattle.semver_core.specs.Cuts.{Span}
use Rattle.semver_core.specs.Lists.{if_any}
use Rattle.semver_core.specs.Values.Order.{precedence}
use Rattle.semver_core.specs.Values.Versions.{VersionValue}
use Rattle.nodejs_semver.specs.Internal.Sets.{is_range_span, minus}
use Rattle.nodejs_semver.specs.Internal.Shorthands.{remainder}
use Rattle.nodejs_semver.specs.Printing.Text.{bounds_text, range_text}
use Rattle.nodejs_semver.specs.Ranges.View.{IsRange}
use Rattle.semver_answers.specs.Lines.{ended}
use Rattle.semver_answers.specs.Names.{or_none}
use Rattle.semver_answers.specs.Internal.Parts.{combined, made_of, text_behind}
use Rattle.semver_answers.specs.declared.parts.Combination.{Combination}
use Rattle.semver_answers.specs.declared.parts.Combination.TheVariants.{Intersection, Difference}

-- a test that all of a list pass, all of its parts pass
pub parts_pass : {A : Type 0} (p : A → Bool) (front back all : List A) → all ≡ front ++ back → list_all p all ≡ true
    → (list_all p front ≡ true) × (list_all p back ≡ true)
parts_pass p front back all e h = and_parts _ _ (sym (list_all-append p front back) ∙ ap (list_all p) (sym e) ∙ h)

-- the text of intervals and more of them
join_more : {X A : Type 0} (f : X → List A) (sep : List A) (x : X) (xs : List X) (y : X) (ys : List X)
    → join_by f sep (x ∷ (xs ++ y ∷ ys)) ≡ join_by f sep (x ∷ xs) ++ (sep ++ join_by f sep (y ∷ ys))
join_more f sep x xs y ys = simp (flat_map-append, append_assoc)

text_more : (ms ns : List (Span VersionValue)) (any : Bool) → any ≡ is_some (if_any ms)
    → text_behind false (if_any (ms ++ ns)) ≡ text_behind false (if_any ms) ++ text_behind any (if_any ns)
text_more [] ns any e = rw e refl
text_more (m ∷ ms) [] any e = rw (append-nil ms, append-nil (range_text (m ∷ ms))) refl
text_more (m ∷ ms) (n ∷ ns) any e = rw e (join_more (λ s. bounds_text s.lower s.upper) (codes "||") m ms n ns)

any_more : (ms ns : List (Span VersionValue)) (any : Bool) → any ≡ is_some (if_any ms)
    → (any || is_some (if_any ns)) ≡ is_some (if_any (ms ++ ns))
any_more [] ns any e = rw e refl
any_more (m ∷ ms) ns any e = rw e refl

-- what comes of some intervals, and of some more of them
minus_more : (front part us : List (Span VersionValue)) → minus precedence (front ++ part) us ≡ minus precedence front us ++ minus precedence part us
minus_more front part [] = refl
minus_more front part (u ∷ us) =
    let left : Span VersionValue → List (Span VersionValue) = λ s. remainder precedence s u in
    ap (λ l. minus precedence l us) (flat_map-append left front part) ∙ minus_more (flat_map left front) (flat_map left part) us

made_more : (asked : Combination) (front part us : List (Span VersionValue)) → made_of asked (front ++ part) us ≡ made_of asked front us ++ made_of asked part us
made_more Intersection front part us = flat_map-append _ front part
made_more Difference front part us = minus_more front part us

pub text_step : (asked : Combination) (front part both us : List (Span VersionValue)) (any : Bool) → both ≡ front ++ part
    → any ≡ is_some (combined asked front us)
    → text_behind false (combined asked both us) ≡ text_behind false (combined asked front us) ++ text_behind any (combined asked part us)
text_step asked front part both us any e h =
    rw (e, made_more asked front part us) (text_more (made_of asked front us) (made_of asked part us) any h)

pub any_step : (asked : Combination) (front part both us : List (Span VersionValue)) (any now : Bool) → both ≡ front ++ part
    → any ≡ is_some (combined asked front us) → now ≡ (any || is_some (combined asked part us)) → now ≡ is_some (combined asked both us)
any_step asked front part both us any now e h k =
    rw (e, made_more asked front part us) (k ∙ any_more (made_of asked front us) (made_of asked part us) any h)

-- of no intervals nothing comes
made_none : (asked : Combination) (us : List (Span VersionValue)) → made_of asked [] us ≡ []
made_none Intersection us = refl
made_none Difference [] = refl
made_none Difference (u ∷ us) = made_none Difference us

pub combined_none : (asked : Combination) (us : List (Span VersionValue)) → combined asked [] us ≡ None
combined_none asked us = ap if_any (made_none asked us)

-- the intervals up to a place, and some more
pub taken_on : {A : Type 0} (xs : List A) (i k n : ℕ) → n ≡ k → take (i + k) xs ≡ take i xs ++ take n (drop i xs)
taken_on xs i k n e = rw e (take-add i k xs)

pub range_part : (limit : ℕ) (ss : List (Span VersionValue)) (at n : ℕ) → IsRange limit ss → at < length ss → 0 < n
    → IsRange limit (take n (drop at ss))
range_part limit ss at n r below some =
    let rest = drop at ss in
    let behind = (parts_pass (is_range_span (limit + 1)) (take at ss) rest ss (sym (take-append-drop at ss)) r.each).1 in
    record {
      some = omega (arith, length-take n rest, length-drop at ss);
      each = (parts_pass (is_range_span (limit + 1)) (take n rest) (drop n rest) rest (sym (take-append-drop n rest)) behind).0;
    }

pub whole_text : (found : Option (List (Span VersionValue))) (any : Bool) → any ≡ is_some found
    → text_behind false found ++ (if any then [] else codes "none") ≡ or_none range_text found
whole_text None any e = rw e refl
whole_text (Some ss) any e = rw e (append-nil (range_text ss))

-- the text with its line feed
pub ended_text : (old mid new : List ℕ) (found : Option (List (Span VersionValue))) (any : Bool) → mid ≡ old ++ text_behind false found
    → any ≡ is_some found → new ≡ mid ++ ended (if any then [] else codes "none") → new ≡ old ++ ended (or_none range_text found)
ended_text old mid new found any e h k =
    let rest : List ℕ = if any then [] else codes "none" in
    k ∙ ap (λ l. l ++ ended rest) e ∙ append_assoc old (text_behind false found) (ended rest)
    ∙ ap (λ l. old ++ l) (sym (append_assoc (text_behind false found) rest (10 ∷ []))) ∙ ap (λ l. old ++ ended l) (whole_text found any h)
