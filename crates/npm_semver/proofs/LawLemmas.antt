-- What follows from what is written for a question.
use Rattle.std.proofs.Common.{◌≡◌, ◌≢◌, ◌∷◌, [], ℕ, Bool, true, false, List, Option, Some, None, Result, Ok, Err, ap, arith, codes, inl, inr, refl, sym, unwrap_or, if◌then◌else◌, ◌∙◌}
use Rattle.std.proofs.lemmas.List.Sorted.{length_permutation}
use Rattle.std.specs.List.Sorted.{IsPermutation}
use Rattle.semver_core.specs.Values.Order.{precedence}
use Rattle.std.specs.declared.cmp.Ordering.TheVariants.{Less}
use Rattle.semver_core.specs.Increments.Table.{Fault, answer_of_inc}
use Rattle.semver_core.specs.Lists.{is_empty}
use Rattle.semver_core.specs.Values.Versions.{VersionValue}
use Rattle.semver_core.specs.declared.increment.IdentifierBase.{IdentifierBase}
use Rattle.npm_semver.specs.Arguments.{Asked, is_level}
use Rattle.npm_semver.specs.Laws.{EachText, IsAccepted, IsLeftOut}
use Rattle.npm_semver.specs.Laws as Each
use Rattle.npm_semver.specs.Listing.{AreListed, Entry}
use Rattle.npm_semver.specs.Listing as Listing
use Rattle.npm_semver.specs.Readings.{SomeText, here, later}
use Rattle.semver_core.specs.Failures.{NoValue}
use Rattle.npm_semver.specs.Responses.{IsRefused, NotOneVersion, Responds, Written, increment, increment_written, next_written, next_text, nothing_written, refused, given, versions}

-- a list and another order of it are both filled or both empty
same_filled : (xs ys : List Entry) → IsPermutation xs ys → is_empty xs ≡ is_empty ys
same_filled [] [] p = refl
same_filled [] (y ∷ ys) p = absurd (grind (arith, length_permutation [] (y ∷ ys) p))
same_filled (x ∷ xs) [] p = absurd (grind (arith, length_permutation (x ∷ xs) [] p))
same_filled (x ∷ xs) (y ∷ ys) p = refl

module _ (q : Asked) where
  some_listed : (texts : List (List ℕ)) (es : List Entry) → AreListed q.reading q.ranges texts es → is_empty es ≡ false
      → SomeText (IsAccepted q) texts
  some_listed texts es Listing.none e = absurd (grind (arith, e))
  some_listed texts es (Listing.no_version text rest ds lacks are) e = later text rest (some_listed rest ds are e)
  some_listed texts es (Listing.rejected text rest v ds is say are) e = later text rest (some_listed rest ds are e)
  some_listed texts es (Listing.accepted text middle rest v ds is say trim are) e = here text rest (v, is, say)

  none_listed : (texts : List (List ℕ)) (es : List Entry) → AreListed q.reading q.ranges texts es → is_empty es ≡ true
      → EachText (IsLeftOut q) texts
  none_listed texts es Listing.none e = Each.none
  none_listed texts es (Listing.no_version text rest ds lacks are) e = Each.more text rest (inl lacks) (none_listed rest ds are e)
  none_listed texts es (Listing.rejected text rest v ds is say are) e = Each.more text rest (inr (v, is, say)) (none_listed rest ds are e)
  none_listed texts es (Listing.accepted text middle rest v ds is say trim are) e = absurd (grind (arith, e))

pub success_some : (q : Asked) (written : Written) → Responds (Some q) written → q.level ≡ None → written.is_success ≡ true
    → SomeText (IsAccepted q) q.versions
success_some q written (refused _ why is) level e = absurd (grind (arith, e))
success_some q written (versions _ vs can no_level sorts listing) level e =
    some_listed q q.versions listing.listed listing.are (same_filled listing.listed vs listing.same ∙ grind (arith, e))
success_some q written (given _ vs can no_level keeps are) level e = some_listed q q.versions vs are (grind (arith, e))
success_some q written (increment _ word vs can has are) level e = absurd (grind (arith, level, has))

pub success_none : (q : Asked) (written : Written) → Responds (Some q) written → q.level ≡ None → NoValue (IsRefused q) → written.is_success ≡ false
    → EachText (IsLeftOut q) q.versions
success_none q written (refused _ why is) level allowed e = absurd (allowed why is)
success_none q written (versions _ vs can no_level sorts listing) level allowed e =
    none_listed q q.versions listing.listed listing.are (same_filled listing.listed vs listing.same ∙ grind (arith, e))
success_none q written (given _ vs can no_level keeps are) level allowed e = none_listed q q.versions vs are (grind (arith, e))
success_none q written (increment _ word vs can has are) level allowed e = absurd (grind (arith, level, has))

-- what is written of an answer that is above a version
one_above : (is_json is_nul is_asked : Bool) (v : VersionValue) (answer : Result VersionValue Fault) → ((w : VersionValue) → answer ≡ Ok w → (precedence v w ≡ Less))
    → (if is_asked then next_written is_json is_nul answer else nothing_written (Some NotOneVersion)).is_success ≡ true
    → (w : VersionValue) × ((if is_asked then next_written is_json is_nul answer else nothing_written (Some NotOneVersion)).output ≡ next_text is_json is_nul w) × (precedence v w ≡ Less)
one_above is_json is_nul false v answer above e = absurd (grind (arith, e))
one_above is_json is_nul true v (Err fault) above e = absurd (grind (arith, e))
one_above is_json is_nul true v (Ok w) above e = (w, refl, above w refl)

abbrev Rises : Type 0
Rises = (v w : VersionValue) (word : List ℕ) (id : Option (List ℕ)) (base : Option IdentifierBase) → unwrap_or id [] ≡ [] → word ≢ codes "pre"
    → answer_of_inc v word id base ≡ Ok w → (precedence v w ≡ Less)

written_above : Rises → (q : Asked) (word : List ℕ) (es : List Entry) → word ≢ codes "pre" → unwrap_or q.identifier [] ≡ []
    → AreListed q.reading [] q.versions es → (increment_written q word es).is_success ≡ true
    → (e : Entry) × (w : VersionValue) × AreListed q.reading [] q.versions (e ∷ []) × ((increment_written q word es).output ≡ next_text q.is_json q.ends_in_nul w)
    × (precedence e.version w ≡ Less)
written_above rises q word [] other plain are e = absurd (grind (arith, e))
written_above rises q word (d ∷ []) other plain are e =
    let (w, out, above) = one_above q.is_json q.ends_in_nul (is_empty q.ranges) d.version (answer_of_inc d.version word q.identifier (Some q.base))
    (λ w is. rises d.version w word q.identifier (Some q.base) plain other is) e in
    (d, w, are, out, above)
written_above rises q word (d ∷ f ∷ es) other plain are e = absurd (grind (arith, e))

pub next_above : Rises → (q : Asked) (level : List ℕ) (written : Written) → Responds (Some q) written → q.level ≡ Some level → is_level level ≡ true
    → unwrap_or q.identifier [] ≡ [] → written.is_success ≡ true
    → (e : Entry) × (w : VersionValue) × AreListed q.reading [] q.versions (e ∷ []) × (written.output ≡ next_text q.is_json q.ends_in_nul w)
    × (precedence e.version w ≡ Less)
next_above rises q level written (refused _ why is) asked known plain e = absurd (grind (arith, e))
next_above rises q level written (versions _ vs can no_level sorts listing) asked known plain e = absurd (grind (arith, asked, no_level))
next_above rises q level written (given _ vs can no_level keeps are) asked known plain e = absurd (grind (arith, asked, no_level))
next_above rises q level written (increment _ word vs can has are) asked known plain e =
    let same : word ≡ level = ap (λ o. unwrap_or o word) (sym has ∙ asked) in
    written_above rises q word vs (λ is_pre. absurd (grind (arith, rw (sym same ∙ is_pre) at known))) plain are e
