-- What is written where a next version is asked for.
use Rattle.std.proofs.Common.{◌≡◌, ◌≢◌, ◌==◌, ◌∷◌, [], ℕ, Bool, true, false, not, List, Some, None, Result, Ok, Err, IfOk, arith, get_or, length, refl, sym, ap, ◌∙◌}
use Rattle.std.specs.Borrow.{Bor}
use Rattle.std.specs.declared.alloc.AllocError.{AllocError}
use Rattle.semver_core.specs.Increments.Table.{answer_of_inc}
use Rattle.semver_core.specs.Lists.{is_empty}
use Rattle.npm_semver.specs.Arguments.{Asked}
use Rattle.npm_semver.specs.Listing.{AreListed, Entry, IsListing}
use Rattle.semver_core.specs.Failures.{NoValue}
use Rattle.npm_semver.specs.Responses.{IsRefused, NotOneVersion, Responds, Written, increment, given, increment_written, next_written, nothing_written, printed_text, prints_as_given, text_of, versions}
use Rattle.npm_semver.specs.Internal.Asked.{texts}
use Rattle.npm_semver.specs.Internal.Written.{written}
use Rattle.npm_semver.specs.declared.run.Response.{Response}

pub responds : (q : Asked) (level : List ℕ) (es : List Entry) (w : Written) → NoValue (IsRefused q) → q.level ≡ Some level
    → AreListed q.reading [] q.versions es → w ≡ increment_written q level es → Responds (Some q) w
responds q level es w can has listed e = rw e (increment q level es can has listed)

pub if_responds : (r : Result Response AllocError) (q : Asked) (level : List ℕ) (es : List Entry) (w : Written) → NoValue (IsRefused q) → q.level ≡ Some level
    → AreListed q.reading [] q.versions es → w ≡ increment_written q level es → IfOk r (λ x. written x ≡ w)
    → IfOk r (λ x. Responds (Some q) (written x))
if_responds (Ok x) q level es w can has listed e is = responds q level es (written x) can has listed (is ∙ e)
if_responds (Err error) q level es w can has listed e is = tt

no_texts : (xs : List (List ℕ)) → is_empty xs ≡ true → xs ≡ []
no_texts [] e = refl
no_texts (x ∷ xs) e = absurd (cc)

one_item : (es : List Entry) (e : Entry) → e ≡ get_or es 0 e → length es ≡ 1 → es ≡ e ∷ []
one_item [] e is one = absurd (omega (arith, one))
one_item (d ∷ []) e is one = ap (λ (x : Entry). x ∷ []) (sym is)
one_item (d ∷ f ∷ es) e is one = absurd (omega (arith, one))

others : (found : List Entry) (has : Bool) → is_empty found ≡ not has → has ≡ true → length found ≢ 1 → (q : Asked) (level : List ℕ)
    → nothing_written (Some NotOneVersion) ≡ increment_written q level found
others [] has some e other q level = let k : true ≡ false = some ∙ ap not e in absurd (cc)
others (d ∷ []) has some e other q level = absurd (other refl)
others (d ∷ f ∷ es) has some e other q level = refl

module _ (q : Asked) (level : List ℕ) where
  pub of_none : (found : List Entry) (has : Bool) → is_empty found ≡ not has → has ≡ false → nothing_written None ≡ increment_written q level found
  of_none [] has some e = refl
  of_none (d ∷ es) has some e = let k : false ≡ true = some ∙ ap not e in absurd (cc)

  pub of_ranges : (found : List Entry) (has : Bool) → is_empty found ≡ not has → has ≡ true → is_empty q.ranges ≡ false
      → nothing_written (Some NotOneVersion) ≡ increment_written q level found
  of_ranges [] has some e are = let k : true ≡ false = some ∙ ap not e in absurd (cc)
  of_ranges (d ∷ []) has some e are = rw are refl
  of_ranges (d ∷ f ∷ es) has some e are = refl

  pub of_others : (es found : List Entry) (has : Bool) → is_empty found ≡ not has → has ≡ true → length es ≢ 1
      → (q.ranges ≡ [] → es ≡ found) → is_empty q.ranges ≡ true → nothing_written (Some NotOneVersion) ≡ increment_written q level found
  of_others es found has some e other same none = others found has some e (rw (same (no_texts q.ranges none)) at other) q level

  pub of_one : (es found : List Entry) (e : Entry) → e ≡ get_or es 0 e → length es ≡ 1 → (q.ranges ≡ [] → es ≡ found) → is_empty q.ranges ≡ true
      → next_written q.is_json q.ends_in_nul (answer_of_inc e.version level q.identifier (Some q.base)) ≡ increment_written q level found
  of_one es found e is one same none =
      let alone : found ≡ e ∷ [] = sym (same (no_texts q.ranges none)) ∙ one_item es e is one in rw (alone, none) refl

pub empty_texts : (xs : List (Bor (List ℕ))) (b : Bool) → b ≡ (length xs == 0) → is_empty (texts xs) ≡ b
empty_texts [] b e = sym e
empty_texts (x ∷ xs) b e = grind (arith, e)

pub lists : (q : Asked) (es : List Entry) (output : List ℕ) (done : Bool) → NoValue (IsRefused q) → q.level ≡ None
    → prints_as_given q ≡ false → IsListing q.reading q.ranges q.versions es → output ≡ text_of q es → done ≡ not (is_empty es)
    → Responds (Some q) (record { output = output; refusal = None; is_success = done })
lists q es output done can has sorts listing out is = rw (out, is) (versions q es can has sorts listing)

pub gives : (q : Asked) (es : List Entry) (output : List ℕ) (done : Bool) → NoValue (IsRefused q) → q.level ≡ None
    → prints_as_given q ≡ true → AreListed q.reading q.ranges q.versions es → output ≡ printed_text q es → done ≡ not (is_empty es)
    → Responds (Some q) (record { output = output; refusal = None; is_success = done })
gives q es output done can has keeps are out is = rw (out, is) (given q es can has keeps are)
