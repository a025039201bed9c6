use Rattle.nodejs_semver.proofs.Common.{IsUtf8, List, MAX_SAFE_INTEGER, Means, Span, VersionValue, accepts, ap, false, sym, ℕ, ◌∙◌, ◌≡◌}
use Rattle.nodejs_semver.proofs.Dividing.MeaningLaw.{same_meaning}
use Rattle.npm_reading.proofs.{Alike.same-accepted, Grammar.Intervals.range_accepts}
use Rattle.npm_reading.specs.Ranges.{IsRangeIn}
use Rattle.npm_words.proofs.{Common.{Comparison, HasAlternativesIn}, Grammar.AlternativeLaw.alternatives_once}
use Rattle.npm_words.specs.Alternatives as Npm
use Rattle.npm_reading.proofs.laws.alike.satisfied_alike.Goals as goal

module _ (text : List ℕ) (v : VersionValue) (u : IsUtf8 text) where
  -- what the range of a text accepts here, and what that to node-semver does
  here-means : (here list : List (Span VersionValue)) → Means MAX_SAFE_INTEGER text here → Means MAX_SAFE_INTEGER text list
      → accepts here v false ≡ accepts list v false
  here-means here list m k = ap (λ l. accepts l v false) (same_meaning MAX_SAFE_INTEGER text here list u m k)

  there-means : (there : List (Span VersionValue)) (all : List (List Comparison)) → IsRangeIn false MAX_SAFE_INTEGER false text there
      → HasAlternativesIn false MAX_SAFE_INTEGER false text all → accepts there v false ≡ Npm.accepts false all v
  there-means there all r k = range_accepts _ _ _ _ _ r v ∙ ap (λ l. Npm.accepts false l v) (alternatives_once _ _ _ _ _ _ u r.has k)

pub returns-clause-here : goal.returns-clause-here
returns-clause-here c = λ list m. c.satisfies.ensures.gate ∙ here-means _ _ c.utf8.text _ list c.in_ok-here.ensures.ok m

pub returns-clause-there : goal.returns-clause-there
returns-clause-there c = λ all k. c.satisfies-2.ensures.gate ∙ there-means _ _ c.utf8.text _ all c.in_ok-there.ensures.ok k

pub returns-clause-same : goal.returns-clause-same
returns-clause-same c = λ list all m k alike w.
    c.satisfies.ensures.gate ∙ here-means _ _ c.utf8.text _ list c.in_ok-here.ensures.ok m ∙ same-accepted _ list all _ c.utf8.text m k alike w
    ∙ sym (there-means _ _ c.utf8.text _ all c.in_ok-there.ensures.ok k) ∙ sym c.satisfies-2.ensures.gate
