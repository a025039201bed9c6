use Rattle.npm_words.proofs.{Common.{Front, Option, ap, ℕ, ◌∙◌}, Grammar.PartialLaw.{more-capped, none-capped, one-capped}}
use Rattle.npm_words.specs.Internal.Words.{third_front}
use Rattle.npm_words.proofs.places.partial_front.Goals as goal

pub returns-in_err-major : goal.returns-in_err-major
returns-in_err-major c = rw c.from_residual.ensures (none-capped c.args.loose c.args.text.now c.in_err-major.ensures)

pub returns-in_default : goal.returns-in_default
returns-in_default c = rw c.short_partial.ensures (one-capped c.args.loose c.args.text.now _ _ c.in_ok-major.ensures c.in_default.ensures)

pub returns-in-Some-dotted_patch : goal.returns-in-Some-dotted_patch
returns-in-Some-dotted_patch c =
    c.qualified_partial.ensures
    ∙ ap (λ (o : Front (Option ℕ)). third_front c.args.loose c.in_ok-major.major c.in-Some.minor c.in-Some.rest.now o) c.in-Some-dotted_patch.ensures
    ∙ more-capped c.args.loose c.args.text.now _ _ _ _ c.in_ok-major.ensures c.in-Some.ensures

pub returns-in-None : goal.returns-in-None
returns-in-None c =
    rw c.short_partial-in-None.ensures (ap (λ (o : Front (Option ℕ)). third_front c.args.loose c.in_ok-major.major c.in-Some.minor c.in-Some.rest.now o) c.in-None.ensures)
    ∙ more-capped c.args.loose c.args.text.now _ _ _ _ c.in_ok-major.ensures c.in-Some.ensures
