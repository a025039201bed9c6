use Rattle.std.proofs.Common.{◌∷◌, []}
use Rattle.nodejs_semver_c.proofs.Places.{place_kept}
use Rattle.nodejs_semver_c.proofs.choices.keep_better.Goals as goal

pub returns-else-is_new_best : goal.returns-else-is_new_best
returns-else-is_new_best c = λ vs counted h.
    ((rw (c.if-is_new_best.false, c.as_ref.ensures.value) at c.is_new_best.ensures) vs h.0, place_kept vs (c.args.version ∷ []) _ _ h.1)
