use Rattle.nodejs_semver.proofs.{Common.{◌∙◌, accepts, false}, Questions.Best.{by_value, max_more}}
use Rattle.nodejs_semver.proofs.range.RangeOf.is_new_max.Goals as goal

pub returns : goal.returns
returns g c =
    let value = g.W.Versioned.value in
    let exact = (rw c.items.ensures.value at c.is_new_max.ensures) ∙ by_value value (λ v. accepts c.args.self.now v false) _ c.args.best c.args.version.now in
    record { exact = exact; best = λ list. max_more value (λ v. accepts c.args.self.now v false) list _ _ _ exact }
