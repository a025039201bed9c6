use Rattle.nodejs_semver.proofs.{Common.{accepts, false}, Questions.Best.{max_says}}
use Rattle.nodejs_semver.proofs.range.RangeOf.max_satisfying.Goals as goal

pub returns : goal.returns
returns g c =
    let best = rw c.items.ensures.value at c.greatest.ensures.element in
    let (member, accepted, greatest, none) = max_says g.W.Versioned.value (λ v. accepts c.args.self.now v false) c.args.versions.now c.greatest.result best in
    record { best = best; member = member; accepted = accepted; greatest = greatest; none = none }
