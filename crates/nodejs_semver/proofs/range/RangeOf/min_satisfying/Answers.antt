use Rattle.nodejs_semver.proofs.{Common.{accepts, false}, Questions.Best.{min_says}}
use Rattle.nodejs_semver.proofs.range.RangeOf.min_satisfying.Goals as goal

pub returns : goal.returns
returns g c =
    let best = rw c.items.ensures.value at c.least.ensures.element in
    let (member, accepted, smallest, none) = min_says g.W.Versioned.value (λ v. accepts c.args.self.now v false) c.args.versions.now c.least.result best in
    record { best = best; member = member; accepted = accepted; smallest = smallest; none = none }
