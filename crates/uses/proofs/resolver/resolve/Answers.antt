use Rattle.std.proofs.Common.{length}
use Rattle.uses.specs.Resolver.{none_yet}
use Rattle.uses.proofs.Plans.{Agrees-from_none}
use Rattle.uses.proofs.resolver.resolve.Goals as goal

pub returns-clause-failure : goal.returns-clause-failure
returns-clause-failure c =
    let same = c.in_ok-picks.ensures.items in (
      λ f plan. c.in-Err.ensures.none f plan (Agrees-from_none c.in_ok-picks.picks.items (length c.args.packages.now) f same),
      c.in-Err.ensures.conflict,
    )

pub search-requires-clause-first : goal.search-requires-clause-first
search-requires-clause-first c = rw c.in_ok-picks.ensures.items (none_yet (length c.args.packages.now))
