use Rattle.nodejs_semver.proofs.Common.{arith, false, on_err, sym, ◌∙◌}
use Rattle.nodejs_semver.{proofs.Questions.Least.{better_bare}, specs.Internal.Candidates.{Finds, bare}}
use Rattle.nodejs_semver.proofs.range.least.consider.Goals as goal

pub returns-else-not-is_reached-clause-best : goal.returns-else-not-is_reached-clause-best
returns-else-not-is_reached-clause-best g c =
    better_bare (g.S.Search.copies c.args.search.now) (g.S.Search.wanted c.args.search.now) false c.args.best.now
    (g.C.Versioned.value c.args.version.now) (grind arith)

pub returns-in_err-bare-clause-memory : goal.returns-in_err-bare-clause-memory
returns-in_err-bare-clause-memory g c =
    let found : Finds (g.S.Search.copies c.args.search.now) (g.S.Search.wanted c.args.search.now) =
    (sym c.copies.ensures ∙ c.if-copies.true, bare (g.C.Versioned.value c.args.version.now), grind arith, c.in_err-bare.ensures.memory) in
    on_err _ found
