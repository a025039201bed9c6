use Rattle.nodejs_semver.proofs.Common.{ap, arith, if_any, on_err}
use Rattle.nodejs_semver.proofs.Algebra.Accepting.{difference_accepts}
use Rattle.nodejs_semver.proofs.Algebra.Clauses.{difference-all, difference-releases, difference-set, intervals-ordered, minus-is, minus-some}
use Rattle.nodejs_semver.proofs.Algebra.Clauses.{minus-valid}
use Rattle.nodejs_semver.proofs.range.RangeOf.difference.Goals as goal

pub differences-requires : goal.differences-requires
differences-requires g c = (
  omega arith,
  intervals-ordered _ _ g.met.V.VersionPoint.ordered _ _ _ _
      c.items.ensures.valid c.items-2.ensures.valid c.items.ensures.value c.items-2.ensures.value,
)

pub of_intervals-requires : goal.of_intervals-requires
of_intervals-requires g c =
    let valid = minus-valid _ _ g.met.V.VersionPoint.ordered _ _ _ _
    c.items.ensures.valid c.items-2.ensures.valid c.items.ensures.value c.items-2.ensures.value in
    (omega arith, (omega arith, rw (c.in_ok-left.ensures.items) valid))

pub returns-clause-list : goal.returns-clause-list
returns-clause-list g c = rw (c.of_intervals.ensures, c.in_ok-left.ensures.items) (ap if_any (minus-is _ _ g.met.V.VersionPoint.ordered _ _ _ _
    c.items.ensures.valid c.items-2.ensures.valid c.items.ensures.value c.items-2.ensures.value))

pub returns-clause-set : goal.returns-clause-set
returns-clause-set g c = rw (returns-clause-list g c) (difference-set c.args.self.now c.args.other.now)

pub returns-clause-all : goal.returns-clause-all
returns-clause-all g c = rw (returns-clause-list g c) (difference-all c.args.self.now c.args.other.now)

pub returns-clause-kept : goal.returns-clause-kept
returns-clause-kept g c = rw (returns-clause-list g c) (difference_accepts c.args.self.now c.args.other.now)

pub returns-clause-releases : goal.returns-clause-releases
returns-clause-releases g c = rw (returns-clause-list g c) (difference-releases c.args.self.now c.args.other.now)

pub returns-in_err-left-clause-memory : goal.returns-in_err-left-clause-memory
returns-in_err-left-clause-memory g c = on_err c.from_residual.result (minus-some _ _ g.met.V.VersionPoint.ordered _ _ _ _
    c.items.ensures.valid c.items-2.ensures.valid c.items.ensures.value c.items-2.ensures.value
    c.in_err-left.ensures.memory)
