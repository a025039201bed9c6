use Rattle.std.proofs.Common.{arith, sym, ◌∙◌}
use Rattle.std.proofs.lemmas.Grind.{common_steps}
use Rattle.semver_answers.proofs.Pairs.{in_common}
use Rattle.semver_answers.proofs.pair.put_of_two.Goals as goal

pub returns-in-Intersection-clause-ok : goal.returns-in-Intersection-clause-ok
returns-in-Intersection-clause-ok c =
    rw (c.in-Intersection.is, in_common c.args.one.now c.args.other.now, sym c.meets.ensures ∙ c.if-not-meets.true) c.put.ensures.ok

pub returns-in-Intersection-2-clause-ok : goal.returns-in-Intersection-2-clause-ok
returns-in-Intersection-2-clause-ok c =
    rw (c.in-Intersection-2.is, in_common c.args.one.now c.args.other.now, sym c.meets.ensures ∙ c.if-not-meets.false) (grind (arith, common_steps))
