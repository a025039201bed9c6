use Rattle.nodejs_semver.proofs.Common.{MAX_SAFE_INTEGER, arith, rules}
use Rattle.nodejs_semver.proofs.Everyday.{Parts.{none-read, part-read, whole-read}, Whole.{if-some}}
use Rattle.nodejs_semver.proofs.readers.fast.read_common.Goals as goal

pub returns-in-Some-clause-some : goal.returns-in-Some-clause-some
returns-in-Some-clause-some g c = λ none.
    whole-read MAX_SAFE_INTEGER c.args.text.now (g.S.Found.items c.read_front.new.found) c.in-Some.rest.now
    (if-some _ c.in_ok-rest.field-0 c.in-Some.rest c.in-Some.is c.in_ok-rest.ensures.some) (grind arith)

pub returns-in-Some-clause-none : goal.returns-in-Some-clause-none
returns-in-Some-clause-none g c = λ some.
    part-read MAX_SAFE_INTEGER c.args.text.now (g.S.Found.items c.read_front.new.found) c.in-Some.rest.now
    (if-some _ c.in_ok-rest.field-0 c.in-Some.rest c.in-Some.is c.in_ok-rest.ensures.some) (grind arith)

pub returns-in-None-clause-none : goal.returns-in-None-clause-none
returns-in-None-clause-none g c = λ _. none-read MAX_SAFE_INTEGER c.args.text.now (search (rules, c.in-None.is, c.in_ok-rest.ensures.none))
