use Rattle.semver_core.proofs.Common.{arith, sym}
use Rattle.semver_core.specs.declared.TheConstants.{MAX_SAFE_INTEGER}
use Rattle.semver_core.proofs.Reading.Numbers.{component_none, component_some}
use Rattle.semver_pieces.proofs.fronts.component_front.Goals as goal

pub returns-in-Some-clause-value : goal.returns-in-Some-clause-value
returns-in-Some-clause-value c =
    sym (component_some MAX_SAFE_INTEGER c.args.text.now c.in-Some.rest.now c.in-Some.number (sym c.in-Some.ensures.value))

pub returns-in-None-2-clause-value : goal.returns-in-None-2-clause-value
returns-in-None-2-clause-value c = sym (component_none MAX_SAFE_INTEGER c.args.text.now (sym c.in-None.ensures.value) (grind arith))
