use Rattle.semver_core.proofs.Common.{arith}
use Rattle.semver_core.specs.declared.TheConstants.{MAX_SAFE_INTEGER}
use Rattle.semver_core.proofs.Reading.Numbers.{with_none, with_padded, with_some}
use Rattle.semver_pieces.proofs.fronts.number_front.Goals as goal

pub returns-then-begins_padded-clause-value : goal.returns-then-begins_padded-clause-value
returns-then-begins_padded-clause-value c = with_padded c.args.zeros MAX_SAFE_INTEGER c.args.text.now (grind arith)

pub returns-in_err-number-clause-value : goal.returns-in_err-number-clause-value
returns-in_err-number-clause-value c =
    rw c.from_residual.ensures (with_none c.args.zeros MAX_SAFE_INTEGER c.args.text.now c.in_err-number.ensures.none)

pub returns-clause-value : goal.returns-clause-value
returns-clause-value c = with_some c.args.zeros MAX_SAFE_INTEGER c.args.text.now _ _ (grind arith) c.in_ok-number.ensures.found
