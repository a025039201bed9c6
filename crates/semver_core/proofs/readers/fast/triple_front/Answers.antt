use Rattle.semver_core.specs.declared.TheConstants.{MAX_SAFE_INTEGER}
use Rattle.semver_core.proofs.Text.Texts.{triple_none, triple_read}
use Rattle.semver_core.proofs.readers.fast.triple_front.Goals as goal

pub returns-in_err-major-clause-none : goal.returns-in_err-major-clause-none
returns-in_err-major-clause-none c =
    rw c.from_residual.ensures (triple_none MAX_SAFE_INTEGER c.args.text.now c.in_err-major.ensures.found)

pub returns-clause-some : goal.returns-clause-some
returns-clause-some c = triple_read MAX_SAFE_INTEGER c.args.text.now _ c.in_ok-major.ensures.found
