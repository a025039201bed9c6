use Rattle.semver_core.proofs.{Common.arith, Values.Lists.{alone}}
use Rattle.semver_core.proofs.version.lists.Lists.copy.Goals as goal

pub returns-in_err-ids-clause-zero : goal.returns-in_err-ids-clause-zero
returns-in_err-ids-clause-zero c = λ zero none.
    let one = alone c.args.self.now _ c.requires zero none in
    grind (arith, one)
