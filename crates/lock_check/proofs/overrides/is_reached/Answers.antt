use Rattle.std.proofs.Common.{IfOk, IsTrue, ◌↔◌, subst, sym}
use Rattle.lock_check.specs.Overrides.{IsReached}
use Rattle.lock_files.specs.declared.specifier.Specifier.TheVariants.{Repository}
use Rattle.lock_check.proofs.overrides.is_reached.Goals as goal

pub returns-in-Range : goal.returns-in-Range
returns-in-Range c = subst (λ s. IfOk c.may_be_in.result (λ is. IsTrue is ↔ IsReached c.args.own.now s)) (sym c.in-Range.is)
    c.may_be_in.ensures

pub returns-in-Some : goal.returns-in-Some
returns-in-Some c =
    let r = c.may_be_in-in-Some.result in
    subst (λ s. IfOk r (λ is. IsTrue is ↔ IsReached c.args.own.now s)) (sym c.in-Repository.is)
    (subst (λ t. IfOk r (λ is. IsTrue is ↔ IsReached c.args.own.now (Repository t))) (sym c.in-Some.is)
    c.may_be_in-in-Some.ensures)
