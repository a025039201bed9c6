use Rattle.std.proofs.Common.{◌∙◌, sym}
use Rattle.lock_check.proofs.Sources.{repository_from, repository_only}
use Rattle.lock_check.proofs.check.Target.is_from_repository.Goals as goal

pub returns-in-Some : goal.returns-in-Some
returns-in-Some c = rw (sym c.in-Some.ensures) (
  λ e. repository_from _ _ c.of.ensures (sym c.is_repository.ensures ∙ e),
  λ h. c.is_repository.ensures ∙ repository_only c.one_specifier.ensures _ _ c.of.ensures h,
)
