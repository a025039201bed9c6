use Rattle.std.proofs.Common.{◌∙◌, sym}
use Rattle.lock_check.proofs.Sources.{page_from, page_only}
use Rattle.lock_check.proofs.check.Target.is_from_page.Goals as goal

pub returns-in-Some : goal.returns-in-Some
returns-in-Some c = rw (sym c.in-Some.ensures) (
  λ e. page_from _ _ c.of.ensures (sym c.is_page.ensures ∙ e),
  λ h. c.is_page.ensures ∙ page_only c.one_specifier.ensures _ _ c.of.ensures h,
)
