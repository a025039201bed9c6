use Rattle.std.proofs.Common.{◌∙◌, ap, subst, sym, unwrap_or}
use Rattle.lock_files.specs.Lookups.{IsPacked}
use Rattle.lock_check.proofs.scopes.is_locked_packed.Goals as goal

pub returns-in-Some : goal.returns-in-Some
returns-in-Some c = (
  λ on. (c.in-Some.locked, c.in-Some.is, c.is_packed.ensures.0 on),
  λ has. c.is_packed.ensures.1
      (subst (IsPacked c.args.lock) (ap (λ o. unwrap_or o c.in-Some.locked) (sym has.1 ∙ c.in-Some.is)) has.2),
)
