use Rattle.semver_core.proofs.Common.{[], ap, precedence, precedence_total, same_key, tied_itself, ◌∙◌}
use Rattle.semver_core.proofs.{Common.is_le}
use Rattle.semver_core.proofs.Values.TotalOrders as order
use Rattle.semver_core.proofs.Values.NextLaws as law
use Rattle.semver_core.proofs.laws.order.order_and_increments.Goals as goal

pub returns-clause-reflexive : goal.returns-clause-reflexive
returns-clause-reflexive c = λ v. ap is_le (tied_itself precedence_total v)

pub returns-clause-antisymmetric : goal.returns-clause-antisymmetric
returns-clause-antisymmetric c = order.antisymmetric precedence_total

pub returns-clause-transitive : goal.returns-clause-transitive
returns-clause-transitive c = order.transitive precedence_total

pub returns-clause-total : goal.returns-clause-total
returns-clause-total c = order.total precedence_total

pub returns-clause-tied : goal.returns-clause-tied
returns-clause-tied c = λ v w. (
  same_key v w,
  λ e.
      (λ i. precedence (record { major = e.0 i; minor = e.1 i; patch = e.2 i; pre_release = e.3 i; build = [] }) w)
      ∙ tied_itself precedence_total w,
)

pub returns-clause-pre_release : goal.returns-clause-pre_release
returns-clause-pre_release c = law.next_of_pre_release
