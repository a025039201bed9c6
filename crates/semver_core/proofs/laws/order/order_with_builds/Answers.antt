use Rattle.semver_core.proofs.{Common.{ap, tied_itself, ◌∙◌}, Values.Compared.{build_total, same_value}}
use Rattle.semver_core.proofs.Values.TotalOrders as order
use Rattle.semver_core.specs.Values.Order.{build_order}
use Rattle.semver_core.proofs.laws.order.order_with_builds.Goals as goal

pub returns : goal.returns
returns c = record {
  tied = λ v w. (same_value v w, λ e. ap (λ u. build_order u w) e ∙ tied_itself build_total w);
  antisymmetric = λ v w h k. same_value v w (order.antisymmetric build_total v w h k);
  transitive = order.transitive build_total;
  total = order.total build_total;
}
