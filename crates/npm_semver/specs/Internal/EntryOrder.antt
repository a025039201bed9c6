-- For proofs. The order of entries is total.
use Rattle.std.specs.Cmp.{IsTotalOrder, on_total, then_total}
use Rattle.std.specs.Cmp.Lexicographic.{nat_list_cmp_total}
use Rattle.semver_core.specs.Internal.OrderLaws.{precedence_total}
use Rattle.npm_semver.specs.Listing.{Entry, order}

pub order_total : IsTotalOrder order
order_total = then_total (on_total (λ (e : Entry). e.version) precedence_total)
    (on_total (λ (e : Entry). e.text) nat_list_cmp_total)
