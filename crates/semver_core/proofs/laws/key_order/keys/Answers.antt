use Rattle.semver_core.proofs.Encoding.Order.{no_key_before}
use Rattle.semver_core.proofs.laws.key_order.keys.Goals as goal

pub returns-clause-no_front : goal.returns-clause-no_front
returns-clause-no_front c = no_key_before
