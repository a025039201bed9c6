use Rattle.std.proofs.Common.{arith}
use Rattle.std.proofs.lemmas.Grind.{common_steps}
use Rattle.std.proofs.Math.Seq.{drop-length, take-length}
use Rattle.semver_core.proofs.Encoding.Checking.{ids_of_pre, pre_of_ids}
use Rattle.semver_core.proofs.keys.read.read_version.Goals as goal

pub read_ids-requires : goal.read_ids-requires
read_ids-requires c = ids_of_pre _ c.requires c.if-starts_with.ensures.value

pub returns-clause-some : goal.returns-clause-some
returns-clause-some c =
    let pre = pre_of_ids c.args.bytes.now _ c.requires c.in_ok-ids.ensures in
    grind (arith, common_steps, take-length, drop-length)
