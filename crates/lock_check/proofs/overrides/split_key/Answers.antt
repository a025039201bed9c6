use Rattle.std.proofs.Common.{arith}
use Rattle.lock_check.proofs.Overriding.{key-bare, key-named, key-ranged}
use Rattle.lock_check.proofs.overrides.split_key.Goals as goal

pub returns-in_default : goal.returns-in_default
returns-in_default c =
    key-bare c.args.key.now c.unsigned.result.0.now c.unsigned.result.1 c.unsigned.ensures
    (c.in_default.ensures.byte (omega arith) (λ w o finds. finds))

pub returns-in_default-name_before : goal.returns-in_default-name_before
returns-in_default-name_before c =
    let cut = c.in-Some.ensures.byte (omega arith) (λ w o finds. finds) in
    absurd (key-named c.args.key.now c.unsigned.result.0.now c.in-Some.behind.now c.unsigned.result.1 c.unsigned.ensures
    cut.2 cut.1 c.in_default-name_before.ensures.none)

pub returns : goal.returns
returns c =
    let cut = c.in-Some.ensures.byte (omega arith) (λ w o finds. finds) in
    key-ranged c.args.key.now c.unsigned.result.0.now c.in-Some-name_before.name.now c.in-Some.behind.now c.trim.result.now c.or_any.result.now
    c.unsigned.result.1 c.unsigned.ensures cut.2 cut.1 c.in-Some-name_before.ensures.some c.trim.ensures.middle c.or_any.ensures
