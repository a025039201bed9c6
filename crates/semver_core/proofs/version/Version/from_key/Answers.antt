use Rattle.std.proofs.Common.{arith, sym}
use Rattle.std.proofs.lemmas.Result.{on_err_weaker}
use Rattle.semver_core.proofs.Encoding.Checking.{keyed}
use Rattle.semver_core.proofs.version.Version.from_key.Goals as goal

pub returns-clause-memory : goal.returns-clause-memory
returns-clause-memory c =
    let numbers = c.in-Some.ensures.sound in
    let pre = c.is_pre.ensures.sound c.if-not-is_pre.false in
    on_err_weaker c.read_version.result (keyed _ _ _ _ _ numbers.0 numbers.1 numbers.2 numbers.3 pre) c.read_version.ensures.memory

pub returns-in_default-clause-none : goal.returns-in_default-clause-none
returns-in_default-clause-none c = λ v is e. grind (arith, c.in_default.ensures.complete)

pub returns-then-not-is_pre-clause-none : goal.returns-then-not-is_pre-clause-none
returns-then-not-is_pre-clause-none c = λ v is e.
    let same = c.in-Some.ensures.complete v.major v.minor v.patch _ is.major is.minor is.patch (sym e) in
    let pre = c.is_pre.ensures.complete (v.pre_release, is.pre_release, same.3) in
    cc
