use Rattle.std.proofs.Common.{refl}
use Rattle.npm_semver.specs.Internal.Asked.{asked_of}
use Rattle.npm_semver.proofs.Answering.{gives}
use Rattle.npm_semver.proofs.run.given.Goals as goal

pub returns : goal.returns
returns c =
    let wrote = rw c.new-output.ensures.bytes at c.in_ok-write_all.ensures in
    gives (asked_of c.args.question.now) _ _ _ c.requires.answered (rw c.requires.level refl) c.requires.order c.requires.listed wrote c.is_filled.ensures
