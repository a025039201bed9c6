use Rattle.std.proofs.Common.{arith}
use Rattle.lock_files.proofs.Npm.{no_address}
use Rattle.lock_files.proofs.Parts.{uncut}
use Rattle.lock_files.proofs.specifier.scheme.Goals as goal

pub returns-in_default-clause-none : goal.returns-in_default-clause-none
returns-in_default-clause-none c =
    no_address c.args.text.now c.behind_git-is_git.result.1.now c.behind_git-is_git.ensures.behind
    (uncut 58 c.behind_git-is_git.result.1.now (omega arith) c.in_default.ensures.cases)
