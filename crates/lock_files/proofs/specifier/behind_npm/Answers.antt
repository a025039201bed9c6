use Rattle.std.proofs.Common.{arith}
use Rattle.std.proofs.lemmas.Bool.{iff_false}
use Rattle.lock_files.proofs.Npm.{no_npm-cut, no_npm-uncut}
use Rattle.lock_files.proofs.Parts.{cut_at, uncut}
use Rattle.lock_files.proofs.specifier.behind_npm.Goals.{in_default-via-in-Some+else-eq_ignore_ascii_case}
use Rattle.lock_files.proofs.specifier.behind_npm.Goals.{in_default-via-in_default}
use Rattle.lock_files.proofs.specifier.behind_npm.Goals as goal

pub returns-in_default : goal.returns-in_default
returns-in_default c =
    let text = c.args.text.now in
    elim c.in_default.branch [
      | in_default-via-in-Some+else-eq_ignore_ascii_case w ↦
          let scheme = w.in-Some.scheme.now in
          let target = w.in-Some.target.now in
          let cut = cut_at 58 text scheme target (omega arith) w.in-Some.ensures.cases in
          no_npm-cut text scheme target cut.0 cut.1
          (iff_false w.eq_ignore_ascii_case.ensures.test w.if-eq_ignore_ascii_case.false)
      | in_default-via-in_default w ↦ no_npm-uncut text (uncut 58 text (omega arith) w.in_default.ensures.cases)
    ]
