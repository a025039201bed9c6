use Rattle.std.proofs.Common.{◌++◌, None, arith, codes}
use Rattle.std.proofs.lemmas.Str.Pattern.{strip_prefix_char}
use Rattle.lock_files.proofs.Packed.{between, off-end}
use Rattle.lock_files.proofs.Parts.{behind_char}
use Rattle.lock_files.proofs.nested.version_of.Goals as goal

pub returns-in-Some : goal.returns-in-Some
returns-in-Some c =
    let version = c.in-Some.version.now in
    let cut = c.in-Some.ensures.cases in
    between c.args.rest.now version c.strip_suffix.result
    (behind_char 45 c.args.rest.now version cut.0 (omega arith) cut.1 cut.2)
    (off-end (codes ".tgz") version c.strip_suffix.result c.strip_suffix.ensures.cases)

pub returns-in-None : goal.returns-in-None
returns-in-None c = λ version.
    strip_prefix_char 45 c.args.rest.now None c.in-None.ensures.cases (omega arith) (version ++ codes ".tgz")
