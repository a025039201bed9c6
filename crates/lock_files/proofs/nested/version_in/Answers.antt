use Rattle.std.proofs.Common.{◌++◌, ◌∙◌, ap, codes, sym}
use Rattle.lock_files.proofs.Packed.{named-in}
use Rattle.lock_files.proofs.nested.version_in.Goals as goal

pub returns-in-Some : goal.returns-in-Some
returns-in-Some c =
    let cut = c.in-Some.ensures.cases in
    named-in c.args.name.now c.args.file.now c.in-Some.rest.now _
    (cut.1.1 ∙ ap (λ t. c.args.name.now ++ t) (sym cut.2)) c.version_of.ensures

pub returns-in-None : goal.returns-in-None
returns-in-None c = λ version. c.in-None.ensures.cases (codes "-" ++ (version ++ codes ".tgz"))
