use Rattle.std.proofs.Common.{◌++◌, ◌∙◌, ap, codes, sym}
use Rattle.lock_files.proofs.Packed.{front-before, no-front, off-end}
use Rattle.lock_files.proofs.nested.registry_front.Goals as goal

pub returns-in-Some : goal.returns-in-Some
returns-in-Some c =
    let above = c.in-Some.above.now in
    let cut = c.in-Some.ensures.cases in
    front-before c.args.place.now above (codes "/-/") c.args.file.now c.strip_suffix-in-Some.result
    (cut.1.1 ∙ ap (λ t. t ++ c.args.file.now) (sym cut.2))
    (off-end (codes "/-/") above c.strip_suffix-in-Some.result c.strip_suffix-in-Some.ensures.cases)

pub returns-in-None : goal.returns-in-None
returns-in-None c = no-front c.args.place.now (codes "/-/") c.args.file.now c.in-None.ensures.cases
