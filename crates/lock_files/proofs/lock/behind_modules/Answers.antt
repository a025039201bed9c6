use Rattle.std.proofs.Common.{codes, sym, ◌∙◌, ◌++◌, ap}
use Rattle.lock_files.proofs.Around.{no-behind}
use Rattle.lock_files.proofs.lock.behind_modules.Goals as goal

pub returns-clause-none : goal.returns-clause-none
returns-clause-none c =
    let cut = c.in_ok-strip_prefix.ensures.cases in
    no-behind _ c.args.folder.now c.args.place.now c.in_ok-strip_prefix.field-0.now (codes "/node_modules/") c.strip_prefix-2.result
    (cut.1.1 ∙ ap (λ t. c.args.place.now ++ t) (sym cut.2)) c.strip_prefix-2.ensures.cases
