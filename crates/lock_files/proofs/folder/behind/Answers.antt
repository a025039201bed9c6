use Rattle.std.proofs.Common.{◌++◌, ◌∙◌, ap, arith, sym}
use Rattle.std.proofs.lemmas.Str.Pattern.{strip_prefix_char}
use Rattle.lock_files.proofs.Patterns.{behind-front}
use Rattle.lock_files.proofs.folder.behind.Goals as goal

pub returns-in-Some : goal.returns-in-Some
returns-in-Some c =
    let front = c.args.front.now in
    let rest = c.in-Some.rest.now in
    let cut = c.in-Some.ensures.cases in
    behind-front c.args.folder.now front rest c.strip_prefix-in-Some.result
    (cut.1.1 ∙ ap (λ t. front ++ t) (sym cut.2))
    (strip_prefix_char 47 rest c.strip_prefix-in-Some.result c.strip_prefix-in-Some.ensures.cases (omega arith))
