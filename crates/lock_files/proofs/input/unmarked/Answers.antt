use Rattle.std.proofs.Common.{◌++◌, ap, encode_utf8, sym, ◌∙◌}
use Rattle.lock_files.specs.Documents.IsUnmarked.{marked, plain}
use Rattle.lock_files.proofs.input.unmarked.Goals as goal

pub returns-in-Some : goal.returns-in-Some
returns-in-Some c =
    let cases = c.in-Some.ensures.cases in
    marked c.in-Some.rest.now (cases.1.split ∙ ap (λ t. encode_utf8 0xFEFF ++ t) (sym cases.2))

pub returns-in-None : goal.returns-in-None
returns-in-None c = plain c.in-None.ensures.cases
