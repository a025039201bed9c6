use Rattle.std.proofs.Common.{◌∙◌, ap, arith, sym}
use Rattle.lock_files.specs.Specifiers.{without_www}
use Rattle.lock_files.proofs.Addresses.{after_last-cut, after_last-whole}
use Rattle.lock_files.proofs.Parts.{uncut}
use Rattle.lock_files.proofs.Patterns.{cut_last}
use Rattle.lock_files.proofs.specifier.host_in.Goals as goal

pub returns-in-Some : goal.returns-in-Some
returns-in-Some c =
    let authority = c.args.authority.now in
    let user = c.in-Some.field-0-0.now in
    let host = c.in-Some.host.now in
    let cut = cut_last 64 authority user host (omega arith) c.in-Some.ensures.cases in
    c.without_www.ensures ∙ ap without_www (sym (after_last-cut 64 authority user host cut.0 cut.1))

pub returns-in-None : goal.returns-in-None
returns-in-None c =
    let authority = c.args.authority.now in
    c.without_www-in-None.ensures
    ∙ ap without_www (sym (after_last-whole 64 authority (uncut 64 authority (omega arith) c.in-None.ensures.cases)))
