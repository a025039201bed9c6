use Rattle.std.proofs.Common.{◌∙◌, Some, None, arith, sym}
use Rattle.std.proofs.lemmas.Iterator.Consumers.{nth_from_yields_List}
use Rattle.std.proofs.lemmas.Iterator.Splits.{YieldsList-from_str_split}
use Rattle.lock_files.proofs.Addresses.{below-cases, no_below, third-is}
use Rattle.lock_files.proofs.Npm.{nil}
use Rattle.lock_files.proofs.Parts.{filled}
use Rattle.lock_files.proofs.specifier.is_below_project.Goals as goal

pub returns-then-not-is_empty : goal.returns-then-not-is_empty
returns-then-not-is_empty c =
    let path = c.args.path.now in
    let part = c.in-Some.part.now in
    let third = third-is path (Some c.in-Some.part)
    (nth_from_yields_List (Some c.in-Some.part) c.nth.new.self 2 c.in-Some.ensures.ran
    (YieldsList-from_str_split 47 path (omega arith) c.split.ensures.text c.split.ensures.has_more c.split.ensures.pattern)) in
    below-cases path part c.ne.result third (filled part (sym c.is_empty.ensures ∙ c.if-not-is_empty.true)) c.ne.ensures

pub returns-else-not-is_empty : goal.returns-else-not-is_empty
returns-else-not-is_empty c =
    let path = c.args.path.now in
    let part = c.in-Some.part.now in
    let third = third-is path (Some c.in-Some.part)
    (nth_from_yields_List (Some c.in-Some.part) c.nth.new.self 2 c.in-Some.ensures.ran
    (YieldsList-from_str_split 47 path (omega arith) c.split.ensures.text c.split.ensures.has_more c.split.ensures.pattern)) in
    let none = c.if-not-is_empty.false in
    let never = no_below path (third ∙ nil part (sym c.is_empty.ensures ∙ none)) in
    (λ is. absurd (cc), λ is. absurd (never is))

pub returns-in-None : goal.returns-in-None
returns-in-None c =
    let path = c.args.path.now in
    let third = third-is path None
    (nth_from_yields_List None c.nth.new.self 2 c.in-None.ensures.ran
    (YieldsList-from_str_split 47 path (omega arith) c.split.ensures.text c.split.ensures.has_more c.split.ensures.pattern)) in
    (λ is. absurd (cc), λ is. absurd (no_below path third is))
