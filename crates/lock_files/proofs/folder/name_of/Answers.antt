use Rattle.std.proofs.Common.{◌++◌, ◌∷◌, ◌∙◌, ap, arith, sym}
use Rattle.lock_files.proofs.Parts.{uncut}
use Rattle.lock_files.proofs.Patterns.{cut-behind, cut_last, name-behind, name-last, name-scoped, name-second}
use Rattle.lock_files.proofs.Patterns.{name-whole, signed, unsigned, whole}
use Rattle.lock_files.proofs.folder.name_of.Goals as goal

pub returns-in_default : goal.returns-in_default
returns-in_default c = name-whole c.args.folder.now (uncut 47 c.args.folder.now (omega arith) c.in_default.ensures.cases)

pub returns-in-None : goal.returns-in-None
returns-in-None c =
    let folder = c.args.folder.now in
    let above = c.in-Some.above.now in
    let base = c.in-Some.base.now in
    name-scoped folder above base (cut_last 47 folder above base (omega arith) c.in-Some.ensures.cases)
    (uncut 47 above (omega arith) c.in-None.ensures.cases)
    (signed above c.if-starts_with.ensures.cases.0 c.if-starts_with.ensures.cases.1)

pub returns-in-None-2 : goal.returns-in-None-2
returns-in-None-2 c =
    let folder = c.args.folder.now in
    let above = c.in-Some.above.now in
    let base = c.in-Some.base.now in
    name-second folder above base (cut_last 47 folder above base (omega arith) c.in-Some.ensures.cases)
    (uncut 47 above (omega arith) c.in-None.ensures.cases) (unsigned above c.if-starts_with.ensures.cases)

pub returns-then-starts_with-2 : goal.returns-then-starts_with-2
returns-then-starts_with-2 c =
    let folder = c.args.folder.now in
    let above = c.in-Some.above.now in
    let base = c.in-Some.base.now in
    let front = c.in-Some-rsplit_once.front.now in
    let scope = c.in-Some-rsplit_once.scope.now in
    let cut = cut_last 47 folder above base (omega arith) c.in-Some.ensures.cases in
    let also = cut_last 47 above front scope (omega arith) c.in-Some-rsplit_once.ensures.cases in
    name-behind folder above base cut front scope also c.unwrap_or.result.now
    (cut-behind folder front (scope ++ 47 ∷ base) c.in-Some.base c.behind.result (whole folder above base cut front scope also)
    c.behind.ensures ∙ ap (λ t. front ++ 47 ∷ t.now) (sym c.unwrap_or.ensures))
    (signed scope c.if-starts_with-2.ensures.cases.0 c.if-starts_with-2.ensures.cases.1)

pub returns-else-starts_with-2 : goal.returns-else-starts_with-2
returns-else-starts_with-2 c =
    let folder = c.args.folder.now in
    let above = c.in-Some.above.now in
    let base = c.in-Some.base.now in
    let front = c.in-Some-rsplit_once.front.now in
    let scope = c.in-Some-rsplit_once.scope.now in
    name-last folder above base (cut_last 47 folder above base (omega arith) c.in-Some.ensures.cases) front scope
    (cut_last 47 above front scope (omega arith) c.in-Some-rsplit_once.ensures.cases)
    (unsigned scope c.if-starts_with-2.ensures.cases)
