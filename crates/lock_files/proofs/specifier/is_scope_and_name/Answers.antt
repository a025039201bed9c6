use Rattle.std.proofs.Common.{◌∙◌, arith, refl, sym}
use Rattle.lock_files.proofs.Parts.{cut_at, has-middle, one_cut, part-bytes, part-lacks, uncut}
use Rattle.lock_files.proofs.specifier.is_scope_and_name.Goals as goal

pub returns-then-is_part : goal.returns-then-is_part
returns-then-is_part c =
    let text = c.args.text.now in
    let scope = c.in-Some.scope.now in
    let name = c.in-Some.name.now in
    let cut = cut_at 47 text scope name (omega arith) c.in-Some.ensures.cases in (
      λ is. (scope, name, cut.0, sym c.is_part.ensures ∙ c.if-is_part.true, sym c.is_part-then-is_part.ensures ∙ is),
      λ is.
          let one = one_cut 47 scope name is.0 is.1 cut.1 (part-lacks 47 is.0 refl (part-bytes is.0 is.3))
          (sym cut.0 ∙ is.2) in
          c.is_part-then-is_part.ensures ∙ rw one.1 is.4,
    )

pub returns-else-is_part : goal.returns-else-is_part
returns-else-is_part c =
    let text = c.args.text.now in
    let scope = c.in-Some.scope.now in
    let name = c.in-Some.name.now in
    let cut = cut_at 47 text scope name (omega arith) c.in-Some.ensures.cases in (
      λ is. let never = c.if-is_part.false in absurd (cc),
      λ is.
          let one = one_cut 47 scope name is.0 is.1 cut.1 (part-lacks 47 is.0 refl (part-bytes is.0 is.3))
          (sym cut.0 ∙ is.2) in
          c.is_part.ensures ∙ rw one.0 is.3,
    )

pub returns-in-None : goal.returns-in-None
returns-in-None c =
    let text = c.args.text.now in
    let none = uncut 47 text (omega arith) c.in-None.ensures.cases in
    (λ is. absurd (cc), λ is. let some = has-middle 47 text is.0 is.1 is.2 in absurd (cc))
