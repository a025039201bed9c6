use Rattle.std.proofs.Common.{◌∙◌, codes, inl, inr, sym}
use Rattle.std.proofs.lemmas.Str.Pattern.{contains_text, starts_text}
use Rattle.lock_files.proofs.folder.is_installed.Goals as goal

pub returns-then-starts_with : goal.returns-then-starts_with
returns-then-starts_with c =
    let begins = starts_text c.starts_with.result (codes "node_modules/") c.args.folder.now c.starts_with.ensures.cases in
    (λ _. inl (sym begins ∙ c.if-starts_with.true), λ _. c.if-starts_with.true)

pub returns-else-starts_with : goal.returns-else-starts_with
returns-else-starts_with c =
    let folder = c.args.folder.now in
    let begins = starts_text c.starts_with.result (codes "node_modules/") folder c.starts_with.ensures.cases in
    let holds = contains_text c.contains.result (codes "/node_modules/") folder c.contains.ensures.cases in (
      λ is. inr (holds.0 is),
      λ is. elim is [
        | inl does ↦
            let never = sym c.if-starts_with.false ∙ begins ∙ does in absurd (cc)
        | inr has ↦ holds.1 has
      ],
    )
