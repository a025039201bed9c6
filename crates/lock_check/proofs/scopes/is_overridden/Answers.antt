use Rattle.std.proofs.Common.{◌∙◌, codes, inl, inr, sym}
use Rattle.std.proofs.lemmas.Str.Pattern.{starts_text}
use Rattle.lock_files.proofs.Parts.{filled}
use Rattle.lock_check.proofs.scopes.is_overridden.Goals as goal

pub returns-else-is_empty : goal.returns-else-is_empty
returns-else-is_empty c =
    let folder = c.args.edge.dependency.package.folder.now in
    let begins = starts_text c.starts_with.result (codes "node_modules/") folder c.starts_with.ensures.cases in (
      λ on. inr (sym begins ∙ on),
      λ is. elim is [
        | inl none ↦ absurd (filled folder (sym c.is_empty.ensures ∙ c.if-is_empty.false) none)
        | inr on ↦ begins ∙ on
      ],
    )
