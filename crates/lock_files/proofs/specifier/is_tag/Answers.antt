use Rattle.std.proofs.Common.{◌≡◌, ◌∙◌, ap, subst, sym, true}
use Rattle.std.specs.List.{list_all}
use Rattle.lock_files.specs.Specifiers.{is_url_byte}
use Rattle.lock_files.proofs.Parts.{one_trim}
use Rattle.lock_files.proofs.specifier.is_tag.Goals as goal

pub returns : goal.returns
returns c =
    let middle = c.trim.result.now in
    let bytes = c.are_tag_bytes.ensures ∙ ap (list_all is_url_byte) c.as_bytes.ensures.value in (
      λ is. (middle, c.trim.ensures.middle, sym bytes ∙ is),
      λ is. bytes ∙ subst (λ m. list_all is_url_byte m ≡ true)
          (one_trim c.args.text.now is.0 middle is.1 c.trim.ensures.middle) is.2,
    )
