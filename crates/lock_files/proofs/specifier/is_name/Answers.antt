use Rattle.std.proofs.Common.{◌++◌, ◌∙◌, [], ap, arith, drop, inl, inr, subst, sym}
use Rattle.std.proofs.lemmas.List.{append-nil}
use Rattle.std.proofs.lemmas.Str.{encode_ascii}
use Rattle.lock_files.specs.Specifiers.{IsScopeAndName}
use Rattle.lock_files.proofs.Parts.{bare-no-sign, behind_char}
use Rattle.lock_files.proofs.specifier.is_name.Goals as goal

pub returns-in-Some : goal.returns-in-Some
returns-in-Some c =
    let text = c.args.text.now in
    let rest = c.in-Some.text.now in
    let cases = c.in-Some.ensures.cases in
    let whole = behind_char 64 text rest cases.0 (omega arith) cases.1 cases.2 in (
      λ is. inr (rest, whole, c.is_scope_and_name.ensures.0 is),
      λ is. elim is [
        | inl bare ↦ absurd (bare-no-sign text rest [] bare (append-nil text ∙ whole))
        | inr scoped ↦ c.is_scope_and_name.ensures.1
            (subst (λ t. IsScopeAndName t) (ap (drop 1) (sym scoped.1 ∙ whole)) scoped.2)
      ],
    )

pub returns-in-None : goal.returns-in-None
returns-in-None c =
    let text = c.args.text.now in (
      λ is. inl (c.is_bare_name.ensures.0 is),
      λ is. elim is [
        | inl bare ↦ c.is_bare_name.ensures.1 bare
        | inr scoped ↦ absurd (c.in-None.ensures.cases scoped.0
            (scoped.1 ∙ ap (λ t. t ++ scoped.0) (sym (encode_ascii 64 (omega arith)))))
      ],
    )
