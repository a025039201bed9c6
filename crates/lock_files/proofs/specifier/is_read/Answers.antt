use Rattle.std.proofs.Common.{◌≡◌, ◌∙◌, Bor, List, ap, map, subst, sym, ℕ}
use Rattle.std.specs.Prelude.{◌↔◌, IsTrue}
use Rattle.lock_files.specs.Specifiers.{IsOneOf, schemes}
use Rattle.lock_files.proofs.specifier.is_read.Goals.{then-is_git, else-is_git}
use Rattle.lock_files.proofs.specifier.is_read.Goals as goal

pub returns : goal.returns
returns c =
    let texts = λ (words : Bor (List (Bor (List ℕ)))). map (λ word. word.now) words.now in
    let known : texts c.if-is_git.known ≡ schemes c.args.is_git = elim c.if-is_git.branch [
      | then-is_git w ↦ ap texts w.known-is ∙ ap schemes (sym w.if-is_git.true)
      | else-is_git w ↦ ap texts w.known-is ∙ ap schemes (sym w.if-is_git.false)
    ] in
    subst (λ words. IsTrue c.is_one_of.result ↔ IsOneOf words c.args.scheme.now) known c.is_one_of.ensures
