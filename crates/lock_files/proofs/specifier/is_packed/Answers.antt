use Rattle.std.proofs.Common.{◌≡◌, ◌==◌, ◌∙◌, codes, false, refl, sym}
use Rattle.std.proofs.lemmas.Str.Pattern.{ends_text}
use Rattle.std.specs.List.{ends_with}
use Rattle.lock_files.proofs.specifier.is_packed.Goals.{then-ends_with, else-ends_with}
use Rattle.lock_files.proofs.specifier.is_packed.Goals as goal

pub returns-else-ends_with-2 : goal.returns-else-ends_with-2
returns-else-ends_with-2 c =
    let text = c.args.text.now in
    let one = ends_text c.ends_with.result (codes ".tgz") text c.ends_with.ensures.cases in
    let three = ends_text c.ends_with-else-ends_with-2.result (codes ".tar") text
    c.ends_with-else-ends_with-2.ensures.cases in
    elim c.if-ends_with.branch [
      | then-ends_with w ↦ let is = w.value-is in let none = c.if-ends_with-2.false in absurd (cc)
      | else-ends_with w ↦
          let two = ends_text w.ends_with-else-ends_with.result (codes ".tar.gz") text
          w.ends_with-else-ends_with.ensures.cases in
          let tgz : ends_with (λ a b. a == b) text (codes ".tgz") ≡ false = sym one ∙ w.if-ends_with.false in
          let gz : ends_with (λ a b. a == b) text (codes ".tar.gz") ≡ false =
          sym two ∙ sym w.value-is ∙ c.if-ends_with-2.false in
          rw tgz (rw gz (rw three refl))
    ]
