use Rattle.std.proofs.Common.{◌∷◌, ◌++◌, ◌∙◌, [], ap, append_assoc, arith, length-append, sym}
use Rattle.nodejs_semver_c.proofs.diagnosis.tell_words.Goals as goal

pub words-preserved : goal.words-preserved
words-preserved c =
    let (front, (split, (told, counted))) = c.words.invariant in (
      front ++ c.in-Some.word ∷ [],
      (
        split ∙ (ap (λ l. front ++ l) c.in-Some.ensures.steps ∙ sym (append_assoc front (c.in-Some.word ∷ []) c.next.new.self)),
        (c.tell_word.ensures front _ counted told, grind (arith, counted, c.saturating_add-count.ensures, length-append)),
      ),
    )
