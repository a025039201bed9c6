use Rattle.npm_words.proofs.Common.{all_from_yields_List, is_mark, list_all, refl, rules, sym, tests, true, ◌∙◌, ◌≡◌}
use Rattle.std.proofs.lemmas.Iterator.{YieldsList-from_slice}
use Rattle.npm_words.proofs.hyphens.End.comparator.Goals as goal

pub returns-then-all : goal.returns-then-all
returns-then-all c =
    let all : list_all is_mark c.args.self.now.marks.now ≡ true =
    sym (all_from_yields_List is_mark _ _ _ c.all.ensures.ran (YieldsList-from_slice _ c.iter.ensures.rest) (λ x b q k. search (rules, tests)))
    ∙ c.if-all.true in rw all refl
