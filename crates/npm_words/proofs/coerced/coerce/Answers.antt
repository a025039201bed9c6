use Rattle.npm_words.proofs.coerced.coerce.Goals as goal

pub returns-clause-none : goal.returns-clause-none
returns-clause-none c = rw c.default.ensures at c.coerce_with.ensures.none
