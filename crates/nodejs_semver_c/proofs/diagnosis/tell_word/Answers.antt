use Rattle.std.proofs.Common.{rules}
use Rattle.nodejs_semver_c.specs.Words.{told_word}
use Rattle.nodejs_semver_c.proofs.Fitting.{fitted_more}
use Rattle.nodejs_semver_c.proofs.diagnosis.tell_word.Goals as goal

pub returns-then-at-words : goal.returns-then-at-words
returns-then-at-words c = λ front old counted told.
    rw c.told_word.ensures
    (fitted_more told_word front c.args.word old _ _ c.told_word.result counted c.if-at-words.true (search rules) told)
