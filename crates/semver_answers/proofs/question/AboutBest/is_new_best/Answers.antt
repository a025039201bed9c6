use Rattle.semver_answers.proofs.question.AboutBest.is_new_best.Goals as goal

pub returns-in-Max : goal.returns-in-Max
returns-in-Max c = rw c.in-Max.is c.is_new_max.ensures.best

pub returns-in-Min : goal.returns-in-Min
returns-in-Min c = rw c.in-Min.is c.is_new_min.ensures.best
