use Rattle.std.proofs.Common.{refl}
use Rattle.semver_answers.proofs.Replies.{put_found_says, put_says}
use Rattle.semver_answers.proofs.question.AboutRanges.reply.Goals as goal

pub returns-in-And : goal.returns-in-And
returns-in-And c =
    rw c.in-And.is (put_says c.put_combined.result _ _ _ _ c.put_combined.ensures.ok c.put_combined.ensures.err refl)

pub returns-in-Minus : goal.returns-in-Minus
returns-in-Minus c =
    rw c.in-Minus.is (put_says c.put_combined-in-Minus.result _ _ _ _ c.put_combined-in-Minus.ensures.ok c.put_combined-in-Minus.ensures.err refl)

pub returns-in-Beyond : goal.returns-in-Beyond
returns-in-Beyond c =
    let m = c.least_beyond.ensures in
    rw c.in-Beyond.is (put_found_says _ _ c.least_beyond.result c.put_found.result _ _ m.least m.build c.put_found.ensures.ok c.put_found.ensures.err)
