use Rattle.std.proofs.Common.{Some, refl}
use Rattle.semver_answers.proofs.Replies.{put_found_says, put_says}
use Rattle.semver_answers.proofs.question.AboutRange.reply.Goals as goal

pub returns-in-Print : goal.returns-in-Print
returns-in-Print c =
    rw c.in-Print.is (put_says c.put_range_line.result _ _ _ _ c.put_range_line.ensures.ok c.put_range_line.ensures.err refl)

pub returns-in-Some : goal.returns-in-Some
returns-in-Some c =
    let m = c.in-Some.ensures in
    rw c.in-Least.is (put_says c.put_printed.result _ _ _ _ c.put_printed.ensures.ok c.put_printed.ensures.err
    (Some c.in-Some.version.now, (m.least, m.build), refl))

pub returns-in-None : goal.returns-in-None
returns-in-None c =
    let m = c.min_version.ensures in
    rw c.in-Least.is (put_found_says _ _ c.min_version.result c.put_found.result _ _ m.least m.build c.put_found.ensures.ok c.put_found.ensures.err)
