use Rattle.nodejs_semver.proofs.Common.{Some, interval, precedence, rules, ◌≡◌}
use Rattle.npm_words.{proofs.{Common.{AreRead, bounds_view}, Grammar.Rows.{met_common, narrowed}}, specs.Internal.Alternatives.met}
use Rattle.npm_reading.proofs.alternatives.Alternative.meet_read.Goals as goal

pub returns-clause-narrowed : goal.returns-clause-narrowed
returns-clause-narrowed c include cs h =
    let read : AreRead include cs (Some c.in_ok-bounds.bounds) = rw c.in_ok-bounds.was at h in
    let s = bounds_view c.in_ok-bounds.bounds in
    let e : c.common.result ≡ met c.args.self.interval (interval precedence s) = search rules in
    (read.0, λ ds k. rw e (met_common include ds cs c.args.self.interval _ k (narrowed include cs s read.1)))
