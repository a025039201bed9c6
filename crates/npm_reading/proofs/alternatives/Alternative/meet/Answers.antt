use Rattle.{nodejs_semver.proofs.Common.{arith, ◌≡◌}, npm_words.{proofs.{Common.{npm_partial_view, npm_sign_view}, Grammar.Rows.table-bare}, specs.Table.table}}
use Rattle.npm_words.specs.Internal.Parts.{has_no_comparators}
use Rattle.npm_reading.proofs.alternatives.Alternative.meet.Goals as goal

pub returns-clause-narrowed : goal.returns-clause-narrowed
returns-clause-narrowed c =
    let cs = table c.args.include (npm_sign_view c.args.sign) (npm_partial_view c.args.partial.now) c.args.text.now in
    c.meet_read.ensures.narrowed c.args.include cs c.row.ensures

pub returns-clause-bare : goal.returns-clause-bare
returns-clause-bare c =
    let is : c.match-sign.has_no_comparators ≡ has_no_comparators (npm_sign_view c.args.sign) (npm_partial_view c.args.partial.now) = grind arith in
    rw (table-bare c.args.include (npm_sign_view c.args.sign) (npm_partial_view c.args.partial.now) c.args.text.now, ← is) c.meet_read.ensures.bare
