use Rattle.npm_words.{proofs.{Common.{[], arith, take_rest, ◌≡◌}, VersionTexts.Lists.{marked-found, stretch_none}}, specs.Internal.Tuples.marked_len}
use Rattle.semver_core.proofs.Text.Ends.{nothing_listed}
use Rattle.npm_words.proofs.coerced.marked_list.Goals as goal

pub marked_end-len-requires-clause-known : goal.marked_end-len-requires-clause-known
marked_end-len-requires-clause-known c = stretch_none c.args.strict c.args.text.now

pub returns-in-empty-clause-listed : goal.returns-in-empty-clause-listed
returns-in-empty-clause-listed c = let none : c.split_at.result.0.now ≡ [] = grind (arith, c.in-empty.len_below) in rw none nothing_listed

pub returns-in-len1-up-clause-listed : goal.returns-in-len1-up-clause-listed
returns-in-len1-up-clause-listed c =
    rw (take_rest c.split_at.result.0.now 1, c.split_at.ensures.front)
    (let len : c.marked_end-len.result ≡ marked_len c.args.included c.args.strict c.args.mark c.args.text.now = omega (arith, c.marked_end-len.ensures.end) in
    rw len (marked-found c.args.included c.args.strict c.args.mark c.args.text.now).1)
