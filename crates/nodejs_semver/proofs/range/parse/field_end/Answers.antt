use Rattle.nodejs_semver.proofs.Common.{◌≡◌, false, list_any, take}
use Rattle.nodejs_semver.proofs.Everyday.Whole.{before-first, no_bars, no_end}
use Rattle.memchr.specs.Find.{is_byte2, is_byte3}
use Rattle.nodejs_semver.proofs.range.parse.field_end.Goals as goal
use Rattle.nodejs_semver.proofs.range.parse.field_end.Goals.{Then-not-matches}

-- neither a bar nor what ends a field stands before the place
none : (c : Then-not-matches) → list_any (is_byte3 124 59 10) (take c.unwrap_or-at.result c.args.text.now) ≡ false
none c = rw c.unwrap_or-at.ensures (before-first (is_byte3 124 59 10) c.args.text.now c.memchr3.result c.memchr3.ensures)

pub returns-then-not-matches-clause-plain : goal.returns-then-not-matches-clause-plain
returns-then-not-matches-clause-plain c = no_end (take c.unwrap_or-at.result c.args.text.now) (none c)

pub returns-then-not-matches-clause-bars : goal.returns-then-not-matches-clause-bars
returns-then-not-matches-clause-bars c = λ _. no_bars (take c.unwrap_or-at.result c.args.text.now) (none c)

pub returns-clause-plain : goal.returns-clause-plain
returns-clause-plain c = rw c.unwrap_or.ensures (before-first (is_byte2 59 10) c.args.text.now c.memchr2.result c.memchr2.ensures)
