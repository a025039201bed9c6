use Rattle.npm_words.proofs.{Common.rules, FlawPlaces.Stops.{flaw_none, flaw_only}}
use Rattle.npm_words.proofs.flaws.version_flaw.Goals as goal

pub returns-in-Some-clause-none : goal.returns-in-Some-clause-none
returns-in-Some-clause-none c = flaw_none _ _ _ _ (search rules, c.in-Some.ensures)

pub returns-in-Some-clause-only : goal.returns-in-Some-clause-only
returns-in-Some-clause-only c = flaw_only _ _ _ _ (search rules, c.in-Some.ensures)
