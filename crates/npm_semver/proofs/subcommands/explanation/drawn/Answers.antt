use Rattle.npm_semver.proofs.Drawn.{drawn, drawn_ascii}
use Rattle.npm_semver.proofs.subcommands.explanation.drawn.Goals as goal

pub returns-clause-ok : goal.returns-clause-ok
returns-clause-ok c = drawn _ _ _ _ _ c.in_ok-range.ensures.ok c.in_ok-drawing.ensures c.answer.ensures

pub returns-clause-ascii : goal.returns-clause-ascii
returns-clause-ascii c = drawn_ascii _ _ _ _ _ c.in_ok-range.ensures.ok c.in_ok-drawing.ensures c.answer.ensures
