use Rattle.npm_words.proofs.{Common.here, FlawPlaces.Ranges.{left-fits, left-next}}
use Rattle.npm_words.proofs.malformed_words.skip_right_words.Goals as goal

pub words-init : goal.words-init
words-init c = (here, c.requires)

pub words-smaller : goal.words-smaller
words-smaller c = rw c.skip_spaces-rest.ensures ((left-next _ _ _ _ c.words.invariant.1 c.words.invariant.0 c.in-Some.ensures.some).1)

pub words-preserved : goal.words-preserved
words-preserved c = rw c.skip_spaces-rest.ensures ((left-next _ _ _ _ c.words.invariant.1 c.words.invariant.0 c.in-Some.ensures.some).0)

pub returns-clause-fits : goal.returns-clause-fits
returns-clause-fits c = left-fits c.args.include c.words.rest.now c.args.text.now c.words.invariant.0
