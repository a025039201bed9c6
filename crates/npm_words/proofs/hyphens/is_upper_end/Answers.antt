use Rattle.npm_words.proofs.{Common.arith, FlawPlaces.Ends.{bounds-valid, last-normal, upper-is}}
use Rattle.npm_words.proofs.hyphens.is_upper_end.Goals as goal

pub upper_bounds-requires : goal.upper_bounds-requires
upper_bounds-requires c = last-normal _ _ c.in-Some.ensures

pub returns-then-is_right : goal.returns-then-is_right
returns-then-is_right c = let is = upper-is c.args.include _ _ c.in-Some.ensures in grind (arith, bounds-valid)
