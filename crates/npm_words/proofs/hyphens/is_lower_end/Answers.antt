use Rattle.npm_words.proofs.{Common.arith, FlawPlaces.Ends.{bounds-valid, last-normal, lower-is}}
use Rattle.npm_words.proofs.hyphens.is_lower_end.Goals as goal

pub lower_bounds-requires : goal.lower_bounds-requires
lower_bounds-requires c = last-normal _ _ c.in-Some.ensures

pub returns-then-is_right : goal.returns-then-is_right
returns-then-is_right c = let is = lower-is c.args.include _ _ c.in-Some.ensures in grind (arith, bounds-valid)
