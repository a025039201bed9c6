use Rattle.npm_words.proofs.{Common.{arith, common_steps, nat_tests, take_rest}, Grammar.InsideIds.ids-go}
use Rattle.npm_words.proofs.inside.behind_ids.Goals as goal

pub ids-preserved : goal.ids-preserved
ids-preserved c = let go = ids-go c.args.strict c.ids.left.now in grind (arith, nat_tests, common_steps, take_rest)
