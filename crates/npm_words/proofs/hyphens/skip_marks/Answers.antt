use Rattle.npm_words.proofs.{Common.{arith, common_steps, nat_tests, sym, take_rest, ◌∙◌}, Grammar.Hyphens.{ends_step, ends_stop}}
use Rattle.npm_words.proofs.hyphens.skip_marks.Goals as goal

pub returns-then-len-eq0-clause-value : goal.returns-then-len-eq0-clause-value
returns-then-len-eq0-clause-value c = sym (ends_stop c.marks.left.now (omega arith)) ∙ c.marks.invariant.same

pub marks-preserved : goal.marks-preserved
marks-preserved c = record {
  same = grind (arith, take_rest, ends_step);
  fits = grind (arith, take_rest);
  ends = grind (arith, nat_tests, common_steps, take_rest);
}
