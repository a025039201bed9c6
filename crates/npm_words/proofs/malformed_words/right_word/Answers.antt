use Rattle.npm_words.proofs.{Common.{arith, capped_in, false, signed_view, signed_word}, FlawPlaces.Ranges.{no-word, right-word, wrong-word}}
use Rattle.npm_words.proofs.Grammar.{AlternativeLaw.word-normal, PartialLaw.{front-as, front-none}}
use Rattle.npm_words.proofs.malformed_words.right_word.Goals as goal

pub returns-in_err-word-clause-none : goal.returns-in_err-word-clause-none
returns-in_err-word-clause-none c =
    rw c.from_residual.ensures (no-word c.args.include c.args.text.now c.requires (front-none capped_in (signed_word false c.args.text.now) c.in_err-word.ensures))

pub row-requires : goal.row-requires
row-requires c = word-normal false c.args.text.now (signed_view c.in_ok-word.word, c.in_ok-word.behind.now) c.in_ok-word.ensures

pub returns-in_err-row-clause-none : goal.returns-in_err-row-clause-none
returns-in_err-row-clause-none c =
    let v = front-as capped_in (signed_word false c.args.text.now) (signed_view c.in_ok-word.word, c.in_ok-word.behind.now) c.in_ok-word.ensures in
    rw c.from_residual-in_err-row.ensures (wrong-word c.args.include c.args.text.now v.0 c.requires v.1 (grind (arith, v.2)))

pub returns-clause-some : goal.returns-clause-some
returns-clause-some c = grind (arith, front-as, right-word)
