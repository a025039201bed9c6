use Rattle.npm_words.proofs.{Common.{None, arith, common_steps, dotted_patch, nat_tests, patch_place, sym, take_rest}, Grammar.PartialLaw.patch_cut}
use Rattle.npm_words.proofs.places.dotted_patch.Goals as goal

pub returns-in_err-place-in-46 : goal.returns-in_err-place-in-46
unfolding dotted_patch
returns-in_err-place-in-46 c =
    rw (c.from_residual-in_err-place-in-46.ensures, sym c.in_ok-text.ensures) (patch_cut c.args.loose c.in_ok-text.text.now c.digits_len-digits.result c.saturating_sub-own.result None
    c.digits_len-digits.ensures.value (grind (arith, take_rest)) (omega (arith, c.saturating_sub-own.ensures)) c.in_err-place-in-46.ensures)

pub returns-in_ok-place-in-46 : goal.returns-in_ok-place-in-46
unfolding dotted_patch
returns-in_ok-place-in-46 c =
    rw (sym c.in_ok-text.ensures) (patch_cut c.args.loose c.in_ok-text.text.now c.digits_len-digits.result c.saturating_sub-own.result _
    c.digits_len-digits.ensures.value (grind (arith, take_rest)) (omega (arith, c.saturating_sub-own.ensures)) c.in_ok-place-in-46.ensures)

pub returns-in_default : goal.returns-in_default
unfolding dotted_patch patch_place
returns-in_default c = grind (arith, nat_tests, common_steps, take_rest)
