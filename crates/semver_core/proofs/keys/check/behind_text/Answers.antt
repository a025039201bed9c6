use Rattle.std.proofs.Common.{arith}
use Rattle.std.proofs.lemmas.Grind.{common_steps}
use Rattle.semver_core.proofs.Encoding.Checking.{end_found, end_only, more_found, more_left, none_found, piece_utf8}
use Rattle.semver_core.proofs.keys.check.behind_text.Goals as goal

pub returns-in_default-clause-complete : goal.returns-in_default-clause-complete
returns-in_default-clause-complete c = λ rest low front.
    absurd (none_found _ rest c.in_default.ensures.none (c.text.invariant.complete rest low front))

pub returns-then-is_err-clause-complete : goal.returns-then-is_err-clause-complete
returns-then-is_err-clause-complete c = λ rest low front.
    let utf8 = piece_utf8 _ _ _ rest c.in-Some.ensures.some c.in-Some.ensures.first (c.text.invariant.complete rest low front) in
    grind arith

pub returns-in_default-behind_255-clause-sound : goal.returns-in_default-behind_255-clause-sound
returns-in_default-behind_255-clause-sound c =
    c.text.invariant.sound _ (end_found _ _ _ c.in-Some.ensures.some c.in-Some.ensures.first (grind arith))

pub returns-in_default-behind_255-clause-complete : goal.returns-in_default-behind_255-clause-complete
returns-in_default-behind_255-clause-complete c = λ rest low front.
    end_only _ _ _ rest c.in-Some.ensures.some c.in-Some.ensures.first c.in_default-behind_255.ensures
    (c.text.invariant.complete rest low front)

pub text-preserved : goal.text-preserved
text-preserved c = record {
  sound = λ rest front. c.text.invariant.sound rest
      (more_found _ _ _ _ rest c.in-Some.ensures.some c.in-Some.ensures.first (grind arith) c.in-Some-behind_255.ensures front);
  complete = λ rest low front.
      more_left _ _ _ _ rest c.in-Some.ensures.some c.in-Some.ensures.first c.in-Some-behind_255.ensures low
      (c.text.invariant.complete rest low front);
  shorter = grind (arith, common_steps);
}
