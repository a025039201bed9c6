use Rattle.npm_words.{proofs.Common.{[], ap, arith, length}, specs.MalformedEnds.{a_word, an_end}}
use Rattle.semver_core.proofs.Reading.Boundaries.{boundary-le, first-is}
use Rattle.npm_words.proofs.malformed_words.malformed_part.Goals as goal

pub overflow_sub-result-in-None : goal.overflow_sub-result-in-None
overflow_sub-result-in-None c =
    omega (arith, c.skip_right_words-rest.ensures.fits, boundary-le c.skip_right_words-rest.result.now, ap length c.skip_to_boundary-behind.ensures)

pub returns-in-Some-clause-part : goal.returns-in-Some-clause-part
returns-in-Some-clause-part c = an_end c.in-Some.ensures.some

pub returns-in-None-clause-part : goal.returns-in-None-clause-part
returns-in-None-clause-part c =
    let r = c.skip_right_words-rest.ensures in
    let e = c.skip_to_boundary-behind.ensures in
    a_word c.in-None.ensures.none (record {
      left = c.skip_right_words-rest.result.now;
      behind = _;
      right = r.left;
      wrong = r.wrong;
      ended = first-is [] _ r.utf8;
      start_is = omega (arith, r.fits);
      end_is = omega (arith, r.fits, boundary-le c.skip_right_words-rest.result.now, ap length e);
    })
