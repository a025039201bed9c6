use Rattle.{npm_words.proofs.Common.{ap, arith, length}, semver_core.proofs.Reading.Boundaries.boundary-le}
use Rattle.npm_words.proofs.hyphens.end_texts.Goals as goal

pub slice_bounds-result-count : goal.slice_bounds-result-count
slice_bounds-result-count c =
    omega (arith, c.skip_marks.ensures.fits, ap length c.skip_to_boundary-before.ensures, boundary-le c.skip_marks.result.now)
