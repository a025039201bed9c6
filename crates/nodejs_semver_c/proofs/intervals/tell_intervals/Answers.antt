use Rattle.std.proofs.Common.{◌+◌, ap, arith, refl, take_all}
use Rattle.nodejs_semver_c.proofs.Putting.{adds_nothing, adds_same, adds_then, put_first}
use Rattle.nodejs_semver_c.proofs.Ranging.{parts_more, texts_front, texts_more}
use Rattle.nodejs_semver_c.specs.KeptRanges.{range_texts}
use Rattle.nodejs_semver_c.proofs.intervals.tell_intervals.Goals as goal

pub intervals-init : goal.intervals-init
intervals-init c = (refl, adds_nothing _ _, omega arith)

pub tell_interval-requires : goal.tell_interval-requires
tell_interval-requires c = c.intervals.invariant.2

pub intervals-preserved : goal.intervals-preserved
intervals-preserved c =
    let more = adds_same (texts_more c.args.intervals.now c.intervals.at c.index-intervals-at.result c.intervals-test.true c.index-intervals-at.is)
    (adds_then c.intervals.invariant.1 c.tell_interval.ensures.texts) in
    let counted = (put_first _ _ _ _ more).counted in
    let fits = texts_front c.args.intervals.now (c.intervals.at + 1) in
    let told = c.tell_interval.ensures.parts (omega (arith, counted, fits, c.requires.small)) in (
      parts_more c.args.intervals.now c.intervals.at c.index-intervals-at.result _ c.args.told.now _ c.intervals-test.true
          c.index-intervals-at.is told c.requires.room c.intervals.invariant.0,
      more,
      c.tell_interval.ensures.len.1,
    )

pub returns-clause-texts : goal.returns-clause-texts
returns-clause-texts c =
    (_, adds_same (ap range_texts (take_all _ c.args.intervals.now c.intervals-test.false)) c.intervals.invariant.1)
