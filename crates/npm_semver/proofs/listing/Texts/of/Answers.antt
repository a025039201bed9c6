use Rattle.std.proofs.Common.{[]}
use Rattle.std.proofs.lemmas.List.{map-append, take_all, take_more}
use Rattle.npm_semver.proofs.Texts.{no_texts}
use Rattle.npm_semver.proofs.listing.Texts.of.Goals as goal

pub loop-range-init : goal.loop-range-init
loop-range-init c = rw (c.new.ensures.items, c.new-2.ensures.items, c.new-3.ensures.items, c.new-4.ensures.items) (no_texts _)

pub loop-range-preserved : goal.loop-range-preserved
loop-range-preserved c =
    rw (take_more c.args.range_texts.now c.loop-range.range-index (record { ref_ptr = (0, 0); now = [] }) c.loop-range-test.true, map-append)
    (c.in_ok-push_range.ensures _ c.loop-range.invariant)

pub loop-text-init : goal.loop-text-init
loop-text-init c = rw (take_all c.loop-range.range-index c.args.range_texts.now c.loop-range-test.false) at c.loop-range.invariant

pub loop-text-preserved : goal.loop-text-preserved
loop-text-preserved c =
    rw (take_more c.args.version_texts.now c.loop-text.text-index (record { ref_ptr = (0, 0); now = [] }) c.loop-text-test.true, map-append)
    (c.in_ok-push_version.ensures _ _ c.loop-text.invariant)
