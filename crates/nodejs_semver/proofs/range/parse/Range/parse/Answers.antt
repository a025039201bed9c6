use Rattle.nodejs_semver.proofs.Common.{MAX_SAFE_INTEGER}
use Rattle.nodejs_semver.proofs.{Dividing.MeaningLaw.{accepted_written, meant}, Everyday.Whole.{denoted_range}, Values.{spans_same}}
use Rattle.nodejs_semver.proofs.range.parse.Range.parse.Goals as goal

pub invariant_of-result : goal.invariant_of-result
invariant_of-result c = rw spans_same
    (denoted_range MAX_SAFE_INTEGER c.args.text.now c.read.new.found.items c.in_ok-read.ensures.read c.in_ok-read.ensures.some)

pub returns-clause-ok : goal.returns-clause-ok
returns-clause-ok c = rw spans_same
    (meant MAX_SAFE_INTEGER c.args.text.now c.read.new.found.items c.utf8.text c.in_ok-read.ensures.read)

pub returns-clause-set : goal.returns-clause-set
returns-clause-set c = rw spans_same
    (accepted_written MAX_SAFE_INTEGER c.args.text.now c.read.new.found.items c.utf8.text c.in_ok-read.ensures.read)
