use Rattle.nodejs_semver.proofs.Common.{AreCommonParts, List, MAX_SAFE_INTEGER, subst, take, ℕ}
use Rattle.nodejs_semver.proofs.{Everyday.{Parts.{parts-plain}, Whole.{common_is_meant, common_is_range}}, Values.{spans_same}}
use Rattle.nodejs_semver.proofs.range.parse.RangeReader.read_field.Goals as goal

-- the parts that were read
read : (c : goal.Then-matches) → AreCommonParts MAX_SAFE_INTEGER (take c.in-Some.end c.args.text.now) c.read_parts.new.found.items
read c = subst (λ (t : List ℕ). AreCommonParts MAX_SAFE_INTEGER (take c.in-Some.end t) c.read_parts.new.found.items)
    c.as_bytes-bytes.ensures.value c.in-Some.ensures.some

pub invariant_of-self : goal.invariant_of-self
invariant_of-self c = rw spans_same
    (common_is_range MAX_SAFE_INTEGER (take c.in-Some.end c.args.text.now) c.read_parts.new.found.items (read c))

pub returns-then-matches-clause-plain : goal.returns-then-matches-clause-plain
returns-then-matches-clause-plain c =
    parts-plain MAX_SAFE_INTEGER (take c.in-Some.end c.args.text.now) c.read_parts.new.found.items (read c)

pub returns-then-matches-clause-ok : goal.returns-then-matches-clause-ok
returns-then-matches-clause-ok c = rw spans_same
    (common_is_meant MAX_SAFE_INTEGER (take c.in-Some.end c.args.text.now) c.read_parts.new.found.items (read c))

pub invariant_of-self-2 : goal.invariant_of-self-2
invariant_of-self-2 c = rw spans_same c.read_whole_field-read.ensures.range

pub returns-in-Ok-clause-ok : goal.returns-in-Ok-clause-ok
returns-in-Ok-clause-ok c = rw spans_same (rw c.in-Ok.is at c.read_whole_field-read.ensures.ok)
