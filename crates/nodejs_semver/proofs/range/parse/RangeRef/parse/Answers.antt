use Rattle.nodejs_semver.proofs.Common.{AreCommonParts, Bool, IfSome, List, MAX_SAFE_INTEGER, Option, Some, Span, VersionValue, arith, false, length, not, take}
use Rattle.nodejs_semver.proofs.Common.{take_all, ◌==◌, ◌≡◌, ℕ}
use Rattle.nodejs_semver.proofs.{Dividing.MeaningLaw.{written_of}, Everyday.Whole.{common_is_meant, common_is_range}, Values.{spans_same}}
use Rattle.std.specs.Option.{option_eq}
use Rattle.nodejs_semver.proofs.range.parse.RangeRef.parse.Goals as goal
use Rattle.nodejs_semver.proofs.range.parse.RangeRef.parse.Goals.{else-ne, then-ne+in_ok-read_loose}

-- the parts that were read are the whole text
read : (text bytes : List ℕ) (end : Option ℕ) (more : Bool) (list : List (Span VersionValue)) → bytes ≡ text
    → IfSome end (λ e. AreCommonParts MAX_SAFE_INTEGER (take e bytes) list)
    → more ≡ not (option_eq (◌==◌) end (Some (length text))) → more ≡ false → AreCommonParts MAX_SAFE_INTEGER text list
read text bytes end more list e h is none = grind (arith, take_all)

pub invariant_of-result : goal.invariant_of-result
invariant_of-result c = elim c.if-ne.branch [
  | then-ne+in_ok-read_loose w ↦ rw (spans_same, w.intervals-is) w.in_ok-read_loose.ensures.range
  | else-ne w ↦ rw (spans_same, w.intervals-is) (common_is_range MAX_SAFE_INTEGER c.args.text.now _ (read c.args.text.now _ _ _ _
      c.as_bytes.ensures.value c.read_parts-end.ensures.some c.ne.ensures w.if-ne.false))
]

pub returns-clause-ok : goal.returns-clause-ok
returns-clause-ok c = elim c.if-ne.branch [
  | then-ne+in_ok-read_loose w ↦ rw (spans_same, w.intervals-is) w.in_ok-read_loose.ensures.ok
  | else-ne w ↦ rw (spans_same, w.intervals-is) (common_is_meant MAX_SAFE_INTEGER c.args.text.now _ (read c.args.text.now _ _ _ _
      c.as_bytes.ensures.value c.read_parts-end.ensures.some c.ne.ensures w.if-ne.false))
]

pub returns-clause-set : goal.returns-clause-set
returns-clause-set c = written_of MAX_SAFE_INTEGER c.args.text.now _ c.utf8.text (returns-clause-ok c)
