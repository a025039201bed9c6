use Rattle.nodejs_semver.proofs.Common.{AreCommonParts, List, MAX_SAFE_INTEGER, Some, Span, VersionValue, [], ap, arith, drop, length, take, ◌-◌, ℕ, ◌≡◌, ◌≤◌, ◌∙◌, ◌∷◌}
use Rattle.nodejs_semver.proofs.Everyday.{Parts.{part-taken, parts-plain}, Whole.{common_is_meant}}
use Rattle.nodejs_semver.specs.Internal.CommonFronts.{part_front}
use Rattle.nodejs_semver.specs.Words.{ends_field}
use Rattle.nodejs_semver.proofs.range.parse.word_field.Goals as goal

-- the bytes of the word, and what follows them
taken : (text bytes : List ℕ) (s : Span VersionValue) (rest : List ℕ) → bytes ≡ text → part_front MAX_SAFE_INTEGER bytes ≡ Some (s, rest)
    → (length rest ≤ length text) × AreCommonParts MAX_SAFE_INTEGER (take (length text - length rest) text) (s ∷ [])
    × (drop (length text - length rest) text ≡ rest)
taken text bytes s rest e h = part-taken MAX_SAFE_INTEGER text s rest (rw e at h)

pub overflow_sub-result : goal.overflow_sub-result
overflow_sub-result c = (taken _ _ _ _ c.as_bytes.ensures.value c.in_ok-interval.ensures.part).0

pub returns-clause-place : goal.returns-clause-place
returns-clause-place c = omega (arith, (taken _ _ _ _ c.as_bytes.ensures.value c.in_ok-interval.ensures.part).0, c.in_ok-interval.ensures.more)

pub returns-clause-plain : goal.returns-clause-plain
returns-clause-plain c = parts-plain MAX_SAFE_INTEGER _ _ (taken _ _ _ _ c.as_bytes.ensures.value c.in_ok-interval.ensures.part).1

pub returns-clause-ends : goal.returns-clause-ends
returns-clause-ends c =
    ap ends_field (taken _ _ _ _ c.as_bytes.ensures.value c.in_ok-interval.ensures.part).2 ∙ c.in_ok-interval.ensures.ends

pub returns-clause-means : goal.returns-clause-means
returns-clause-means c = common_is_meant MAX_SAFE_INTEGER _ _ (taken _ _ _ _ c.as_bytes.ensures.value c.in_ok-interval.ensures.part).1
