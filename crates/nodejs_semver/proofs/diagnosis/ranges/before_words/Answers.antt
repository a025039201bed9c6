use Rattle.nodejs_semver.proofs.Common.{IsUtf8, List, MAX_SAFE_INTEGER, after_blank-place, ap, arith, length, middle_is_trim, rest_view, rules}
use Rattle.nodejs_semver.proofs.{Common.{space_len, ℕ, ◌-◌, ◌∙◌}, Diagnosing.IgnoredParts.{all_step, part_ends, part_fits, sizes_of}}
use Rattle.{semver_core.{proofs.Reading.Bytes.trim-starts, specs.Internal.Views.part_view}, std.proofs.lemmas.Str.IsCharBoundary-start}
use Rattle.nodejs_semver.proofs.diagnosis.ranges.before_words.Goals as goal

pub skip_whitespace-start-requires : goal.skip_whitespace-start-requires
skip_whitespace-start-requires c =
    let text : IsUtf8 c.cut_part.result.0.now = search rules in
    IsCharBoundary-start c.cut_part.result.0.now text

pub overflow_add-result-2 : goal.overflow_add-result-2
overflow_add-result-2 c =
    let place = c.args.end - length c.args.text.now in
    let piece = c.cut_part.result.0.now in
    let start = after_blank-place piece 0 c.skip_whitespace-start.result (search rules) c.skip_whitespace-start.ensures in
    let ended = part_ends place _ piece _ start (middle_is_trim _ _ c.trim-part.ensures.middle) in
    let sizes = sizes_of c.args.text.now (part_view c.cut_part.result) c.cut_part.ensures in
    omega (arith, ended, part_fits piece place, sizes.front, c.ranges.end.fits)

pub invariant_of-result : goal.invariant_of-result
invariant_of-result c = record {
  starts = ap (λ (t : List ℕ). space_len t) c.as_bytes.ensures.value ∙ trim-starts c.cut_part.result.0.now c.trim-part.result.now c.trim-part.ensures.middle;
  part_fits = omega (arith, ap length c.as_bytes.ensures.value);
  behind_fits = λ x e. omega (arith, (sizes_of c.args.text.now (part_view c.cut_part.result) c.cut_part.ensures).behind x.now (ap rest_view e));
}

pub returns-clause-same : goal.returns-clause-same
returns-clause-same c =
    let place = c.args.end - length c.args.text.now in
    let piece = c.cut_part.result.0.now in
    let start = after_blank-place piece 0 c.skip_whitespace-start.result (search rules) c.skip_whitespace-start.ensures in
    let ended = part_ends place _ piece _ start (middle_is_trim _ _ c.trim-part.ensures.middle) in
    let step = all_step MAX_SAFE_INTEGER c.args.end c.args.text.now (part_view c.cut_part.result) c.cut_part.ensures c.requires in
    cc (ended, c.as_bytes.ensures.value, (middle_is_trim _ _ c.trim-part.ensures.middle), step)

pub returns-clause-less : goal.returns-clause-less
returns-clause-less c =
    let middle = ap length (c.as_bytes.ensures.value ∙ (middle_is_trim _ _ c.trim-part.ensures.middle)) in
    let sizes = sizes_of c.args.text.now (part_view c.cut_part.result) c.cut_part.ensures in
    omega (arith, middle, part_fits c.cut_part.result.0.now 0, sizes.both)
