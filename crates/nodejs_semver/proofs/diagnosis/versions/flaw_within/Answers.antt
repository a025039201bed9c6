use Rattle.nodejs_semver.proofs.Common.{IsAfterBlank, List, MAX_SAFE_INTEGER, ap, arith, eqb-true, length, length-drop, lit≤, nat_tests, rules, sym}
use Rattle.nodejs_semver.{proofs.{Common.{ℕ, ◌-◌, ◌∙◌}, Diagnosing.Flaws.{ended, ignored_left, stuck_flaw, whole_left}}, specs.Words.mark_len}
use Rattle.semver_core.{proofs.Text.Texts.mark_boundary, specs.Internal.Fronts.pre_release_with}
use Rattle.nodejs_semver.proofs.diagnosis.versions.flaw_within.Goals as goal

pub skip_whitespace-requires : goal.skip_whitespace-requires
skip_whitespace-requires c = grind (arith, mark_boundary)

pub returns-in-Err : goal.returns-in-Err
returns-in-Err c =
    let front : IsAfterBlank c.args.text.now (mark_len c.args.text.now) c.skip_whitespace.result = search rules in
    stuck_flaw MAX_SAFE_INTEGER c.args.text.now c.skip_whitespace.result c.in-Err.flaw (lit≤ tt) c.utf8.text front c.requires
    (rw c.as_bytes-bytes.ensures.value at c.in-Err.ensures.stuck)

pub returns-then-is_empty : goal.returns-then-is_empty
unfolding pre_release_with
returns-then-is_empty c =
    let front : IsAfterBlank c.args.text.now (mark_len c.args.text.now) c.skip_whitespace.result = search rules in
    let left = ended MAX_SAFE_INTEGER c.args.text.now _ _ _ c.skip_whitespace.result c.in-Ok.end c.as_bytes-bytes.ensures.value
    c.in-Ok.ensures.found c.pre_release_front.ensures.value c.build_front.ensures.value in
    whole_left MAX_SAFE_INTEGER c.args.text.now c.skip_whitespace.result c.build_front.result.1.now c.utf8.text front c.requires left
    (eqb-true (length c.build_front.result.1.now) 0 (sym c.is_empty.ensures ∙ c.if-is_empty.true))

pub overflow_sub-at : goal.overflow_sub-at
unfolding pre_release_with
overflow_sub-at c =
    let left = ended MAX_SAFE_INTEGER c.args.text.now _ _ _ c.skip_whitespace.result c.in-Ok.end c.as_bytes-bytes.ensures.value
    c.in-Ok.ensures.found c.pre_release_front.ensures.value c.build_front.ensures.value in
    omega (arith, ap length left.2, length-drop left.0 c.args.text.now, c.as_bytes-bytes.ensures.len)

pub returns-else-is_empty : goal.returns-else-is_empty
unfolding pre_release_with
returns-else-is_empty c =
    let front : IsAfterBlank c.args.text.now (mark_len c.args.text.now) c.skip_whitespace.result = search rules in
    let left = ended MAX_SAFE_INTEGER c.args.text.now _ _ _ c.skip_whitespace.result c.in-Ok.end c.as_bytes-bytes.ensures.value
    c.in-Ok.ensures.found c.pre_release_front.ensures.value c.build_front.ensures.value in
    ignored_left MAX_SAFE_INTEGER c.args.text.now c.skip_whitespace.result _ c.build_front.result.1.now c.utf8.text front c.requires left
    (grind (arith, nat_tests))
    (ap (λ (t : List ℕ). length t - length c.build_front.result.1.now) c.as_bytes-bytes.ensures.value)
