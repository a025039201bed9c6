use Rattle.nodejs_semver_c.proofs.Nexts.{major_next, minor_next, patch_next, word_is}
use Rattle.nodejs_semver_c.proofs.kept_next.next_release.Goals as goal

pub returns-in_ok-checked_add : goal.returns-in_ok-checked_add
returns-in_ok-checked_add c =
    rw (word_is c.args.word.now c.as_slice.result.now c.eq.result c.eq.ensures c.if-eq.true, c.as_slice.ensures)
    (major_next c.args.version.now c.with_numbers.result _ (rw c.is_empty.ensures at c.if-not-is_empty.false)
    c.with_numbers.ensures.pre_release c.with_numbers.ensures.build c.in_ok-checked_add.ensures c.with_numbers.ensures.numbers)

pub returns-in_ok-checked_add-2 : goal.returns-in_ok-checked_add-2
returns-in_ok-checked_add-2 c =
    rw (word_is c.args.word.now c.as_slice-else-eq.result.now c.eq-else-eq.result c.eq-else-eq.ensures c.if-eq-2.true, c.as_slice-else-eq.ensures)
    (minor_next c.args.version.now c.with_numbers-then-eq-2.result _ (rw c.is_empty.ensures at c.if-not-is_empty.false)
    c.with_numbers-then-eq-2.ensures.pre_release c.with_numbers-then-eq-2.ensures.build c.in_ok-checked_add-2.ensures
    c.with_numbers-then-eq-2.ensures.numbers)

pub returns-in_ok-checked_add-3 : goal.returns-in_ok-checked_add-3
returns-in_ok-checked_add-3 c =
    rw (word_is c.args.word.now c.as_slice-else-eq-2.result.now c.eq-else-eq-2.result c.eq-else-eq-2.ensures c.if-eq-3.true, c.as_slice-else-eq-2.ensures)
    (patch_next c.args.version.now c.with_numbers-then-eq-3.result _ (rw c.is_empty.ensures at c.if-not-is_empty.false)
    c.with_numbers-then-eq-3.ensures.pre_release c.with_numbers-then-eq-3.ensures.build c.in_ok-checked_add-3.ensures
    c.with_numbers-then-eq-3.ensures.numbers)
