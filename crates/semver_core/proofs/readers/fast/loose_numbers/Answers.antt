use Rattle.semver_core.proofs.Common.{triple_at, MAX_SAFE_INTEGER, None, ap, arith, sym, ℕ, ◌∙◌, ◌≡◌, small_len}
use Rattle.semver_core.proofs.Text.Fronts.{loose_not, loose_read}
use Rattle.semver_core.proofs.readers.fast.loose_numbers.Goals as goal

pub returns-then-at-small_len-clause-none : goal.returns-then-at-small_len-clause-none
returns-then-at-small_len-clause-none c =
    let text = c.args.text.now in
    let same : small_len text ≡ c.front_of_numbers-at.result = grind arith in
    loose_not _ text c.front_of_numbers-at.result None c.front_of_numbers-at.ensures
    (sym c.requires ∙ ap (λ (at : ℕ). triple_at MAX_SAFE_INTEGER text at) same)

pub returns-clause-some : goal.returns-clause-some
returns-clause-some c =
    loose_read _ c.args.text.now c.front_of_numbers-at.result c.three_numbers.result c.front_of_numbers-at.ensures
    (rw c.as_bytes.ensures.value at c.three_numbers.ensures.found)

pub returns-clause-none : goal.returns-clause-none
returns-clause-none c =
    loose_not _ c.args.text.now c.front_of_numbers-at.result c.three_numbers.result c.front_of_numbers-at.ensures
    (rw c.as_bytes.ensures.value at c.three_numbers.ensures.found)
