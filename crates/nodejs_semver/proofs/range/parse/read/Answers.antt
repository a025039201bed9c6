use Rattle.nodejs_semver.proofs.Common.{AreCommonParts, IsTrue, List, MAX_SAFE_INTEGER, rules, subst, ℕ}
use Rattle.nodejs_semver.proofs.Everyday.Whole.{common_list}
use Rattle.nodejs_semver.proofs.Everyday.Texts.{list-some}
use Rattle.nodejs_semver.proofs.range.parse.read.Goals as goal

abbrev Read : goal.In-Ok-true → Type 0
Read c = AreCommonParts MAX_SAFE_INTEGER c.args.text.now c.read_common.new.found.items

is-read : (c : goal.In-Ok-true) → Read c
is-read c =
    let there : IsTrue c.in-Ok-true.field-0 = search rules in
    subst (λ (t : List ℕ). AreCommonParts MAX_SAFE_INTEGER t c.read_common.new.found.items) c.as_bytes.ensures.value
    (c.in-Ok-true.ensures.some there)

pub returns-in-Ok-true-clause-read : goal.returns-in-Ok-true-clause-read
returns-in-Ok-true-clause-read c = common_list MAX_SAFE_INTEGER c.args.text.now c.read_common.new.found.items (is-read c)

pub returns-in-Ok-true-clause-some : goal.returns-in-Ok-true-clause-some
returns-in-Ok-true-clause-some c = list-some MAX_SAFE_INTEGER c.args.text.now c.read_common.new.found.items (is-read c)
