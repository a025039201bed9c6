use Rattle.nodejs_semver.proofs.Common.{◌≡◌, ◌∙◌, ap, arith, List, [], ◌∷◌, inr, rules, sym, on_err_weaker, IfSome, IsTrue}
use Rattle.nodejs_semver.proofs.Common.{MAX_SAFE_INTEGER, Means, if_any, IfOk-weaker}
use Rattle.nodejs_semver.specs.Text.Common.{IsCommonRange}
use Rattle.nodejs_semver.proofs.{Values.{spans_same}, Everyday.Parts.{common_so}, Everyday.Whole.{common_bounded, common_means}}
use Rattle.nodejs_semver.proofs.readers.fast.range_fast.Goals as goal

pub of_intervals-requires : goal.of_intervals-requires
of_intervals-requires c =
    let there : IsTrue c.in_ok-read_common.field-0 = search rules in
    let valid = common_bounded MAX_SAFE_INTEGER c.as_bytes.result.now c.read_common.new.found.items (c.in_ok-read_common.ensures.some there) in
    (omega arith, (omega arith, rw spans_same valid))

if_some : {A : Type 0} (P : List A → Type 0) (xs : List A) → P xs → IfSome (if_any xs) P
if_some P [] h = tt
if_some P (x ∷ xs) h = h

common-is : (c : goal.After-owned_range) → IsCommonRange MAX_SAFE_INTEGER c.args.text.now c.read_common.new.found.items
common-is c =
    let there : IsTrue c.in_ok-read_common.field-0 = search rules in
    (rw c.as_bytes.ensures.value at (c.in_ok-read_common.ensures.some there), sym c.has_plus.ensures ∙ c.if-has_plus.false)

pub returns-clause-some : goal.returns-clause-some
returns-clause-some c =
    IfOk-weaker c.owned_range.result (λ r. r ≡ c.of_intervals.result) (λ r. IfSome r (IsCommonRange MAX_SAFE_INTEGER c.args.text.now))
    (λ r e. rw (e, c.of_intervals.ensures, spans_same) (if_some _ c.read_common.new.found.items (common-is c))) c.owned_range.ensures.whole

pub returns-clause-denoted : goal.returns-clause-denoted
returns-clause-denoted c =
    IfOk-weaker c.owned_range.result (λ r. r ≡ c.of_intervals.result) (λ r. IfSome r (Means MAX_SAFE_INTEGER c.args.text.now))
    (λ r e. rw e (common_means MAX_SAFE_INTEGER c.args.text.now c.read_common.new.found.items c.of_intervals.result c.utf8.text
    (common-is c).0 (c.of_intervals.ensures ∙ ap if_any (spans_same _)))) c.owned_range.ensures.whole

pub returns-clause-memory : goal.returns-clause-memory
returns-clause-memory c =
    on_err_weaker c.owned_range.result (λ m. inr (common_so _ MAX_SAFE_INTEGER c.args.text.now c.read_common.new.found.items
    (common-is c) (rw (c.of_intervals.ensures, spans_same) at m))) c.owned_range.ensures.memory
