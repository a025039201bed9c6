use Rattle.nodejs_semver.proofs.Common.{append-nil, arith, common_steps, List, Some, subst, ℕ}
use Rattle.npm_reading.proofs.Grammar.RangeReads.{step-invalid, step-read}
use Rattle.{npm_reading.specs.Internal.Alternatives.NarrowedBy, npm_words.proofs.Common.{Signed, capped_in, first_word, signed_view, signed_word}}
use Rattle.npm_words.{proofs.Grammar.{AlternativeLaw.word-normal, PartialLaw.front-as}, specs.Table.table}
use Rattle.npm_reading.proofs.ranges.with_word.Goals as goal

pub returns-then-loose : goal.returns-then-loose
unfolding first_word
returns-then-loose c = grind (arith, common_steps, append-nil)

pub meet-requires : goal.meet-requires
meet-requires c = word-normal c.args.loose c.args.text.now (signed_view c.in-Some.word, c.in-Some.behind.now) c.in-Some.ensures

pub returns-in_err-all : goal.returns-in_err-all
returns-in_err-all c = grind (arith, common_steps, step-invalid)

pub returns : goal.returns
returns c =
    let v = front-as capped_in (signed_word c.args.loose c.args.text.now) (signed_view c.in-Some.word, c.in-Some.behind.now) c.in-Some.ensures in
    let read = subst (λ (x : Signed × List ℕ). NarrowedBy c.args.include c.args.all.interval (table c.args.include x.0.0 x.0.1 x.0.2) (Some c.in_ok-all.all)) v.2
    c.in_ok-all.ensures.narrowed in
    step-read c.args.loose c.args.include c.args.text.now c.args.all v.0 v.1 c.in_ok-all.all c.skip_spaces-2.result (grind (arith, v.2)) read
    (grind (arith, v.2)) (grind (arith, v.2))
