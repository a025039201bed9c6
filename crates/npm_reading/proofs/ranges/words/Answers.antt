use Rattle.{nodejs_semver.proofs.Common.{arith, sym, ◌∙◌}, npm_reading.proofs.Grammar.RangeReads.{view-none, word-next, word-none}}
use Rattle.npm_reading.proofs.Grammar.{RangeReads.words-all, WordLoop.words-begin}
use Rattle.npm_reading.specs.declared.alternatives.Alternative.{Alternative}
use Rattle.npm_words.proofs.Grammar.{Characters.empty-length, PartialLaw.front-some}
use Rattle.npm_reading.proofs.ranges.words.Goals as goal

pub words-init : goal.words-init
words-init c = words-begin c.args.loose c.args.include c.args.text.now c.all-all.result.interval c.all-all.result.is_bare c.requires (c.all-all.ensures.narrowed c.args.include) c.all-all.ensures.bare

pub returns-in_err-met : goal.returns-in_err-met
returns-in_err-met c =
    let all : Alternative = record { interval = c.words.all.0; is_bare = c.words.all.1.0; is_lost = c.words.all.1.1.0 } in
    rw c.from_residual.ensures (word-none _ _ _ _ all _ c.words.invariant (grind arith) c.in_err-met.ensures)

pub words-smaller : goal.words-smaller
words-smaller c =
    let all : Alternative = record { interval = c.words.all.0; is_bare = c.words.all.1.0; is_lost = c.words.all.1.1.0 } in
    (word-next _ _ _ _ all _ c.words.invariant (c.in_ok-met.met, c.in_ok-met.is_ignored, c.in_ok-met.behind) (grind arith) c.in_ok-met.ensures).1

pub words-preserved : goal.words-preserved
words-preserved c =
    let all : Alternative = record { interval = c.words.all.0; is_bare = c.words.all.1.0; is_lost = c.words.all.1.1.0 } in
    (word-next _ _ _ _ all _ c.words.invariant (c.in_ok-met.met, c.in_ok-met.is_ignored, c.in_ok-met.behind) (grind arith) c.in_ok-met.ensures).0

pub returns : goal.returns
returns c =
    let all : Alternative = record { interval = c.words.all.0; is_bare = c.words.all.1.0; is_lost = c.words.all.1.1.0 } in
    words-all c.args.loose c.args.include c.args.text.now c.words.rest.now all _ c.words.invariant c.ended.result c.if-is_last_ignored.ended c.requires
    (empty-length c.words.rest.now ∙ sym c.is_empty.ensures ∙ c.words-test.false) c.ended.ensures.interval c.ended.ensures.lost
    (λ k. grind arith)
    (λ k. grind (arith, view-none, front-some))
