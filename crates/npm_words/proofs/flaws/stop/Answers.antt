use Rattle.npm_words.proofs.{Common.{MAX_SAFE_INTEGER, None, arith, next, rules, sym, ◌∙◌, ◌≡◌}, FlawPlaces.Stops.{passed_end, passed_more}}
use Rattle.npm_words.proofs.FlawPlaces.Stops.{passed_none, passed_stop, passed_whole}
use Rattle.npm_words.proofs.flaws.stop.Goals as goal

pub letters-init : goal.letters-init
letters-init c =
    let all : c.into_iter-letter-iterator.result.rest.now ≡ c.args.text.now = search rules in
    passed_none c.args.text.now c.into_iter-letter-iterator.result.rest.now c.utf8.text all

pub returns-in_default : goal.returns-in_default
returns-in_default c =
    let none : next MAX_SAFE_INTEGER c.letters.state c.in-Some.letter ≡ None = sym c.next-in-letters.ensures ∙ c.in_default.is in
    passed_stop _ _ _ _ _ c.letters.invariant _ _ _ c.in-Some.ensures.steps.0 none c.wrong_at.ensures

pub letters-preserved : goal.letters-preserved
letters-preserved c =
    passed_more _ _ _ _ _ c.letters.invariant _ _ _ _ c.in-Some.ensures.steps.0 c.len_utf8-at.ensures.value (sym c.in-Some-next.ensures)

pub returns-in-Number-eq0-default : goal.returns-in-Number-eq0-default
returns-in-Number-eq0-default c = passed_whole _ _ _ _ _ c.letters.invariant c.in-None.ensures.steps.0.0 (grind arith)

pub returns-in-Zero : goal.returns-in-Zero
returns-in-Zero c = passed_whole _ _ _ _ _ c.letters.invariant c.in-None.ensures.steps.0.0 (grind arith)

pub returns-in_default-state : goal.returns-in_default-state
returns-in_default-state c = passed_end _ _ _ _ _ c.letters.invariant _ c.in-None.ensures.steps.0.0 (grind arith) c.wrong_at-in_default-state.ensures
