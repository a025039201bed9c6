use Rattle.nodejs_semver.proofs.Common.{All, IfOk-weaker, IsLeastOf, IsRaisable, [], arith, on_err_weaker, subst, sym, wanted, ◌∷◌}
use Rattle.nodejs_semver.proofs.{Questions.Least.{least_of_one}, Questions.Spans.{one_allocates, one_names, raisable}}
use Rattle.nodejs_semver.proofs.range.RangeOf.least_beyond.Goals as goal

pub returns-clause-least : goal.returns-clause-least
returns-clause-least g c =
    let kept = c.args.self.now in
    let removed = c.args.other.now in
    IfOk-weaker c.least_among.result (IsLeastOf (wanted (kept ∷ []) removed)) _ (least_of_one kept removed)
    (rw (c.from_ref.ensures.value, c.items.ensures.value) at c.least_among.ensures.least)

pub returns-clause-memory : goal.returns-clause-memory
returns-clause-memory g c = on_err_weaker c.least_among.result (one_allocates c.args.self.now c.args.other.now)
    (rw (c.from_ref.ensures.value, c.items.ensures.value) at c.least_among.ensures.memory)

pub returns-clause-bare : goal.returns-clause-bare
returns-clause-bare g c = on_err_weaker c.least_among.result (one_names c.args.self.now c.args.other.now)
    (rw (c.from_ref.ensures.value, c.items.ensures.value) at c.least_among.ensures.memory)

pub least_among-requires : goal.least_among-requires
least_among-requires g c = (omega arith, (omega arith, subst (All IsRaisable) (sym c.items.ensures.value) (raisable _ c.items.ensures.valid)))
