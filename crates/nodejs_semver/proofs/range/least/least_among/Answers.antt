use Rattle.nodejs_semver.proofs.Common.{IsLeastOf, candidates, on_err, spans_of, subst, sym, wanted}
use Rattle.nodejs_semver.proofs.Questions.Least.{least_bare, least_wanted}
use Rattle.nodejs_semver.proofs.Questions.Index.{search_same}
use Rattle.nodejs_semver.proofs.range.least.least_among.Goals as goal

pub returns-in_err-consider_all-clause-memory : goal.returns-in_err-consider_all-clause-memory
returns-in_err-consider_all-clause-memory g c = on_err _ (rw (c.new-search.ensures.copies, c.new-search.ensures.kept, c.new-search.ensures.removed) at c.in_err-consider_all.ensures.memory)

pub returns : goal.returns
returns g c =
    let kept = c.args.kept.now in
    let removed = spans_of g.W.Versioned.value c.args.removed.now in
    let best = search_same g.W.Versioned.value _ _ _ _ _ _ (candidates kept removed) _ c.new-search.ensures.copies c.new-search.ensures.kept c.new-search.ensures.removed
    c.in_ok-consider_all.ensures.best in record {
      least = subst (IsLeastOf (wanted kept removed)) (sym best) (least_wanted kept removed c.requires.some);
      build = least_bare (wanted kept removed) kept removed _ best;
      memory = tt;
    }
