use Rattle.nodejs_semver.proofs.Common.{All, IsRaisable, arith, candidates, false, on_err, spans_of, subst, sym}
use Rattle.nodejs_semver.proofs.{Questions.Least.{found_beyond}, Questions.Index.search_same, Questions.Spans.{raisable, trying_allocates}}
use Rattle.nodejs_semver.proofs.range.RangeOf.is_subset.Goals as goal

pub consider_all-requires : goal.consider_all-requires
consider_all-requires g c = (
  omega arith,
  (
    (omega arith, rw (c.new-search.ensures.kept, c.new-search.ensures.removed) c.new-search.ensures.indexed),
    subst (All IsRaisable) (sym c.items-removed.ensures.value)
        (raisable _ c.items-removed.ensures.valid),
  ),
)

pub returns-clause-subset : goal.returns-clause-subset
returns-clause-subset g c = found_beyond false c.args.self.now c.args.other.now _ _ _ c.is_none.result c.from_ref-kept.ensures.value
    c.items-removed.ensures.value c.is_none.ensures
    (search_same g.W.Versioned.value _ _ _ _ _ _ (candidates c.from_ref-kept.result.now (spans_of g.W.Versioned.value c.items-removed.result.now)) _ c.new-search.ensures.copies c.new-search.ensures.kept c.new-search.ensures.removed c.in_ok-consider_all.ensures.best)

pub returns-in_err-consider_all-clause-memory : goal.returns-in_err-consider_all-clause-memory
returns-in_err-consider_all-clause-memory g c = on_err _ (trying_allocates c.args.self.now c.args.other.now
    (rw (
      c.new-search.ensures.copies,
      c.new-search.ensures.kept,
      c.new-search.ensures.removed,
      c.from_ref-kept.ensures.value,
      c.items-removed.ensures.value,
    ) at c.in_err-consider_all.ensures.memory))
