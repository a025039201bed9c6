use Rattle.nodejs_semver.proofs.Common.{better_kept, firsts, flat_map, fold, list_marks, removed_marks, spans_of, take, ◌≡◌}
use Rattle.nodejs_semver.proofs.range.least.consider_all.Given as goal

abbrev pub invariant-loop-range : goal.invariant-loop-range
invariant-loop-range g l = l.best ≡ fold (better_kept (g.S.Search.copies l.search) (g.S.Search.wanted l.search)) l.initial.best
    (flat_map firsts (flat_map list_marks (take l.range-index l.kept)))

abbrev pub invariant-loop-interval-2 : goal.invariant-loop-interval-2
invariant-loop-interval-2 g l = l.best ≡ fold (better_kept (g.S.Search.copies l.search) (g.S.Search.wanted l.search)) l.initial.best
    (flat_map firsts (flat_map removed_marks (spans_of g.W.Versioned.value (take l.interval-index l.removed))))

abbrev pub invariant-loop-interval : goal.invariant-loop-interval
invariant-loop-interval g l = l.best ≡ fold (better_kept (g.S.Search.copies l.search) (g.S.Search.wanted l.search)) l.initial.best
    (flat_map firsts (list_marks (spans_of g.V.Versioned.value (take l.interval-index l.intervals))))
