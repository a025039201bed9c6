use Rattle.nodejs_semver.proofs.{Algebra.Differences.{along-gaps, minus-clips}, Common.{IfOk-weaker, arith, inl, on_err_weaker, ◌∙◌}}
use Rattle.semver_core.proofs.FlatMaps.{lone}
use Rattle.nodejs_semver.proofs.range.interval_lists.differences.Goals as goal

pub clipped-requires : goal.clipped-requires
clipped-requires g c = (
  omega arith,
  rw c.deref.ensures (along-gaps g.met.V.Ord.total c.args.others.now c.in_ok-pieces.pieces.items c.in_ok-pieces.ensures),
)

pub returns-clause-items : goal.returns-clause-items
returns-clause-items g c = IfOk-weaker c.clipped.result _ _ (λ r e. rw c.deref.ensures at e
    ∙ minus-clips g.met.V.Ord.total c.args.these.now c.args.others.now c.in_ok-pieces.pieces.items c.requires c.in_ok-pieces.ensures)
    c.clipped.ensures

pub returns-then-others-eq1 : goal.returns-then-others-eq1
returns-then-others-eq1 g c =
    let alone = lone c.args.others.now c.index-others-0.result c.if-others-eq1.true c.index-others-0.is in record {
      items = rw alone c.remainders.ensures.items;
      memory = on_err_weaker c.remainders.result (λ k. inl (rw alone k)) c.remainders.ensures.memory;
    }
