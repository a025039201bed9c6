use Rattle.nodejs_semver.proofs.Common.{IfOk-weaker, ap, arith, if_any, length, none_of, on_err, on_err_weaker, option_to_list, part_some, refl, spans_of, subst}
use Rattle.nodejs_semver.proofs.Common.{sym, ◌<◌, ◌∙◌}
use Rattle.nodejs_semver.proofs.Algebra.Clauses.{intervals-ordered, meets_of-is, meets_of-lone, meets_of-some, meets_of-valid}
use Rattle.nodejs_semver.proofs.range.RangeOf.common.Goals as goal

pub returns-then-not-meets-clause-list : goal.returns-then-not-meets-clause-list
returns-then-not-meets-clause-list g c =
    let lone = meets_of-lone g.V.Ord.cmp c.items-these.result.now c.items-others.result.now c.index-these-0.result c.index-others-0.result
    (omega arith) (omega arith) c.index-these-0.is c.index-others-0.is in
    let is = meets_of-is _ _ g.met.V.VersionPoint.ordered _ _ _ _
    c.items-these.ensures.valid c.items-others.ensures.valid c.items-these.ensures.value c.items-others.ensures.value in
    ap if_any (ap (spans_of g.V.Versioned.value) (sym (lone ∙ ap option_to_list (none_of _ (sym c.meets.ensures ∙ c.if-not-meets.true)))) ∙ is)

pub common_of_two-requires : goal.common_of_two-requires
common_of_two-requires g c =
    let lone = meets_of-lone g.V.Ord.cmp c.items-these.result.now c.items-others.result.now c.index-these-0.result c.index-others-0.result
    (omega arith) (omega arith) c.index-these-0.is c.index-others-0.is in
    let valid = meets_of-valid _ _ g.met.V.VersionPoint.ordered _ _ _ _
    c.items-these.ensures.valid c.items-others.ensures.valid c.items-these.ensures.value c.items-others.ensures.value in
    (omega arith, rw (sym lone) valid)

pub returns-then-others-eq1 : goal.returns-then-others-eq1
returns-then-others-eq1 g c =
    let lone = meets_of-lone g.V.Ord.cmp c.items-these.result.now c.items-others.result.now c.index-these-0.result c.index-others-0.result
    (omega arith) (omega arith) c.index-these-0.is c.index-others-0.is in
    let is = meets_of-is _ _ g.met.V.VersionPoint.ordered _ _ _ _
    c.items-these.ensures.valid c.items-others.ensures.valid c.items-these.ensures.value c.items-others.ensures.value in record {
      list = IfOk-weaker c.common_of_two.result _ _ (λ r e. e ∙ ap if_any (ap (spans_of g.V.Versioned.value) (sym lone) ∙ is))
          c.common_of_two.ensures.list;
      memory = on_err_weaker c.common_of_two.result (λ e. meets_of-some _ _ g.met.V.VersionPoint.ordered _ _ _ _
          c.items-these.ensures.valid c.items-others.ensures.valid c.items-these.ensures.value c.items-others.ensures.value
          (subst (λ l. 0 < length l) (sym lone) (part_some _ _ refl e))) c.common_of_two.ensures.memory;
    }

pub push_all_intersections-requires : goal.push_all_intersections-requires
push_all_intersections-requires g c = (
  omega arith,
  intervals-ordered _ _ g.met.V.VersionPoint.ordered _ _ _ _
      c.items-others.ensures.valid c.items-these.ensures.valid c.items-others.ensures.value c.items-these.ensures.value,
)

pub of_intervals-requires : goal.of_intervals-requires
of_intervals-requires g c =
    let valid = meets_of-valid _ _ g.met.V.VersionPoint.ordered _ _ _ _
    c.items-these.ensures.valid c.items-others.ensures.valid c.items-these.ensures.value c.items-others.ensures.value in
    (omega arith, (omega arith, rw (rw c.new-found.ensures.items at c.in_ok-push_all_intersections.ensures.items) valid))

pub returns-clause-list : goal.returns-clause-list
returns-clause-list g c =
    let items = rw c.new-found.ensures.items at c.in_ok-push_all_intersections.ensures.items in
    rw (c.of_intervals.ensures, items) (ap if_any (meets_of-is _ _ g.met.V.VersionPoint.ordered _ _ _ _
    c.items-these.ensures.valid c.items-others.ensures.valid c.items-these.ensures.value c.items-others.ensures.value))

pub returns-in_err-push_all_intersections-clause-memory : goal.returns-in_err-push_all_intersections-clause-memory
returns-in_err-push_all_intersections-clause-memory g c = on_err c.from_residual.result (meets_of-some _ _ g.met.V.VersionPoint.ordered _ _ _ _
    c.items-these.ensures.valid c.items-others.ensures.valid c.items-these.ensures.value c.items-others.ensures.value
    c.in_err-push_all_intersections.ensures.memory)
