use Rattle.nodejs_semver.proofs.Common.{All, IfOk-weaker, IsLeastOf, IsRaisable, None, Some, [], arith, first_so, inl}
use Rattle.nodejs_semver.proofs.Common.{least_build, on_err, on_err_weaker, subst, sym, wanted, ◌∷◌}
use Rattle.nodejs_semver.proofs.Questions.{Spans.{alone_allocates, alone_names, err-map, least_names, raisable}, Least.{least_accepted, least_build_built, least_of_itself, least_of_one}}
use Rattle.nodejs_semver.proofs.Algebra.Differences.{some-map}
use Rattle.nodejs_semver.proofs.range.RangeOf.min_version.Goals as goal

pub returns-in-None-clause-least : goal.returns-in-None-clause-least
returns-in-None-clause-least g c =
    let ks = c.args.self.now in
    let h : IsLeastOf (wanted (ks ∷ []) []) None =
    rw (c.from_ref.ensures.value, c.in-None.is) at c.in_ok-least_among.ensures.least in
    least_of_itself ks None (least_of_one ks [] None h)

pub returns-in-Some-2 : goal.returns-in-Some-2
returns-in-Some-2 g c =
    let ks = c.args.self.now in
    let v = c.in-Some-2.version in
    let h : IsLeastOf (wanted (ks ∷ []) []) (Some v) =
    rw (c.from_ref.ensures.value, c.in-Some-2.is) at c.in_ok-least_among.ensures.least in
    let least = least_accepted ks v (least_build ks v) (least_of_one ks [] (Some v) h) in
    let built = some-map _ _ _ (rw c.items.ensures.value at c.with_least_build.ensures.value) c.map-in-Some-2.ensures.cases in record {
      least = IfOk-weaker c.map-in-Some-2.result _ _ (λ r e. rw e least) built;
      build = IfOk-weaker c.map-in-Some-2.result _ _ (λ r e. rw e (sym (least_build_built ks v _))) built;
      memory = on_err _ (inl (v, first_so _ _ (least_of_one ks [] (Some v) h).0));
      bare = err-map _ _ c.map-in-Some-2.result (rw c.items.ensures.value at c.with_least_build.ensures.memory) c.map-in-Some-2.ensures.cases;
    }

pub returns-in_err-least_among-clause-memory : goal.returns-in_err-least_among-clause-memory
returns-in_err-least_among-clause-memory g c = on_err _ (alone_allocates c.args.self.now (rw c.from_ref.ensures.value at c.in_err-least_among.ensures.memory))

pub returns-in_err-least_among-clause-bare : goal.returns-in_err-least_among-clause-bare
returns-in_err-least_among-clause-bare g c = on_err _ (alone_names c.args.self.now (rw c.from_ref.ensures.value at c.in_err-least_among.ensures.memory))

pub least_among-requires : goal.least_among-requires
least_among-requires g c = (omega arith, (omega arith, λ k d h. absurd (omega arith)))

pub with_least_build-requires : goal.with_least_build-requires
with_least_build-requires g c = record {
  raisable = subst (All IsRaisable) (sym c.items.ensures.value) (raisable _ c.items.ensures.valid);
  bare = rw c.in-Some-2.is at c.in_ok-least_among.ensures.build;
}

pub returns-in-Some : goal.returns-in-Some
returns-in-Some g c =
    let is = some-map _ _ _ c.owned.ensures.value c.map.ensures.cases in record {
      least = IfOk-weaker c.map.result _ _ (λ r e. rw e c.in-Some.ensures.least) is;
      build = IfOk-weaker c.map.result _ _ (λ r e. rw e c.in-Some.ensures.build) is;
      memory = on_err _ (inl (g.V.Versioned.value c.in-Some.version.now, c.in-Some.ensures.least.0));
      bare = err-map _ c.owned.result c.map.result
          (on_err_weaker c.owned.result (least_names c.args.self.now (g.V.Versioned.value c.in-Some.version.now)
          c.in-Some.ensures.least.0 c.in-Some.ensures.build) c.owned.ensures.memory) c.map.ensures.cases;
    }
