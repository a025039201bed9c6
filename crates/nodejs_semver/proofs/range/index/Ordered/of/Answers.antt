use Rattle.nodejs_semver.proofs.Common.{is_lt, rules, subst, sym, ◌≡◌}
use Rattle.std.proofs.lemmas.List.Sorted.{answers_always, ranks_by}
use Rattle.nodejs_semver.proofs.Questions.Index.{place_total}
use Rattle.nodejs_semver.specs.Internal.Index.{AreInOrder, Entry, HaveEnds, place_cmp}
use Rattle.nodejs_semver.proofs.range.index.Ordered.of.Goals as goal

pub ends_of-requires : goal.ends_of-requires
ends_of-requires g c = subst AreInOrder (sym c.deref.ensures.value) (c.sort_unstable_by.ensures.sorted _ (ranks_by place_total (λ (e : Entry). e))
    (answers_always _ (λ a r. is_lt r ≡ is_lt (place_cmp a.0.now a.1.0.now)) _ (λ f a r f' k. search rules)))

pub invariant_of-result : goal.invariant_of-result
invariant_of-result g c = (
  c.sort_unstable_by.ensures.sorted _ (ranks_by place_total (λ (e : Entry). e))
      (answers_always _ (λ a r. is_lt r ≡ is_lt (place_cmp a.0.now a.1.0.now)) _ (λ f a r f' k. search rules)),
  subst (λ es. HaveEnds g.V.Versioned.value es c.in_ok-ends.ends.items) c.deref.ensures.value c.in_ok-ends.ensures,
)

pub returns : goal.returns
returns g c = c.sort_unstable_by.ensures.permutation
