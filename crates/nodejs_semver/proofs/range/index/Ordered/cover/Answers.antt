use Rattle.nodejs_semver.proofs.Common.{Span, bound_of, tells, VersionValue, cut_cmp, is_le, precedence, span_of, upper_cut, ap, arith, is_eq, not, rules, subst, sym, ◌∙◌}
use Rattle.std.proofs.lemmas.List.Sorted.{IsPartitionPoint-from_clause}
use Rattle.nodejs_semver.proofs.Questions.Index.{found, found_none, found_other, parted, up_far}
use Rattle.nodejs_semver.specs.Internal.Index.{AreInOrder, begins_upto, entries_cover, is_upto}
use Rattle.nodejs_semver.proofs.range.index.Ordered.cover.Goals as goal

pub returns-in_default : goal.returns-in_default
returns-in_default g c =
    let n : VersionValue = c.args.numbers.now in
    let t : Span VersionValue = span_of g.V.Versioned.value c.args.interval.now in
    let o : AreInOrder c.deref.result.now = subst AreInOrder (sym c.deref.ensures.value) c.self.invariant.0 in
    let point = IsPartitionPoint-from_clause (is_upto n (begins_upto t.lower)) c.deref.result.now _ c.partition_point-past.ensures.partitioned
    (parted n t.lower c.deref.result.now o) (λ a r q k. search rules) in
    found_none n (begins_upto t.lower) (λ x. is_le (cut_cmp precedence (upper_cut t.upper) x)) c.deref.result.now c.partition_point-past.result (omega (arith, c.in_default.ensures)) point
    ∙ ap (λ es. entries_cover es n t) (c.deref.ensures.value ∙ c.self.view_is)

pub returns-then-is_eq : goal.returns-then-is_eq
returns-then-is_eq g c =
    let n : VersionValue = c.args.numbers.now in
    let t : Span VersionValue = span_of g.V.Versioned.value c.args.interval.now in
    let o : AreInOrder c.deref.result.now = subst AreInOrder (sym c.deref.ensures.value) c.self.invariant.0 in
    let point = IsPartitionPoint-from_clause (is_upto n (begins_upto t.lower)) c.deref.result.now _ c.partition_point-past.ensures.partitioned
    (parted n t.lower c.deref.result.now o) (λ a r q k. search rules) in
    ap not (rw c.upper.ensures at c.is_further_up.ensures)
    ∙ sym ((tells (cut_cmp precedence (upper_cut t.upper) (upper_cut (bound_of g.V.Versioned.value c.index-then-is_eq.result.now.now)))).0)
    ∙ found n (begins_upto t.lower) (λ x. is_le (cut_cmp precedence (upper_cut t.upper) x)) c.deref.result.now c.partition_point-past.result c.in-Some.last o c.partition_point-past.ensures.bound (omega (arith, c.in-Some.ensures)) point
    c.index.result.now _ (rw c.deref.ensures.value c.index.ensures)
    (rw (sym c.behind-self.view_is) (sym (c.is_eq.ensures ∙ ap is_eq c.cmp_precedence.ensures) ∙ c.if-is_eq.true)) (up_far (upper_cut t.upper))
    (rw c.deref.ensures.value (rw (sym c.index-then-is_eq.ensures) at (c.self.invariant.1.1 c.in-Some.last c.index-then-is_eq.result.now (omega (arith, c.in-Some.ensures, c.self.invariant.1.0, c.partition_point-past.ensures.bound, c.deref.ensures.len)))))
    ∙ ap (λ es. entries_cover es n t) (c.deref.ensures.value ∙ c.self.view_is)

pub returns-else-is_eq : goal.returns-else-is_eq
returns-else-is_eq g c =
    let n : VersionValue = c.args.numbers.now in
    let t : Span VersionValue = span_of g.V.Versioned.value c.args.interval.now in
    let o : AreInOrder c.deref.result.now = subst AreInOrder (sym c.deref.ensures.value) c.self.invariant.0 in
    let point = IsPartitionPoint-from_clause (is_upto n (begins_upto t.lower)) c.deref.result.now _ c.partition_point-past.ensures.partitioned
    (parted n t.lower c.deref.result.now o) (λ a r q k. search rules) in
    c.if-is_eq.false
    ∙ found_other n (begins_upto t.lower) (λ x. is_le (cut_cmp precedence (upper_cut t.upper) x)) c.deref.result.now c.partition_point-past.result c.in-Some.last o c.partition_point-past.ensures.bound (omega (arith, c.in-Some.ensures)) point
    c.index.result.now (rw c.deref.ensures.value c.index.ensures)
    (rw (sym c.behind-self.view_is) (sym (c.is_eq.ensures ∙ ap is_eq c.cmp_precedence.ensures) ∙ c.if-is_eq.false))
    ∙ ap (λ es. entries_cover es n t) (c.deref.ensures.value ∙ c.self.view_is)
