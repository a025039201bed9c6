use Rattle.nodejs_semver.proofs.Common.{Bool, Span, cut_cmp, is_lt, lower_cut, not, rules, sym, upper_cut, ◌≡◌}
use Rattle.std.proofs.lemmas.List.Sorted.{answers_always}
use Rattle.nodejs_semver.proofs.Algebra.Near.{along_from}
use Rattle.nodejs_semver.proofs.range.interval_lists.are_along.Goals as goal

pub returns-then-intervals-ge-MANY : goal.returns-then-intervals-ge-MANY
returns-then-intervals-ge-MANY g c = λ h.
    let apart : Span g.row.V.Denot → Span g.row.V.Denot → Bool = λ s t. not (is_lt (cut_cmp g.V.Ord.cmp (lower_cut t.lower) (upper_cut s.upper))) in
    let each = rw h at (c.is_sorted_by.ensures.cases apart (answers_always _ (λ a r. r ≡ apart a.0.now a.1.0.now) _ (λ f a r f' k. search rules))) in
    along_from g.met.V.Ord.total c.args.intervals.now c.requires (λ k d l. sym (each k d l))
