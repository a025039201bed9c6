use Rattle.semver_core.proofs.{Common.{greater_lower, lesser_upper, refl, rules, sym, ◌≡◌}, CutLaws.{bounded, none_of}}
use Rattle.semver_core.proofs.cuts.interval.Interval.into_intersection.Goals as goal

pub returns-then-not-meets-clause-none : goal.returns-then-not-meets-clause-none
returns-then-not-meets-clause-none g c = none_of _ (search rules)

pub returns-clause-common : goal.returns-clause-common
returns-clause-common g c =
    let lower : c.max_by-lower.result ≡ greater_lower g.V.Ord.cmp c.self.inside.lower c.other.inside.lower = search rules in
    let upper : c.min_by-upper.result ≡ lesser_upper g.V.Ord.cmp c.self.inside.upper c.other.inside.upper = search rules in
    bounded g.met.V.Ord.total _ _ (sym c.if-not-meets.ensures)
    (rw (lower, upper, ← c.self.view_is, ← c.other.view_is) refl)
