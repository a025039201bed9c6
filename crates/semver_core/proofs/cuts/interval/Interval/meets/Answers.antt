use Rattle.semver_core.proofs.{Common.{rules, true, ◌≡◌, is_interval}, CutLaws.meets_both}
use Rattle.semver_core.proofs.cuts.interval.Interval.meets.Goals as goal

pub returns-then-is_below : goal.returns-then-is_below
returns-then-is_below g c =
    let here : is_interval g.V.Ord.cmp c.args.self.now ≡ true = rw (← c.self.view_is) c.self.invariant in
    let there : is_interval g.V.Ord.cmp c.args.other.now ≡ true = rw (← c.other.view_is) c.other.invariant in
    search (meets_both g.met.V.Ord.total c.args.self.now c.args.other.now here there, rules)

pub returns-else-is_below : goal.returns-else-is_below
returns-else-is_below g c =
    let here : is_interval g.V.Ord.cmp c.args.self.now ≡ true = rw (← c.self.view_is) c.self.invariant in
    let there : is_interval g.V.Ord.cmp c.args.other.now ≡ true = rw (← c.other.view_is) c.other.invariant in
    search (meets_both g.met.V.Ord.total c.args.self.now c.args.other.now here there, rules)
