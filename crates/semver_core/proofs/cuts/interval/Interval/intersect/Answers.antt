use Rattle.semver_core.proofs.Common.{Some, ap, refl, sym, ◌∙◌, ◌≡◌, meet, option_holds}
use Rattle.semver_core.proofs.CutLaws.{apart, bounded, is_some-interval, none_of, option_holds-meet}
use Rattle.semver_core.proofs.cuts.interval.Interval.intersect.Goals as goal

pub of_copies-requires : goal.of_copies-requires
of_copies-requires g c =
    rw (c.greater_lower-lower.ensures, c.lesser_upper-upper.ensures)
    (sym (is_some-interval g.met.V.Ord.total _) ∙ rw (← c.self.view_is, ← c.other.view_is) at (sym c.if-not-meets.ensures))

pub returns-then-not-meets-clause-bounds : goal.returns-then-not-meets-clause-bounds
returns-then-not-meets-clause-bounds g c = sym (none_of _ (sym c.if-not-meets.ensures))

pub returns-then-not-meets-clause-set : goal.returns-then-not-meets-clause-set
returns-then-not-meets-clause-set g c = apart g.met.V.Ord.total c.args.self.now c.args.other.now (sym c.if-not-meets.ensures)

pub returns : goal.returns
returns g c =
    let both : Some c.in_ok-of_copies.field-0 ≡ meet g.V.Ord.cmp c.args.self.now c.args.other.now =
    bounded g.met.V.Ord.total _ _ (sym c.if-not-meets.ensures)
    (c.in_ok-of_copies.ensures.whole
    ∙ rw (c.greater_lower-lower.ensures, c.lesser_upper-upper.ensures, ← c.self.view_is, ← c.other.view_is) refl) in
    record {
      bounds = both;
      set = λ v. ap (λ r. option_holds g.V.Ord.cmp r v) both
          ∙ option_holds-meet g.met.V.Ord.total c.args.self.now c.args.other.now v;
      memory = tt;
    }
