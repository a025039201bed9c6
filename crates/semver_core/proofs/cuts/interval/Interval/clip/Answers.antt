use Rattle.semver_core.proofs.Common.{Some, ap, refl, sym, ◌∙◌, ◌≡◌, clip, greater_lower, lesser_upper, option_holds}
use Rattle.semver_core.proofs.CutLaws.{apart, bounded, clip-meets, clip-ordered, none_of, option_holds-clip}
use Rattle.semver_core.proofs.cuts.interval.Interval.clip.Goals as goal

pub of_copies-requires : goal.of_copies-requires
of_copies-requires g c =
    let lower : c.greater_lower-lower.result.now ≡ greater_lower g.V.Ord.cmp c.args.other.now.lower c.args.self.now.lower =
    rw (← c.self.view_is, ← c.other.view_is) c.greater_lower-lower.ensures in
    let upper : c.lesser_upper-upper.result.now ≡ lesser_upper g.V.Ord.cmp c.args.self.now.upper c.args.other.now.upper =
    rw (← c.self.view_is, ← c.other.view_is) c.lesser_upper-upper.ensures in
    clip-ordered g.met.V.Ord.total c.args.self.now c.args.other.now _ _ (sym c.if-not-meets.ensures) lower upper

pub returns-then-not-meets-clause-bounds : goal.returns-then-not-meets-clause-bounds
returns-then-not-meets-clause-bounds g c =
    sym (none_of _ (clip-meets g.met.V.Ord.total c.args.self.now c.args.other.now ∙ sym c.if-not-meets.ensures))

pub returns-then-not-meets-clause-set : goal.returns-then-not-meets-clause-set
returns-then-not-meets-clause-set g c = apart g.met.V.Ord.total c.args.self.now c.args.other.now (sym c.if-not-meets.ensures)

pub returns : goal.returns
returns g c =
    let part : Some c.in_ok-of_copies.field-0 ≡ clip g.V.Ord.cmp c.args.self.now c.args.other.now =
    bounded g.met.V.Ord.total _ _ (clip-meets g.met.V.Ord.total c.args.self.now c.args.other.now ∙ sym c.if-not-meets.ensures)
    (c.in_ok-of_copies.ensures.whole
    ∙ rw (c.greater_lower-lower.ensures, c.lesser_upper-upper.ensures, ← c.self.view_is, ← c.other.view_is) refl) in
    record {
      bounds = part;
      set = λ v. ap (λ r. option_holds g.V.Ord.cmp r v) part
          ∙ option_holds-clip g.met.V.Ord.total c.args.self.now c.args.other.now v;
    }
