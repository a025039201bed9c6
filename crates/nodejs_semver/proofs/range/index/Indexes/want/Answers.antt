use Rattle.nodejs_semver.proofs.Common.{VersionValue, YieldsList-from_slice, ap, not, rules, sym, tests, ◌&&◌, ◌∙◌}
use Rattle.std.proofs.lemmas.Iterator.Search.{all_from_yields_List}
use Rattle.nodejs_semver.specs.Internal.Index.{Indexed, lets_pass}
use Rattle.nodejs_semver.proofs.range.index.Indexes.want.Goals as goal

pub returns-then-all : goal.returns-then-all
returns-then-all g c =
    let v : VersionValue = g.C.Versioned.value c.args.version.now in
    let all = all_from_yields_List (λ (i : Indexed). lets_pass i v) _ _ _ c.all.ensures.ran (YieldsList-from_slice c.deref.result.now c.iter.ensures.rest) (λ x b q k. search (rules, tests)) in
    ap not c.accepts.ensures
    ∙ ap (λ p. p && not (lets_pass c.args.self.now.removed v)) (sym c.if-all.true ∙ rw c.deref.ensures.value at all)
