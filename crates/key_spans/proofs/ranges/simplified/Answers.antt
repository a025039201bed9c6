use Rattle.std.proofs.Common.{◌≡◌, Bool, [], false, subst, sym, true}
use Rattle.std.specs.List.{AllZip}
use Rattle.std.specs.Prelude.{IfNone, IfSome, None}
use Rattle.semver_core.specs.Keys.{key}
use Rattle.semver_core.specs.Values.Versions.{IsVersion, VersionValue}
use Rattle.nodejs_semver.specs.Ranges.Gate.{accepts}
use Rattle.key_spans.specs.Ranges.{IsIntervalOf, IsRangeOf, IsSimple}
use Rattle.key_spans.specs.Spans.{IsCanonical, in_spans}
use Rattle.key_spans.proofs.FromSpans.{NoRange, if_ok, is_simple, simple_exact, simple_none, simple_some}
use Rattle.key_spans.proofs.ranges.simplified.Goals as goal

canonical : (g : _) (c : goal.After-drop-spans g) → IsCanonical c.args.include_prerelease c.deref.result.now
canonical g c = subst (IsCanonical c.args.include_prerelease) (sym c.deref.ensures.value) (c.in_ok-spans.ensures.sorted, c.in_ok-spans.ensures.ends)

same : (g : _) (c : goal.After-drop-spans g) → (v : VersionValue) → IsVersion v
    → in_spans c.deref.result.now (key v) ≡ accepts c.args.range.now v c.args.include_prerelease
same g c = subst (λ l. (v : VersionValue) → IsVersion v → in_spans l (key v) ≡ accepts c.args.range.now v c.args.include_prerelease)
    (sym c.deref.ensures.value) c.in_ok-spans.ensures.exact

pub returns-clause-exact : goal.returns-clause-exact
returns-clause-exact g c = if_ok
    (λ found. IfSome found (λ r. (with : Bool) → IsCanonical with c.deref.result.now → IsRangeOf with c.deref.result.now r))
    (λ found. IfSome found (λ r. (v : VersionValue) → IsVersion v
    → accepts r v c.args.include_prerelease ≡ accepts c.args.range.now v c.args.include_prerelease))
    c.from_spans.result (simple_exact c.args.include_prerelease c.args.range.now c.deref.result.now (canonical g c) (same g c))
    c.from_spans.ensures.exact

pub returns-clause-simple : goal.returns-clause-simple
returns-clause-simple g c = if_ok
    (λ found. IfSome found (AllZip IsIntervalOf c.deref.result.now)) (λ found. IfSome found (IsSimple c.args.include_prerelease))
    c.from_spans.result (is_simple c.args.include_prerelease c.args.range.now c.deref.result.now (canonical g c) (same g c))
    c.from_spans.ensures.intervals

pub returns-clause-some : goal.returns-clause-some
returns-clause-some g c = if_ok
    (λ found. c.deref.result.now ≡ [] → found ≡ None)
    (λ found. IfSome found (λ r. (v : VersionValue) × IsVersion v × (accepts c.args.range.now v c.args.include_prerelease ≡ true)))
    c.from_spans.result (simple_some c.args.include_prerelease c.args.range.now c.deref.result.now (canonical g c) (same g c))
    c.from_spans.ensures.empty

pub returns-clause-none : goal.returns-clause-none
returns-clause-none g c = if_ok
    (λ found. IfNone found (NoRange c.deref.result.now))
    (λ found. IfNone found ((v : VersionValue) → IsVersion v → accepts c.args.range.now v c.args.include_prerelease ≡ false))
    c.from_spans.result
    (λ found h. simple_none c.args.include_prerelease c.args.range.now c.deref.result.now (canonical g c) (same g c) found c.items-intervals.ensures.valid h)
    c.from_spans.ensures.none
