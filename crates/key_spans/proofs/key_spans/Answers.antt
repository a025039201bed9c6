use Rattle.std.proofs.Common.{◌+◌, ◌<◌, ◌≡◌, ◌^◌, ◌∙◌, ◌++◌, List, true, false, ap, arith, subst, sym}
use Rattle.std.specs.Prelude.{All, ℕ}
use Rattle.std.proofs.lemmas.List.{length-map}
use Rattle.std.proofs.lemmas.List.Elements.{All-append}
use Rattle.std.proofs.lemmas.Result.{IfOk-weaker}
use Rattle.semver_core.specs.Cuts.{Span}
use Rattle.semver_core.specs.Keys.{key}
use Rattle.semver_core.specs.Values.Versions.{VersionValue}
use Rattle.semver_core.specs.declared.TheConstants.{MAX_SAFE_INTEGER}
use Rattle.nodejs_semver.specs.Ranges.Gate.{accepts}
use Rattle.nodejs_semver.specs.Ranges.View.{IsRange}
use Rattle.key_spans.specs.Internal.Pieces.{IsCanonicalOf, PieceEnds, all_flagged, are_sorted, in_pieces, pieces}
use Rattle.key_spans.specs.Internal.Places.{IsSpan, pre_releases, release_stretch, releases, version_stretch, versions}
use Rattle.key_spans.specs.Internal.Sets.{Stretch}
use Rattle.key_spans.specs.Spans.{HasEnds}
use Rattle.key_spans.specs.declared.KeySpan.{KeySpan}
use Rattle.key_spans.proofs.Canonical.{AnyPlaced, PrePlaced, ReleasePlaced, all_any_ends, all_pre_ends, all_release_ends}
use Rattle.key_spans.proofs.Few.{both_few, listed_few, pre_few}
use Rattle.key_spans.proofs.OneList.{IsAny, IsKeyOf, IsRelease, LastEnd, last_parted, placed, releases_fit, versions_fit}
use Rattle.key_spans.proofs.OnePreList.{Ends, IsPreKey, parted, pre_releases_fit}
use Rattle.key_spans.proofs.OneSet.{unmapped}
use Rattle.key_spans.proofs.Pieces.{all_exact, gate_exact, in_spans-pieces, is_sorted-pieces, sorted-both, sorted-flagged}
use Rattle.key_spans.proofs.RangeBounds.{range_spans}
use Rattle.key_spans.proofs.key_spans.Goals as goal

bounded : (ss : List (Span VersionValue)) → IsRange MAX_SAFE_INTEGER ss → All IsSpan ss
bounded ss h = let small : MAX_SAFE_INTEGER + 1 < 2 ^ 64 = omega arith in range_spans MAX_SAFE_INTEGER ss small h

-- ---- with pre-releases included

canonical_all : (g : _) (c : goal.After-spans_of g) → IsCanonicalOf (versions c.args.range.now) c.in_ok-versions.versions.items
canonical_all g c = subst (λ l. IsCanonicalOf (versions l) c.in_ok-versions.versions.items) c.items-intervals.ensures.value c.in_ok-versions.ensures

listed_all : (g : _) (c : goal.After-spans_of g) (spans : List KeySpan)
    → pieces spans ≡ all_flagged true c.new.result.items ++ all_flagged false c.in_ok-versions.versions.items
    → pieces spans ≡ all_flagged false c.in_ok-versions.versions.items
listed_all g c spans e = e ∙ ap (λ l. all_flagged true l ++ all_flagged false c.in_ok-versions.versions.items) c.new.ensures.items

pub returns-then-include_prerelease-clause-exact : goal.returns-then-include_prerelease-clause-exact
returns-then-include_prerelease-clause-exact g c = IfOk-weaker c.spans_of.result _ _ (λ spans e v h.
    in_spans-pieces spans.items (key v)
    ∙ (ap (λ l. in_pieces l (key v)) (listed_all g c spans.items e)
    ∙ (all_exact c.args.range.now v (bounded c.args.range.now c.items-intervals.ensures.valid) h c.in_ok-versions.versions.items (canonical_all g c)
    ∙ ap (accepts c.args.range.now v) (sym c.if-include_prerelease.true)))) c.spans_of.ensures

pub returns-then-include_prerelease-clause-sorted : goal.returns-then-include_prerelease-clause-sorted
returns-then-include_prerelease-clause-sorted g c = IfOk-weaker c.spans_of.result _ _ (λ spans e.
    is_sorted-pieces spans.items
    ∙ (ap are_sorted (listed_all g c spans.items e) ∙ sorted-flagged false c.in_ok-versions.versions.items (canonical_all g c).canonical))
    c.spans_of.ensures

pub returns-then-include_prerelease-clause-ends : goal.returns-then-include_prerelease-clause-ends
returns-then-include_prerelease-clause-ends g c = IfOk-weaker c.spans_of.result _ _ (λ spans e.
    let vs : List (Stretch (List ℕ)) = c.in_ok-versions.versions.items in
    let fit : All AnyPlaced vs = placed (IsKeyOf IsAny) (LastEnd IsAny) (last_parted IsAny) (versions c.args.range.now) vs
    (versions_fit c.args.range.now (bounded c.args.range.now c.items-intervals.ensures.valid)) (canonical_all g c) in
    subst (λ b. All (HasEnds b) spans.items) (sym c.if-include_prerelease.true)
    (unmapped true spans.items (subst (All (PieceEnds true)) (sym (listed_all g c spans.items e)) (all_any_ends vs fit)))) c.spans_of.ensures

pub returns-then-include_prerelease-clause-few : goal.returns-then-include_prerelease-clause-few
returns-then-include_prerelease-clause-few g c = IfOk-weaker c.spans_of.result _ _ (λ spans e.
    omega (
      arith,
      listed_few spans.items false c.in_ok-versions.versions.items (listed_all g c spans.items e),
      (canonical_all g c).few,
      length-map c.args.range.now version_stretch,
    )) c.spans_of.ensures

-- ---- by the gate

canonical_releases : (g : _) (c : goal.After-spans_of-2 g) → IsCanonicalOf (releases c.args.range.now) c.in_ok-releases.releases.items
canonical_releases g c = subst (λ l. IsCanonicalOf (releases l) c.in_ok-releases.releases.items) c.items-intervals.ensures.value c.in_ok-releases.ensures

canonical_pre : (g : _) (c : goal.After-spans_of-2 g) → IsCanonicalOf (pre_releases c.args.range.now) c.in_ok-pre_releases.pre_releases.items
canonical_pre g c = subst (λ l. IsCanonicalOf (pre_releases l) c.in_ok-pre_releases.pre_releases.items) c.items-intervals.ensures.value
    c.in_ok-pre_releases.ensures

pub returns-clause-exact : goal.returns-clause-exact
returns-clause-exact g c = IfOk-weaker c.spans_of-2.result _ _ (λ spans e v h.
    in_spans-pieces spans.items (key v)
    ∙ (ap (λ l. in_pieces l (key v)) e
    ∙ (gate_exact c.args.range.now v (bounded c.args.range.now c.items-intervals.ensures.valid) h c.in_ok-releases.releases.items
    c.in_ok-pre_releases.pre_releases.items (canonical_releases g c) (canonical_pre g c)
    ∙ ap (accepts c.args.range.now v) (sym c.if-include_prerelease.false)))) c.spans_of-2.ensures

pub returns-clause-sorted : goal.returns-clause-sorted
returns-clause-sorted g c = IfOk-weaker c.spans_of-2.result _ _ (λ spans e.
    is_sorted-pieces spans.items
    ∙ (ap are_sorted e ∙ sorted-both c.in_ok-releases.releases.items c.in_ok-pre_releases.pre_releases.items
    (canonical_releases g c).canonical (canonical_pre g c).canonical)) c.spans_of-2.ensures

pub returns-clause-ends : goal.returns-clause-ends
returns-clause-ends g c = IfOk-weaker c.spans_of-2.result _ _ (λ spans e.
    let rs : List (Stretch (List ℕ)) = c.in_ok-releases.releases.items in
    let ps : List (Stretch (List ℕ)) = c.in_ok-pre_releases.pre_releases.items in
    let all : All IsSpan c.args.range.now = bounded c.args.range.now c.items-intervals.ensures.valid in
    let first : All ReleasePlaced rs = placed (IsKeyOf IsRelease) (LastEnd IsRelease) (last_parted IsRelease) (releases c.args.range.now) rs
    (releases_fit c.args.range.now all) (canonical_releases g c) in
    let others : All PrePlaced ps = placed IsPreKey Ends parted (pre_releases c.args.range.now) ps
    (pre_releases_fit c.args.range.now all) (canonical_pre g c) in
    subst (λ b. All (HasEnds b) spans.items) (sym c.if-include_prerelease.false)
    (unmapped false spans.items (subst (All (PieceEnds false)) (sym e)
    (All-append (PieceEnds false) (all_flagged true rs) (all_flagged false ps) (all_release_ends rs first)
    (all_pre_ends ps (canonical_pre g c).canonical others))))) c.spans_of-2.ensures

pub returns-clause-few : goal.returns-clause-few
returns-clause-few g c = IfOk-weaker c.spans_of-2.result _ _ (λ spans e.
    omega (
      arith,
      both_few spans.items c.in_ok-releases.releases.items c.in_ok-pre_releases.pre_releases.items e,
      (canonical_releases g c).few,
      (canonical_pre g c).few,
      length-map c.args.range.now release_stretch,
      pre_few c.args.range.now,
    )) c.spans_of-2.ensures
