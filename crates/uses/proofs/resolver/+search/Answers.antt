use Rattle.std.proofs.Common.{◌≡◌, ℕ, IfNone, IfSome, ◌≤◌, ◌<◌, None, All, length, sym, ◌∙◌, refl, get_or, arith}
use Rattle.std.proofs.lemmas.List.{take_all}
use Rattle.std.proofs.lemmas.List.Elements.{All-more, All-nil}
use Rattle.uses.specs.Resolver.{IsConflict, IsHopeless, one_more, releases_of}
use Rattle.uses.proofs.Plans.{Agrees-with, fewer_free, IsConflict-found, IsConflict-from_clash, IsHopeless-rejected, NeedsAll-from_picked}
use Rattle.uses.proofs.Plans.{IsRejected, releases_of-past, IsPicked-more, none_from_clash, none_from_hopeless, rejected_more}
use Rattle.uses.proofs.Plans.{at_item, released, releases_of-at, taken_back}
use Rattle.uses.proofs.resolver.+search.Goals as goal
use Rattle.uses.proofs.resolver.+search.Goals.{then-satisfies+in-Err, else-satisfies}
use Rattle.uses.proofs.resolver.+search.Goals.{then-package-packages+else-loop-release-test, else-package-packages}

pub returns-in_default-clause-met : goal.returns-in_default-clause-met
returns-in_default-clause-met t c = rw c.deref.ensures.value at c.in_default.ensures.none

pub returns-in-Some-picked-clause-conflict : goal.returns-in-Some-picked-clause-conflict
returns-in-Some-picked-clause-conflict t c =
    let unmet = rw c.deref.ensures.value at c.in-Some.ensures.some in
    IsConflict-from_clash c.args.packages.now c.args.root.now c.args.picks.now.items c.in-Some-picked.pick
    c.in-Some.requirement c.requires.picked
    (rw c.deref-2.ensures.value at c.in-Some-picked.ensures, unmet.0, unmet.1)

pub returns-in-Some-picked-clause-none : goal.returns-in-Some-picked-clause-none
returns-in-Some-picked-clause-none t c =
    let unmet = rw c.deref.ensures.value at c.in-Some.ensures.some in
    none_from_clash c.args.packages.now c.args.root.now c.args.picks.now.items c.in-Some-picked.pick c.in-Some.requirement.now
    (rw c.deref-2.ensures.value at c.in-Some-picked.ensures, unmet.0, unmet.1)

pub first_unmet-requires : goal.first_unmet-requires
first_unmet-requires t c =
    rw c.deref.ensures.value (NeedsAll-from_picked c.args.packages.now c.args.root.now c.args.picks.now.items c.requires.picked)

pub search-requires : goal.search-requires
search-requires t c =
    let none : get_or c.args.picks.now.items c.in-Some.requirement.now.package None ≡ None =
    sym (rw c.deref-2.ensures.value at c.picked.ensures) ∙ c.in_default-picked.is
    in
    let all = releases_of-at c.args.packages.now c.in-Some.requirement.now.package c.index-packages-package.result
    c.deref-release-items.result.now (omega arith) c.deref-release-items.ensures.value in
    let member = released c.deref-release-items.result.now c.loop-release.release-index c.release-item.result (omega arith)
    c.release-item.is in (
      fewer_free c.args.picks.now.items c.loop-release.picks.items c.in-Some.requirement.now.package _ t
          c.loop-release.invariant.same c.decreases (omega arith) none,
      (
        rw c.loop-release.invariant.same (IsPicked-more c.in-Some.requirement.now.package _ c.requires.picked (omega arith) none (rw (←
            all) member) refl
            (rw c.deref.ensures.value at c.in-Some.ensures.some.0) (sym c.if-satisfies.ensures.gate)),
        rw c.loop-release.invariant.same (one_more c.args.picks.now.items c.in-Some.requirement.now.package
            c.loop-release.release-index _ c.requires.first (rw c.deref.ensures.value at c.in-Some.ensures.some.0) refl
            (at_item (releases_of c.args.packages.now c.in-Some.requirement.now.package) c.loop-release.release-index
            c.release-item.result (rw (← all) (omega arith)) (rw (← all) c.release-item.is))
            (rw (← all) c.loop-release.invariant.tried)),
      ),
    )

pub loop-release-preserved : goal.loop-release-preserved
loop-release-preserved t c =
    let xs = c.args.picks.now.items in
    let rs = c.deref-release-items.result.now in
    let i = c.loop-release.release-index in
    let q = c.in-Some.requirement.now in
    let within : c.loop-release.release-index < length c.deref-release-items.result.now = omega arith in
    let none : get_or c.args.picks.now.items c.in-Some.requirement.now.package None ≡ None =
    sym (rw c.deref-2.ensures.value at c.picked.ensures) ∙ c.in_default-picked.is
    in
    let asked = rw c.deref.ensures.value at c.in-Some.ensures.some.0 in
    elim c.if-satisfies.branch [
      | then-satisfies+in-Err w ↦ record {
        same = rw (w.picks-is, w.in-Err.ensures.same, c.loop-release.invariant.same) (taken_back xs q.package _ none);
        tried = All-more (IsHopeless c.args.packages.now c.args.root.now xs q.package) rs i c.release-item.result within
            c.loop-release.invariant.tried
            (rw (← c.release-item.is) (λ f plan agrees e. w.in-Err.ensures.none f plan (rw c.loop-release.invariant.same
            (Agrees-with xs f q.package _ (omega arith) agrees e))));
        rejected = rw w.conflict-is tt;
        found = rw w.conflict-is w.in-Err.ensures.conflict;
      }
      | else-satisfies w ↦
          let rejected = sym w.if-satisfies.ensures.gate in
          record {
            same = rw w.picks-is c.loop-release.invariant.same;
            tried = All-more (IsHopeless c.args.packages.now c.args.root.now xs q.package) rs i c.release-item.result within
                c.loop-release.invariant.tried
                (rw (← c.release-item.is) (IsHopeless-rejected c.args.packages.now c.args.root.now xs q c.release-item.result
                asked rejected));
            rejected = rw w.conflict-is (rejected_more c.loop-release.conflict q rs i c.release-item.result within
                c.loop-release.invariant.rejected (rw (← c.release-item.is) rejected));
            found = rw w.conflict-is c.loop-release.invariant.found;
          }
    ]

-- what is known of the releases of the package once all of them were tried
tried_all : (t : ℕ) (c : goal.After-unwrap_or t) → IfNone c.if-package-packages.conflict (All (IsRejected
    c.in-Some.requirement.now) (releases_of c.args.packages.now c.in-Some.requirement.now.package))
    × IfSome c.if-package-packages.conflict (IsConflict c.args.packages.now c.args.root.now)
    × All (IsHopeless c.args.packages.now c.args.root.now c.args.picks.now.items c.in-Some.requirement.now.package)
    (releases_of c.args.packages.now c.in-Some.requirement.now.package)
tried_all t c = elim c.if-package-packages.branch [
  | then-package-packages+else-loop-release-test w ↦
      let all = releases_of-at c.args.packages.now c.in-Some.requirement.now.package w.index-packages-package.result
      w.deref-release-items.result.now w.if-package-packages.true w.deref-release-items.ensures.value in
      let end : length w.deref-release-items.result.now ≤ w.loop-release.release-index = omega arith in
      let whole = take_all w.loop-release.release-index w.deref-release-items.result.now end in (
        rw w.conflict-is (rw (← all) (rw whole at w.loop-release.invariant.rejected)),
        rw w.conflict-is w.loop-release.invariant.found,
        rw (← all) (rw whole at w.loop-release.invariant.tried),
      )
  | else-package-packages w ↦
      let past = releases_of-past c.args.packages.now c.in-Some.requirement.now.package w.if-package-packages.false in
      (rw (w.conflict-is, past) (All-nil (IsRejected c.in-Some.requirement.now)), rw w.conflict-is tt, rw past (All-nil _))
]

pub returns-clause-conflict : goal.returns-clause-conflict
returns-clause-conflict t c =
    let (rejected, found, tried) = tried_all t c in
    let asked = rw c.deref.ensures.value at c.in-Some.ensures.some.0 in
    rw c.unwrap_or.ensures
    (IsConflict-found c.args.packages.now c.args.root.now c.args.picks.now.items c.in-Some.requirement
    c.if-package-packages.conflict c.requires.picked asked rejected found)

pub returns-clause-none : goal.returns-clause-none
returns-clause-none t c =
    let asked = rw c.deref.ensures.value at c.in-Some.ensures.some.0 in
    none_from_hopeless c.args.packages.now c.args.root.now c.args.picks.now.items c.in-Some.requirement.now asked (tried_all t
    c).2
