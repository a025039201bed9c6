use Rattle.std.proofs.Common.{◌≡◌, ◌∙◌, ap, arith, false, not, rules, sym, true}
use Rattle.lock_files.proofs.Parts.{cut_at, has-from_contains, uncut}
use Rattle.lock_files.proofs.Patterns.{fit-first, fit-last, fit-longer, fit-more, fit-one, fit-shorter}
use Rattle.lock_files.specs.Specifiers.{has}
use Rattle.lock_files.proofs.workspaces.are_fitting.Goals as goal

pub returns-in_default-split_once : goal.returns-in_default-split_once
returns-in_default-split_once c =
    let pattern = c.loop-part.pattern.now in
    let folder = c.loop-part.folder.now in
    let cut = cut_at 47 pattern c.in-Some.part.now c.in-Some.more.now (omega arith) c.in-Some.ensures.cases in
    let none = uncut 47 folder (omega arith) c.in_default-split_once.ensures.cases in (
      λ is. absurd (cc),
      λ fit. absurd (fit-longer pattern folder c.in-Some.part.now c.in-Some.more.now cut none (c.loop-part.invariant.1.1.1 fit)),
    )

pub returns-then-not-is_fitting : goal.returns-then-not-is_fitting
returns-then-not-is_fitting c =
    let pattern = c.loop-part.pattern.now in
    let folder = c.loop-part.folder.now in
    let part = c.in-Some.part.now in
    let own = c.in-Some-split_once.own.now in
    let cut = cut_at 47 pattern part c.in-Some.more.now (omega arith) c.in-Some.ensures.cases in
    let also = cut_at 47 folder own c.in-Some-split_once.below.now (omega arith) c.in-Some-split_once.ensures.cases in (
      λ is. absurd (cc),
      λ fit.
          let first = fit-first pattern folder part c.in-Some.more.now cut own c.in-Some-split_once.below.now also
          (c.loop-part.invariant.1.1.1 fit) in
          let is = c.is_fitting.ensures.1 first.0 in
          absurd (cc),
    )

pub loop-part-preserved : goal.loop-part-preserved
loop-part-preserved c =
    let pattern = c.loop-part.pattern.now in
    let folder = c.loop-part.folder.now in
    let part = c.in-Some.part.now in
    let more = c.in-Some.more.now in
    let own = c.in-Some-split_once.own.now in
    let below = c.in-Some-split_once.below.now in
    let cut = cut_at 47 pattern part more (omega arith) c.in-Some.ensures.cases in
    let also = cut_at 47 folder own below (omega arith) c.in-Some-split_once.ensures.cases in
    let same = c.loop-part.invariant.1.1 in (
      search rules,
      (
        search rules,
        (
          λ rest. same.0 (fit-more pattern folder part more cut own below also (c.is_fitting.ensures.0 c.if-not-is_fitting.false) rest),
          λ fit. (fit-first pattern folder part more cut own below also (same.1 fit)).1,
        ),
      ),
    )

pub returns-then-not-contains : goal.returns-then-not-contains
returns-then-not-contains c =
    let pattern = c.loop-part.pattern.now in
    let folder = c.loop-part.folder.now in
    let none = uncut 47 pattern (omega arith) c.in_default.ensures.cases in
    let also : has 47 folder ≡ false =
    sym (has-from_contains 47 folder c.contains.result (omega arith) c.contains.ensures.cases) ∙ c.if-not-contains.true in
    let same = c.loop-part.invariant.1.1 in (
      λ is. same.0 (fit-one pattern folder none also (c.is_fitting-then-not-contains.ensures.0 is)),
      λ fit. c.is_fitting-then-not-contains.ensures.1 (fit-last pattern folder none also (same.1 fit)),
    )

pub returns-else-not-contains : goal.returns-else-not-contains
returns-else-not-contains c =
    let pattern = c.loop-part.pattern.now in
    let folder = c.loop-part.folder.now in
    let none = uncut 47 pattern (omega arith) c.in_default.ensures.cases in
    let some : has 47 folder ≡ true =
    sym (has-from_contains 47 folder c.contains.result (omega arith) c.contains.ensures.cases) ∙ c.if-not-contains.false in (
      λ is. let no = ap not c.if-not-contains.false in absurd (cc),
      λ fit. absurd (fit-shorter pattern folder none some (c.loop-part.invariant.1.1.1 fit)),
    )
