use Rattle.std.proofs.Common.{map, rules, string_bytes}
use Rattle.semver_core.specs.Failures.{NoValue}
use Rattle.npm_semver.proofs.Answered.{no_ranges, ranges_step}
use Rattle.npm_semver.specs.Subcommands as Spec
use Rattle.npm_semver.specs.Subcommands.{AreRanges, IsRange}
use Rattle.npm_semver.proofs.subcommands.ranges.read_ranges.Goals as goal

pub loop-word-init : goal.loop-word-init
loop-word-init c = rw c.new-ranges.ensures.items Spec.none

pub loop-word-preserved : goal.loop-word-preserved
loop-word-preserved c =
    ranges_step _ _ _ _ _ _ _ _ c.loop-word-test.true c.word-item.is c.deref.ensures c.loop-word.invariant c.in_ok-range.ensures.ok c.in_ok-push.ensures

pub returns-in_err-range-clause-refused : goal.returns-in_err-range-clause-refused
returns-in_err-range-clause-refused c =
    let none : NoValue (IsRange c.deref.result.now) → NoValue (AreRanges (map string_bytes c.args.words.now)) =
    no_ranges _ _ _ _ _ c.loop-word-test.true c.word-item.is c.deref.ensures in
    search rules
