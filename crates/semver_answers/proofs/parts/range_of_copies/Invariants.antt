use Rattle.std.proofs.Common.{◌≡◌, take}
use Rattle.semver_answers.proofs.parts.range_of_copies.Given as goal

abbrev pub invariant-loop-interval : goal.invariant-loop-interval
invariant-loop-interval l = l.copies.items ≡ take l.interval-index l.some
