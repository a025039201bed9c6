use Rattle.std.proofs.Common.{◌≡◌, ◌++◌, filter, string_bytes, take}
use Rattle.lock_check.proofs.Counted.{is_none, opened}
use Rattle.lock_check.specs.Summary.{is_counted, named_skips}
use Rattle.lock_check.proofs.finding.Skips.write.Given as goal

abbrev pub invariant-loop-skip : goal.invariant-loop-skip
invariant-loop-skip l =
    let told = filter is_counted (take l.skip-index (named_skips l.self)) in
    (string_bytes l.output ≡ string_bytes l.initial.output ++ opened told) × (l.is_first ≡ is_none told)
