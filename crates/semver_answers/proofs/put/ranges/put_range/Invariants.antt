use Rattle.std.proofs.Common.{◌≡◌, ◌++◌, codes, drop}
use Rattle.std.specs.List.{flat_map}
use Rattle.nodejs_semver.specs.Printing.Text.{bounds_text}
use Rattle.semver_answers.specs.Internal.Puts.{Extends}
use Rattle.semver_answers.proofs.put.ranges.put_range.Given as goal

-- what is put so far, and what the others add, is the whole
abbrev pub invariant-loop-interval : goal.invariant-loop-interval
invariant-loop-interval l = Extends l.initial.output l.output × (
    l.output ++ flat_map (λ s. codes "||" ++ bounds_text s.lower s.upper) (drop l.interval-index l.others)
    ≡ l.initial.output ++ flat_map (λ s. codes "||" ++ bounds_text s.lower s.upper) l.others)
