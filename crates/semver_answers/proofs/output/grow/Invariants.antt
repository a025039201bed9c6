use Rattle.std.proofs.Common.{◌≡◌, ◌≤◌, ◌+◌, ◌-◌, length, take}
use Rattle.semver_answers.proofs.output.grow.Given as goal

abbrev pub invariant-room : goal.invariant-room
invariant-room l = (l.len ≤ length l.bytes.items) × (take l.len l.bytes.items ≡ take l.len l.initial.bytes.items)

abbrev pub decreases-room : goal.decreases-room
decreases-room l = l.len + l.count - length l.bytes.items
