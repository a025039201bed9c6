use Rattle.std.proofs.Common.{◌≡◌, ◌≤◌, ◌-◌, false, length, take}
use Rattle.memchr.specs.Find.{is_byte2}
use Rattle.std.specs.List.{list_any}
use Rattle.semver_answers.proofs.fields.cut_word.Given as goal

abbrev pub invariant-bytes : goal.invariant-bytes
invariant-bytes l = (l.end ≤ length l.text) × (list_any (is_byte2 59 10) (take l.end l.text) ≡ false)

abbrev pub decreases-bytes : goal.decreases-bytes
decreases-bytes l = length l.text - l.end
