use Rattle.semver_core.proofs.Common.{drop, length, ◌≡◌}
use Rattle.semver_core.proofs.Text.Trims.{Shortened}
use Rattle.semver_core.proofs.scan.trim_both.Given as goal

abbrev pub invariant-spaces : goal.invariant-spaces
invariant-spaces l = record { shortened : Shortened (drop l.start l.fn.text) l.rest; left : l.before.rest.now ≡ l.rest }

abbrev pub decreases-spaces : goal.decreases-spaces
decreases-spaces l = length l.rest
