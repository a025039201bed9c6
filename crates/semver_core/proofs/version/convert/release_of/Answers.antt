use Rattle.semver_core.proofs.{Common.{None, rules, ◌≡◌, ◌⊎◌}, Values.Naturals.{from_natural, one_negative}}
use Rattle.semver_core.proofs.version.convert.release_of.Goals as goal

pub returns-in_default : goal.returns-in_default
returns-in_default c =
    let none : (from_natural c.args.major ≡ None) ⊎ (from_natural c.args.minor ≡ None) ⊎ (from_natural c.args.patch ≡ None) =
    search rules in
    one_negative c.args.major c.args.minor c.args.patch none
