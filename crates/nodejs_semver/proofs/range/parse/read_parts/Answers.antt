use Rattle.nodejs_semver.proofs.Common.{MAX_SAFE_INTEGER, Some, arith, ◌≡◌}
use Rattle.nodejs_semver.proofs.Everyday.Parts.{front-taken}
use Rattle.nodejs_semver.specs.Internal.CommonFronts.{common_fronts}
use Rattle.nodejs_semver.proofs.range.parse.read_parts.Given as Given
use Rattle.nodejs_semver.proofs.range.parse.read_parts.Goals as goal

found : (g : Given.Over) (c : goal.In-Ok-Some g) → common_fronts MAX_SAFE_INTEGER c.args.text.now ≡ Some (c.read_front.new.found.items, c.in-Ok-Some.rest.now)
found g c = grind arith

pub overflow_sub-result : goal.overflow_sub-result
overflow_sub-result g c =
    (front-taken MAX_SAFE_INTEGER c.args.text.now c.read_front.new.found.items c.in-Ok-Some.rest.now (found g c)).0

pub returns-in-Ok-Some-clause-some : goal.returns-in-Ok-Some-clause-some
returns-in-Ok-Some-clause-some g c =
    (front-taken MAX_SAFE_INTEGER c.args.text.now c.read_front.new.found.items c.in-Ok-Some.rest.now (found g c)).1
