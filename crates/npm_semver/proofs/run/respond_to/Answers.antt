use Rattle.npm_semver.specs.Responses.Responds.{refused}
use Rattle.npm_semver.proofs.run.respond_to.Goals as goal

pub returns-in-Some : goal.returns-in-Some
returns-in-Some c = rw c.nothing.ensures (refused _ _ (c.in-Some.ensures.some c.requires))
