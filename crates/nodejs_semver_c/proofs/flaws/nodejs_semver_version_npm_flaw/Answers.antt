use Rattle.std.proofs.Common.{inl}
use Rattle.nodejs_semver_c.proofs.flaws.nodejs_semver_version_npm_flaw.Goals as goal

pub returns-in-Ok : goal.returns-in-Ok
returns-in-Ok c = inl (c.in-Ok.ensures.ok.1, rw c.in-Ok.ensures.ok.0 at c.tell_flaw.ensures)
