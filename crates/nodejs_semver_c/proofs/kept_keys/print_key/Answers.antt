use Rattle.std.proofs.Common.{inl}
use Rattle.nodejs_semver_c.proofs.kept_keys.print_key.Goals as goal

pub returns-in-Ok : goal.returns-in-Ok
returns-in-Ok c = inl (rw c.in-Ok.ensures at c.print.ensures)
