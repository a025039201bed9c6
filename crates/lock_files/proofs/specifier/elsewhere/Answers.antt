use Rattle.lock_files.specs.Specifiers.IsPlace.{by_path}
use Rattle.lock_files.proofs.specifier.elsewhere.Goals as goal

pub returns-in-Some : goal.returns-in-Some
returns-in-Some c = by_path c.in-Some.path.now c.in-Some.ensures c.at_path.ensures
