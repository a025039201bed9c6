use Rattle.lock_files.proofs.Exact.{one_specifier}
use Rattle.lock_files.proofs.specifier.one_specifier.Goals as goal

pub returns : goal.returns
returns c = one_specifier
