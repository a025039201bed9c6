use Rattle.semver_core.proofs.Dividing.BarLemmas.{bars_at-more, bars_at-nil, bars_at-stop}
use Rattle.std.proofs.Common.{arith}
use Rattle.std.proofs.lemmas.List.{drop_all, take_rest}
use Rattle.semver_pieces.proofs.bars.bars_at.Goals as goal

pub returns-then-matches : goal.returns-then-matches
returns-then-matches c = grind (arith, take_rest, bars_at-stop)

pub bytes-preserved : goal.bytes-preserved
bytes-preserved c = grind (arith, take_rest, bars_at-more)

pub returns : goal.returns
returns c = grind (arith, drop_all, bars_at-nil)
