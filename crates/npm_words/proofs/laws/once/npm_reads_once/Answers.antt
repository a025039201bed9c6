use Rattle.npm_words.proofs.{Common.{false, true}, Grammar.Printed.reread, VersionTexts.{Coerced.{coerced-once, settled}, Versions.version_once}}
use Rattle.npm_words.proofs.Grammar.AlternativeLaw as law
use Rattle.npm_words.proofs.laws.once.npm_reads_once.Goals as goal

pub returns : goal.returns
returns c = record {
  version = version_once;
  printed = reread;
  alternatives = law.alternatives_once;
  leftmost = λ included loose text v w. coerced-once included loose _ text v w (settled false);
  rightmost = λ included loose text v w. coerced-once included loose _ text v w (settled true);
}
