use Rattle.nodejs_semver.proofs.{Dividing.MeaningLaw.words-law, Reading.{PartialLaw.{longest_are, partials_are}, WordLaw.words_are}}
use Rattle.semver_core.proofs.{Dividing.BarsDivide.{bars_divide, bars_once}, Reading.Numbers.numbers_are}
use Rattle.nodejs_semver.proofs.laws.texts.grammar.Goals as goal

pub returns : goal.returns
returns c = record {
  divided = bars_divide;
  once = bars_once;
  numbers = numbers_are;
  partials = partials_are;
  longest_partials = longest_are;
  words_at = words_are;
  words = words-law;
}
