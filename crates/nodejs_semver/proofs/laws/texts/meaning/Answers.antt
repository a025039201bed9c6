use Rattle.nodejs_semver.proofs.{Algebra.Holds.{denotes_hold}, Dividing.RunsDivide.{part_divides, runs_are}}
use Rattle.nodejs_semver.proofs.{Everyday.Parts.{common_ranges_are_read}, Everyday.Texts.{common_parts_are_denoted}}
use Rattle.nodejs_semver.proofs.Dividing.MeaningLaw as meaning
use Rattle.nodejs_semver.proofs.laws.texts.meaning.Goals as goal

pub returns : goal.returns
returns c = record {
  divided = part_divides;
  once = runs_are;
  one_meaning = meaning.one_meaning;
  written = meaning.written;
  intervals_hold_what_is_written = denotes_hold;
  denoted = λ limit text list h. common_parts_are_denoted limit text list h.0;
  read = common_ranges_are_read;
}
