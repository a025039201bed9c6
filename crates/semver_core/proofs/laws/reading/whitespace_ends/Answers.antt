use Rattle.semver_core.proofs.Common.{sym, ◌∙◌, trim}
use Rattle.semver_core.proofs.Text.Trims.{middle_is_trim, one_after_blank, some_after_blank, trim_is_middle}
use Rattle.semver_core.proofs.laws.reading.whitespace_ends.Goals as goal

pub returns : goal.returns
returns c = record {
  trimmed = λ text utf8. (trim text, trim_is_middle text utf8);
  only = λ text middle other t u. middle_is_trim text middle t ∙ sym (middle_is_trim text other u);
  some_place = some_after_blank;
  one_place = one_after_blank;
}
