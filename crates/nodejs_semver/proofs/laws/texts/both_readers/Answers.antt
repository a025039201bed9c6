use Rattle.nodejs_semver.proofs.Common.{MAX_SAFE_INTEGER}
use Rattle.nodejs_semver.specs.Text.Common.{IsCommonRange}
use Rattle.nodejs_semver.proofs.{Everyday.Whole.{fast_read, if-some}, Dividing.MeaningLaw.{blank_text}}
use Rattle.nodejs_semver.proofs.Everyday.Texts.{common_parts_are_denoted}
use Rattle.nodejs_semver.proofs.laws.texts.both_readers.Goals as goal

pub range_loose-requires : goal.range_loose-requires
range_loose-requires c = record {
  some_part = λ blank. cc (
    (blank_text c.args.text.now c.utf8.text).1 blank,
    (common_parts_are_denoted MAX_SAFE_INTEGER c.args.text.now c.in-Some.fast
        (if-some (IsCommonRange MAX_SAFE_INTEGER c.args.text.now) _ _ c.in-Some.is c.in_ok-fast.ensures.some).0).2,
  );
}

pub returns-clause-same : goal.returns-clause-same
returns-clause-same c =
    fast_read MAX_SAFE_INTEGER c.args.text.now c.in-Some.fast c.in_ok-loose.loose c.utf8.text
    (if-some (IsCommonRange MAX_SAFE_INTEGER c.args.text.now) _ _ c.in-Some.is c.in_ok-fast.ensures.some).0
    c.in_ok-loose.ensures.some c.in_ok-loose.ensures.none
