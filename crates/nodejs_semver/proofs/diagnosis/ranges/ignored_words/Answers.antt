use Rattle.nodejs_semver.proofs.Common.{◌≡◌, arith, false, MAX_SAFE_INTEGER, cut_bars}
use Rattle.nodejs_semver.specs.Internal.Ignored.{all_ignored, left_list}
use Rattle.nodejs_semver.proofs.Diagnosing.IgnoredParts.{are_ignored, none_ignored}
use Rattle.nodejs_semver.proofs.diagnosis.ranges.ignored_words.Goals as goal

computed : (c : goal.After-before_words)
    → left_list c.before_words.result ≡ all_ignored MAX_SAFE_INTEGER 0 (cut_bars false c.args.text.now)
computed c = grind arith

pub returns-clause-words : goal.returns-clause-words
returns-clause-words c = are_ignored MAX_SAFE_INTEGER c.args.text.now (left_list c.before_words.result) c.utf8.text (computed c)

pub returns-clause-none : goal.returns-clause-none
returns-clause-none c = none_ignored MAX_SAFE_INTEGER c.args.text.now (left_list c.before_words.result) c.utf8.text (computed c)
