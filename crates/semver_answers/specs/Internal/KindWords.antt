-- For proofs. The commands by what they ask.
use Rattle.std.specs.Prelude.{ℕ, List, codes, ⊤}
use Rattle.semver_answers.specs.declared.question.AboutBest.{AboutBest}
use Rattle.semver_answers.specs.declared.question.AboutBest.TheVariants.{Max, Min}
use Rattle.semver_answers.specs.declared.question.AboutMatch.{AboutMatch}
use Rattle.semver_answers.specs.declared.question.AboutMatch.TheVariants.{Sat, Pre, Out}
use Rattle.semver_answers.specs.declared.question.AboutRange.{AboutRange}
use Rattle.semver_answers.specs.declared.question.AboutRange.TheVariants.{Print, Least}
use Rattle.semver_answers.specs.declared.question.AboutRanges.{AboutRanges}
use Rattle.semver_answers.specs.declared.question.AboutRanges.TheVariants.{And, Minus, Beyond}
use Rattle.semver_answers.specs.declared.question.AboutVersions.{AboutVersions}
use Rattle.semver_answers.specs.declared.question.AboutVersions.TheVariants.{Cmp, Diff}

-- the word of the command that asks this about two versions, a range, two ranges, a range and a
-- version, or a range and some versions
abbrev pub versions_word : AboutVersions → List ℕ
versions_word Cmp = codes "cmp"
versions_word Diff = codes "diff"

abbrev pub range_word : AboutRange → List ℕ
range_word Print = codes "range"
range_word Least = codes "least"

abbrev pub ranges_word : AboutRanges → List ℕ
ranges_word And = codes "and"
ranges_word Minus = codes "minus"
ranges_word Beyond = codes "beyond"

abbrev pub best_word : AboutBest → List ℕ
best_word Max = codes "max"
best_word Min = codes "min"

abbrev pub match_word : AboutMatch → List ℕ
match_word Sat = codes "sat"
match_word Pre = codes "pre"
match_word (Out side) = codes "out"

-- its line has no field behind the version
abbrev pub IsTwo : AboutMatch → Type 0
IsTwo (Out side) = ⊥
IsTwo asked = ⊤
