-- Statement. The questions of the lines: the fields that ask each one, and what it is answered.
use Rattle.std.specs.Prelude.{◌≡◌, ◌<◌, ℕ, Bool, List, [], ◌∷◌, codes, IfSome, Some, None, true, false, ⊤}
use Rattle.semver_core.specs.Cuts.{Span}
use Rattle.semver_core.specs.Difference.{kind_between, kind_word}
use Rattle.semver_core.specs.Increments.Table.{answer_of_inc}
use Rattle.semver_core.specs.Printing.Text.{version_text}
use Rattle.semver_core.specs.Values.Order.{precedence}
use Rattle.semver_core.specs.Values.Versions.{VersionValue}
use Rattle.semver_core.specs.declared.increment.IdentifierBase.TheVariants.{Value}
use Rattle.nodejs_semver.specs.Ranges.Gate.{accepts}
use Rattle.nodejs_semver.specs.Ranges.Best.{IsMax, IsMin}
use Rattle.nodejs_semver.specs.Ranges.Least.{IsLeastOf, beyond, least_build}
use Rattle.nodejs_semver.specs.Ranges.Algebra.{difference, intersection}
use Rattle.nodejs_semver.specs.Ranges.Outside.{direction_char, is_outside}
use Rattle.nodejs_semver.specs.Printing.Text.{range_text}
use Rattle.semver_answers.specs.Lines.{fields}
use Rattle.semver_answers.specs.Names.{base_word, next_text, or_none, order_word, truth_word}
use Rattle.semver_answers.specs.Replies.{AreVersionsOf, IsVersionOf, IsRangeOf, On, Says, SaysFound}
use Rattle.semver_answers.specs.declared.question.AboutBest.{AboutBest}
use Rattle.semver_answers.specs.declared.question.AboutBest.TheVariants.{Max, Min}
use Rattle.semver_answers.specs.declared.question.AboutMatch.{AboutMatch}
use Rattle.semver_answers.specs.declared.question.AboutMatch.TheVariants.{Sat, Pre, Out}
use Rattle.semver_answers.specs.declared.question.AboutRange.{AboutRange}
use Rattle.semver_answers.specs.declared.question.AboutRange.TheVariants.{Print, Least}
use Rattle.semver_answers.specs.declared.question.AboutRanges.{AboutRanges}
use Rattle.semver_answers.specs.declared.question.AboutRanges.TheVariants.{And, Minus, Beyond}
use Rattle.semver_answers.specs.declared.question.AboutVersion.{AboutVersion}
use Rattle.semver_answers.specs.declared.question.AboutVersion.TheVariants.{Ver, Inc, IncWith, IncFrom}
use Rattle.semver_answers.specs.declared.question.AboutVersions.{AboutVersions}
use Rattle.semver_answers.specs.declared.question.AboutVersions.TheVariants.{Cmp, Diff}

-- a question about the texts of fields: about a version, two versions, a range, two ranges, a range
-- and a version, or a range and some versions, which are the fields of the second text
pub data Question : Type 0 where
  Version : List ℕ → AboutVersion → Question
  Versions : List ℕ × List ℕ → AboutVersions → Question
  Range : List ℕ → AboutRange → Question
  Ranges : List ℕ × List ℕ → AboutRanges → Question
  Match : List ℕ × List ℕ → AboutMatch → Question
  Best : List ℕ × List ℕ → AboutBest → Question

-- the fields of the line that asks a question
abbrev pub line_of : Question → List (List ℕ)
line_of (Version v Ver) = codes "ver" ∷ v ∷ []
line_of (Version v (Inc word)) = codes "inc" ∷ v ∷ word.now ∷ []
line_of (Version v (IncWith word id)) = codes "inc" ∷ v ∷ word.now ∷ id.now ∷ []
line_of (Version v (IncFrom word id base)) = codes "inc" ∷ v ∷ word.now ∷ id.now ∷ base_word base ∷ []
line_of (Versions (v, w) Cmp) = codes "cmp" ∷ v ∷ w ∷ []
line_of (Versions (v, w) Diff) = codes "diff" ∷ v ∷ w ∷ []
line_of (Range r Print) = codes "range" ∷ r ∷ []
line_of (Range r Least) = codes "least" ∷ r ∷ []
line_of (Ranges (r, s) And) = codes "and" ∷ r ∷ s ∷ []
line_of (Ranges (r, s) Minus) = codes "minus" ∷ r ∷ s ∷ []
line_of (Ranges (r, s) Beyond) = codes "beyond" ∷ r ∷ s ∷ []
line_of (Match (r, v) Sat) = codes "sat" ∷ r ∷ v ∷ []
line_of (Match (r, v) Pre) = codes "pre" ∷ r ∷ v ∷ []
line_of (Match (r, v) (Out side)) = codes "out" ∷ r ∷ v ∷ (direction_char side ∷ []) ∷ []
line_of (Best (r, vs) Max) = codes "max" ∷ r ∷ fields vs
line_of (Best (r, vs) Min) = codes "min" ∷ r ∷ fields vs

-- a base is `false`, 0 or 1
abbrev pub HasBase : Question → Type 0
HasBase (Version v (IncFrom word id (Value n))) = n < 2
HasBase question = ⊤

-- a line with these fields asks this question
abbrev pub Asks : List (List ℕ) → Question → Type 0
Asks line question = (line ≡ line_of question) × HasBase question

-- the reply about a version, about two, about a range, about two, about a range and a version,
-- about a range and some versions
abbrev pub version_reply : AboutVersion → VersionValue → List ℕ
version_reply Ver v = version_text v
version_reply (Inc word) v = next_text (answer_of_inc v word.now None None)
version_reply (IncWith word id) v = next_text (answer_of_inc v word.now (Some id.now) None)
version_reply (IncFrom word id base) v = next_text (answer_of_inc v word.now (Some id.now) (Some base))

abbrev pub versions_reply : AboutVersions → VersionValue → VersionValue → List ℕ
versions_reply Cmp v w = order_word (precedence v w)
versions_reply Diff v w = or_none kind_word (kind_between v w)

abbrev pub RangeReply : AboutRange → List (Span VersionValue) → List ℕ → Type 0
RangeReply Print r = Says (range_text r)
RangeReply Least r = SaysFound (λ found. IsLeastOf (λ v. accepts r v false) found
    × IfSome found (λ v. v.build ≡ least_build r v))

abbrev pub RangesReply : AboutRanges → List (Span VersionValue) → List (Span VersionValue) → List ℕ → Type 0
RangesReply And r s = Says (or_none range_text (intersection r s))
RangesReply Minus r s = Says (or_none range_text (difference r s))
RangesReply Beyond r s = SaysFound (λ found. IsLeastOf (beyond r s) found × IfSome found (λ v. v.build ≡ []))

abbrev pub matches : AboutMatch → List (Span VersionValue) → VersionValue → Bool
matches a r v = elim a [ Sat ↦ accepts r v false | Pre ↦ accepts r v true | Out d ↦ is_outside d false r v ]

abbrev pub BestReply : AboutBest → List (Span VersionValue) → List VersionValue → List ℕ → Type 0
BestReply Max r vs = SaysFound (IsMax (λ v. accepts r v false) vs)
BestReply Min r vs = SaysFound (IsMin (λ v. accepts r v false) vs)

-- the answer to each question
abbrev pub IsReply : Question → List ℕ → Type 0
IsReply (Version v asked) = On (IsVersionOf v) (λ v. Says (version_reply asked v))
IsReply (Versions (v, w) a) = On (IsVersionOf v) (λ v. On (IsVersionOf w) (λ w. Says (versions_reply a v w)))
IsReply (Range r asked) = On (IsRangeOf r) (RangeReply asked)
IsReply (Ranges (r, s) asked) = On (IsRangeOf r) (λ r. On (IsRangeOf s) (RangesReply asked r))
IsReply (Match (r, v) a) = On (IsRangeOf r) (λ r. On (IsVersionOf v) (λ v. Says (truth_word (matches a r v))))
IsReply (Best (r, vs) asked) = On (IsRangeOf r) (λ r. On (AreVersionsOf (fields vs)) (BestReply asked r))
