-- For proofs and private contracts. The ignored words of a range text, computed.
use Rattle.std.specs.Prelude.{ℕ, zero, suc, ◌+◌, ◌-◌, false, List, [], ◌∷◌, ◌++◌, Option, Some, None, length}
use Rattle.std.specs.Prelude.{Result}
use Rattle.std.specs.Borrow.{Bor}
use Rattle.semver_core.specs.Internal.Spaces.{drop_spaces, trim}
use Rattle.semver_core.specs.declared.TheConstants.{MAX_SAFE_INTEGER}
use Rattle.nodejs_semver.specs.Diagnosis.IgnoredWords.{if_ignored, ignored_as}
use Rattle.semver_core.specs.Internal.Parts.{left_over, cut_bars}
use Rattle.semver_core.specs.Internal.Views.{rest_view}
use Rattle.nodejs_semver.specs.Internal.Words.{word_at}
use Rattle.nodejs_semver.specs.Text.Table.{table}
use Rattle.semver_core.specs.Cuts.{Span}
use Rattle.semver_core.specs.Values.Versions.{VersionValue}
use Rattle.std.specs.Result.{result_err, result_ok}
use Rattle.nodejs_semver.specs.declared.diagnosis.unread.Unread.{Unread}
use Rattle.nodejs_semver.specs.declared.diagnosis.ranges.IgnoredKind.{IgnoredKind}
use Rattle.nodejs_semver.specs.declared.diagnosis.ranges.IgnoredWord.{IgnoredWord}

-- why the word at the front is ignored, if it is, and what follows it
abbrev pub kind_at : ℕ → List ℕ → Option IgnoredKind × List ℕ
kind_at limit text = (ignored_as limit (word_at limit text).0, (word_at limit text).1)

-- the interval of the word at the front or why the word is ignored, and what follows it
abbrev pub read_at : ℕ → List ℕ → (Option (Span VersionValue) × Option IgnoredKind) × List ℕ
read_at limit text = ((table limit (word_at limit text).0, ignored_as limit (word_at limit text).0), (word_at limit text).1)

abbrev pub word_view : Result (Span VersionValue) IgnoredKind × Bor (List ℕ) → (Option (Span VersionValue) × Option IgnoredKind) × List ℕ
word_view read = ((result_ok read.0, result_err read.0), read.1.now)

-- the ignored words of a part that ends at a place, which has at most so many words
unfoldable pub ignored_within : ℕ → ℕ → ℕ → List ℕ → List IgnoredWord
ignored_within limit place zero text = []
ignored_within limit place (suc n) [] = []
ignored_within limit place (suc n) (b ∷ text) =
    let read = kind_at limit (b ∷ text) in
    if_ignored read.0 (place - length (b ∷ text)) (place - length read.1) ++ ignored_within limit place n (drop_spaces read.1)

abbrev pub ignored_of : ℕ → ℕ → List ℕ → List IgnoredWord
ignored_of limit place part = ignored_within limit place (length part) part

-- where the part of a piece ends that begins at a place
abbrev pub part_end : ℕ → List ℕ → ℕ
part_end place piece = place + (length piece - length (drop_spaces piece)) + length (trim piece)

-- the ignored words of pieces of which the first begins at a place
unfoldable pub all_ignored : ℕ → ℕ → List (List ℕ) → List IgnoredWord
all_ignored limit place [] = []
all_ignored limit place (piece ∷ pieces) =
    ignored_of limit (part_end place piece) (trim piece) ++ all_ignored limit (place + length piece + 2) pieces

-- those of a text that ends at a place and may be absent
abbrev pub ignored_behind : ℕ → ℕ → Option (List ℕ) → List IgnoredWord
ignored_behind limit place None = []
ignored_behind limit place (Some text) = all_ignored limit (place - length text) (cut_bars false text)

-- those of what is left, and its size
abbrev pub left_list : Unread → List IgnoredWord
left_list l = ignored_of MAX_SAFE_INTEGER l.part_end l.part.now ++ ignored_behind MAX_SAFE_INTEGER l.end (rest_view l.behind)

abbrev pub left_size : Unread → ℕ
left_size l = length l.part.now + left_over (rest_view l.behind)

abbrev pub option_list : Option IgnoredWord → List IgnoredWord
option_list None = []
option_list (Some word) = word ∷ []
