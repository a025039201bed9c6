-- What is computed of the ignored words of a text, part by part, is what the statement says of them.
use Rattle.nodejs_semver.proofs.Common.{AllByRecursion, Bool, IsTrim, IsUtf8, List, MAX_SAFE_INTEGER, None, Option, Partial, Result, Sign, Some, Span}
use Rattle.nodejs_semver.proofs.Common.{VersionValue, Word, [], ap, append_assoc, arith, common_steps, cut_bars, drop_end_spaces}
use Rattle.nodejs_semver.proofs.Common.{drop_spaces, drop_spaces-blank, empty_is, encode_utf8_all, encodes-append, false, if◌then◌else◌, inl, inr}
use Rattle.nodejs_semver.proofs.Common.{is_empty, is_some, length, length-append, length-drop, length-take-le, list_all, malformed, middle_is_trim}
use Rattle.nodejs_semver.proofs.Common.{nat_tests, refl, rest_view, space_len, suc, table, trim, trim_is_middle, true, word_at, words}
use Rattle.nodejs_semver.proofs.{Common.{words_within, zero, ℕ, ◌++◌, ◌+◌, ◌-◌, ◌<◌, ◌↔◌, ◌∷◌, ◌≡◌, ◌≤◌, ◌⊎◌}, Dividing.MeaningLaw.words-law}
use Rattle.nodejs_semver.{proofs.Reading.{PartialLaw.word-shorter, WordLaw.{word-utf8, words_are}}, specs.Diagnosis.IgnoredWords.AreAllIgnored}
use Rattle.nodejs_semver.specs.Diagnosis.IgnoredWords.{AreIgnored, AreIgnoredOf, IsWhollyBounded, if_ignored, ignored_as, next_piece, next_word}
use Rattle.nodejs_semver.specs.{Diagnosis.IgnoredWords.{no_piece, no_word}, Internal.Ignored.{all_ignored, ignored_behind, ignored_of}}
use Rattle.nodejs_semver.specs.Internal.Ignored.{ignored_within, kind_at, left_list, option_list, part_end, read_at}
use Rattle.nodejs_semver.specs.{Internal.Words.signed_word, Text.Meaning.HasWords}
use Rattle.nodejs_semver.specs.declared.diagnosis.ranges.{IgnoredKind.{IgnoredKind, TheVariants.{Malformed, WithoutBounds}}, IgnoredWord.IgnoredWord}
use Rattle.{nodejs_semver.specs.declared.diagnosis.unread.Unread.Unread, semver_core.proofs.Dividing.BarLemmas.{bars_room, cut_bars-front}}
use Rattle.semver_core.proofs.{Dividing.BarsDivide.{bars_divide, bars_once, pieces-utf8}, Reading.Boundaries.{skips-is, skips-utf8, spaces-gone}}
use Rattle.semver_core.proofs.{Reading.{Boundaries.{spaces-le, trim-utf8}, Bytes.trim-starts}, Text.Trims.drop_spaces-dark}
use Rattle.{semver_core.specs.Internal.Parts.{front_part, left_over}, std.specs.{Option.ok_or, Result.{result_err, result_ok}}}

abbrev Kind : Type 0
Kind = Option IgnoredKind × List ℕ

abbrev Read : Type 0
Read = (Option (Span VersionValue) × Option IgnoredKind) × List ℕ

-- the word at the front is malformed
pub read-malformed : (limit : ℕ) (text rest behind : List ℕ) → word_at limit text ≡ (malformed, behind) → rest ≡ behind
    → ◌≡◌ {A = Read} ((None, Some Malformed), rest) (read_at limit text)
unfolding table
read-malformed limit text rest behind e h = rw (e, h) refl

abbrev unless : Option (Span VersionValue) → Option IgnoredKind
unless o = if is_some o then None else Some WithoutBounds

-- it has a form, so that the table decides
pub read-formed : (limit : ℕ) (text rest : List ℕ) (w : Word) (o : Option (Span VersionValue)) (r : Result (Span VersionValue) IgnoredKind)
    → ignored_as limit w ≡ unless (table limit w) → word_at limit text ≡ (w, rest) → o ≡ table limit w → r ≡ ok_or o WithoutBounds
    → ◌≡◌ {A = Read} ((result_ok r, result_err r), rest) (read_at limit text)
read-formed limit text rest w o r kind e h k = rw (e, kind, ← h, k) (grind arith)

pub signed-formed : (limit : ℕ) (s : Sign) (p : Partial) → ignored_as limit (signed_word s p) ≡ unless (table limit (signed_word s p))
signed-formed limit s p = grind arith

-- ---- the words of a part

-- how many words are allowed for does not matter, where there is room for each byte
ignored_enough : (limit place n m : ℕ) (text : List ℕ) → space_len text ≡ 0 → length text ≤ n → length text ≤ m
    → ignored_within limit place n text ≡ ignored_within limit place m text
unfolding ignored_within
ignored_enough limit place zero zero text h a b = refl
ignored_enough limit place zero (suc m) (c ∷ text) h a b = absurd (omega arith)
ignored_enough limit place (suc n) zero (c ∷ text) h a b = absurd (omega arith)
ignored_enough limit place (suc n) (suc m) (c ∷ text) h a b =
    grind (arith, word-shorter, spaces-le, spaces-gone, ignored_enough limit place n m (drop_spaces (kind_at limit (c ∷ text)).1))
ignored_enough limit place n m text h a b = refl

pub ignored_step : (limit place : ℕ) (text : List ℕ) → 0 < length text → space_len text ≡ 0 → ignored_of limit place text
    ≡ if_ignored (kind_at limit text).0 (place - length text) (place - length (kind_at limit text).1)
    ++ ignored_of limit place (drop_spaces (kind_at limit text).1)
unfolding ignored_within
ignored_step limit place text some h = grind (arith, word-shorter, spaces-le, ignored_enough, spaces-gone)

pub ignored_nil : (limit place : ℕ) (text : List ℕ) → length text ≡ 0 → ignored_of limit place text ≡ []
unfolding ignored_within
ignored_nil limit place text h = grind arith

behind-shorter : (limit : ℕ) (text : List ℕ) → 0 < length text → space_len text ≡ 0 → length (kind_at limit text).1 < length text
behind-shorter limit [] some h = absurd (omega arith)
behind-shorter limit (b ∷ rest) some h = word-shorter limit b rest h

-- the part has ended
pub part_over : (l : Unread) (o : Option (List ℕ)) → length l.part.now ≡ 0 → rest_view l.behind ≡ o
    → left_list l ≡ ignored_behind MAX_SAFE_INTEGER l.end o
part_over l o none e = grind (arith, ignored_nil)

-- of the word that was read
pub kind-of : (limit : ℕ) (text : List ℕ) (read : Read) → read ≡ read_at limit text
    → ◌≡◌ {A = Kind} (read.0.1, read.1) (kind_at limit text)
kind-of limit text read e = ap (λ (r : Read). (r.0.1, r.1)) e

-- one word was read
pub word_read : (limit place : ℕ) (part rest next : List ℕ) (kind : Option IgnoredKind) (word : Option IgnoredWord)
    (others : List IgnoredWord)
    → 0 < length part → space_len part ≡ 0 → ◌≡◌ {A = Kind} (kind, rest) (kind_at limit part) → next ≡ drop_spaces rest
    → option_list word ≡ if_ignored kind (place - length part) (place - length rest)
    → ignored_of limit place part ++ others ≡ option_list word ++ (ignored_of limit place next ++ others)
word_read limit place part rest next kind word others some h e n w = grind (arith, ignored_step, append_assoc)

pub rest-sizes : (limit : ℕ) (part rest next : List ℕ) (kind : Option IgnoredKind) → 0 < length part → space_len part ≡ 0
    → ◌≡◌ {A = Kind} (kind, rest) (kind_at limit part) → next ≡ drop_spaces rest → (length rest < length part)
    × (length next ≤ length rest) × (space_len next ≡ 0)
rest-sizes limit part rest next kind some h e n = grind (arith, behind-shorter, spaces-le, spaces-gone)

-- ---- the parts of a text

-- the front part and the text behind it fill the text
pub record Sizes (text : List ℕ) (cut : List ℕ × Option (List ℕ)) : Type 0 where
  pub front : length cut.0 ≤ length text
  pub both : length cut.0 + left_over cut.1 ≤ length text
  pub behind : (t : List ℕ) → cut.1 ≡ Some t → length cut.0 + 2 + length t ≡ length text

trim-le : (text : List ℕ) → length (drop_end_spaces text) ≤ length text
unfolding drop_end_spaces
trim-le [] = omega arith
trim-le (b ∷ rest) = grind (arith, trim-le rest)

pub part_ends : (place start : ℕ) (piece part : List ℕ) → start ≡ length piece - length (drop_spaces piece) → part ≡ trim piece
    → place + start + length part ≡ part_end place piece
part_ends place start piece part h e = grind (arith, nat_tests, common_steps)

pub part_fits : (piece : List ℕ) (place : ℕ) → part_end place piece ≤ place + length piece
part_fits piece place = omega (arith, trim-le (drop_spaces piece), spaces-le piece)

pub sizes_of : (text : List ℕ) (cut : List ℕ × Option (List ℕ)) → cut ≡ front_part text → Sizes text cut
sizes_of text cut e = grind (arith, bars_room, length-take-le, length-drop)

-- those of a text are those of the part at its front and of the text behind
pub all_step : (limit end : ℕ) (text : List ℕ) (cut : List ℕ × Option (List ℕ)) → cut ≡ front_part text → length text ≤ end
    → ignored_behind limit end (Some text)
    ≡ ignored_of limit (part_end (end - length text) cut.0) (trim cut.0) ++ ignored_behind limit end cut.1
unfolding all_ignored
all_step limit end text cut e le = grind (arith, cut_bars-front, sizes_of)

-- ---- what is computed of the ignored words of a text is what the statement says of them

-- each word of what stands between bars has bounds
abbrev IsBounded : ℕ → List ℕ → Type 0
IsBounded limit p = (ws : List Word) × HasWords limit p ws × (list_all (λ w. is_some (table limit w)) ws ≡ true)

-- ---- they are the ignored words

ignored-read : (limit place n : ℕ) (text : List ℕ) → IsUtf8 text → space_len text ≡ 0 → length text ≤ n
    → AreIgnoredOf limit place text (ignored_of limit place text)
ignored-read limit place n [] u h l = rw (ignored_nil limit place [] refl) no_word
ignored-read limit place zero (b ∷ rest) u h l = absurd (omega arith)
ignored-read limit place (suc n) (b ∷ rest) u h l =
    let read = word_at limit (b ∷ rest) in
    let next = drop_spaces read.1 in
    let is = (words_are limit (b ∷ rest) read.0 read.1 u).0 refl in
    let v = word-utf8 limit (b ∷ rest) read.0 read.1 u is in
    let skipped = skips-is read.1 v in
    let less = word-shorter limit b rest h in
    let le = spaces-le read.1 in
    let more = ignored-read limit place n next (skips-utf8 read.1 next skipped v) (spaces-gone 0 read.1) (omega arith) in
    rw (ignored_step limit place (b ∷ rest) (omega arith) h)
    (next_word b rest read.1 next read.0 (ignored_of limit place next) is skipped more)

-- where a part begins in its piece, unless it is empty
part-begins : (piece part : List ℕ) (t : IsTrim piece part) → (part ≡ [])
    ⊎ (length piece - length (drop_spaces piece) ≡ length (encode_utf8_all t.before))
part-begins piece part t = grind (arith, encodes-append, drop_spaces-blank, drop_spaces-dark, length-append)

piece-read : (limit place : ℕ) (piece : List ℕ) → IsUtf8 piece → (t : IsTrim piece (trim piece))
    → AreIgnoredOf limit (place + length (encode_utf8_all t.before) + length (trim piece)) (trim piece)
    (ignored_of limit (part_end place piece) (trim piece))
piece-read limit place piece u t = elim (part-begins piece (trim piece) t) [
  | inl none ↦ rw (none, ignored_nil) no_word
  | inr same ↦ rw (← same) (ignored-read limit (part_end place piece) (length (trim piece)) (trim piece)
      (trim-utf8 piece (trim piece) u t) (trim-starts piece (trim piece) t) (omega arith))
]

all-read : (limit place : ℕ) (pieces : List (List ℕ)) → AllByRecursion IsUtf8 pieces
    → AreAllIgnored limit place pieces (all_ignored limit place pieces)
unfolding all_ignored
all-read limit place [] u = no_piece place
all-read limit place (piece ∷ pieces) u =
    let t = trim_is_middle piece u.0 in
    next_piece place piece (trim piece) pieces (ignored_of limit (part_end place piece) (trim piece))
    (all_ignored limit (place + length piece + 2) pieces)
    t (piece-read limit place piece u.0 t) (all-read limit (place + length piece + 2) pieces u.1)

-- ---- there are none exactly if each word has bounds

abbrev has_bounds : ℕ → Word → Bool
has_bounds limit word = is_some (table limit word)

if-empty : (limit : ℕ) (word : Word) (start end : ℕ)
    → is_empty (if_ignored (ignored_as limit word) start end) ≡ has_bounds limit word
unfolding table
if-empty limit word start end = grind arith

within-empty : (limit place n : ℕ) (text : List ℕ)
    → is_empty (ignored_within limit place n text) ≡ list_all (has_bounds limit) (words_within limit n text)
unfolding ignored_within words_within
within-empty limit place zero text = refl
within-empty limit place (suc n) [] = refl
within-empty limit place (suc n) (b ∷ text) = grind (arith, nat_tests, within-empty limit place n, if-empty)

abbrev bounded : ℕ → List ℕ → Bool
bounded limit piece = list_all (has_bounds limit) (words limit (trim piece))

all-empty : (limit place : ℕ) (pieces : List (List ℕ))
    → is_empty (all_ignored limit place pieces) ≡ list_all (bounded limit) pieces
unfolding all_ignored
all-empty limit place [] = refl
all-empty limit place (piece ∷ pieces) =
    grind (arith, within-empty, all-empty limit (place + length piece + 2) pieces)

are-bounded : (limit : ℕ) (pieces : List (List ℕ)) → AllByRecursion IsUtf8 pieces → list_all (bounded limit) pieces ≡ true
    → AllByRecursion (IsBounded limit) pieces
are-bounded limit [] u h = tt
are-bounded limit (piece ∷ pieces) u h =
    grind (arith, trim_is_middle piece u.0, words-law limit piece (trim piece), are-bounded limit pieces u.1)

all-bounded : (limit : ℕ) (pieces : List (List ℕ)) → AllByRecursion IsUtf8 pieces → AllByRecursion (IsBounded limit) pieces
    → list_all (bounded limit) pieces ≡ true
all-bounded limit [] u h = refl
all-bounded limit (piece ∷ pieces) u h =
    grind (arith, middle_is_trim piece, words-law limit piece, all-bounded limit pieces u.1)

-- ---- the clauses

pub are_ignored : (limit : ℕ) (text : List ℕ) (list : List IgnoredWord) → IsUtf8 text
    → list ≡ all_ignored limit 0 (cut_bars false text) → AreIgnored limit text list
are_ignored limit text list u e = grind (arith, nat_tests, pieces-utf8, bars_divide text, all-read)

pub none_ignored : (limit : ℕ) (text : List ℕ) (list : List IgnoredWord) → IsUtf8 text
    → list ≡ all_ignored limit 0 (cut_bars false text) → (list ≡ []) ↔ IsWhollyBounded limit text
none_ignored limit text list u e =
    grind (arith, nat_tests, all-bounded, pieces-utf8, bars_divide text, are-bounded, bars_once, all-empty, empty_is list)
