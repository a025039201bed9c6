-- What a text denotes is its one meaning, and the versions that are computed of it are those that it writes.
use Rattle.nodejs_semver.proofs.{Algebra.{Accepting.accepts-held, Holds.denotes_hold}, Common.{All-from_recursion, AllByRecursion, Any, Bool, IfNone}}
use Rattle.nodejs_semver.proofs.Common.{IfSome, IsBlank, IsCutAtBars, IsSomeAnd, IsTrim, IsTrue, IsUtf8, List, Means, Option, Run, Span, VersionValue}
use Rattle.nodejs_semver.proofs.Common.{Word, [], accepts, and_from, ap, append-nil, arith, cases_Bool, common_steps, cut_bars, denotes, drop_spaces}
use Rattle.nodejs_semver.proofs.Common.{empty_is, encode_utf8, encode_utf8_all, false, filter_map, flat_map, has_bars, if_any, inl, inr, is_empty}
use Rattle.nodejs_semver.proofs.Common.{len_utf8_bounds, length, length-append, length-encode, list_all, list_all-append, list_any, list_any-map, map}
use Rattle.nodejs_semver.proofs.Common.{middle_is_trim, nat_tests, or_right, part_bounds, part_denotes, parts, precedence, refl, run_writes, runs_of}
use Rattle.nodejs_semver.proofs.Common.{space_len, subst, suc, sym, table, trim, trim_is_middle, true, word_at, words, zero, ℕ, ◌<◌, ◌↔◌, ◌∙◌, ◌∷◌}
use Rattle.nodejs_semver.proofs.{Common.{◌≡◌, ◌≤◌, ◌⊎◌}, Dividing.RunsDivide.{part_divides, runs_are, words-none}, Reading.PartialLaw.word-shorter}
use Rattle.nodejs_semver.{proofs.Reading.{PartialLaw.words-step, WordLaw.{word-utf8, words_are}}, specs.Internal.Writes.{part_writes, writes}}
use Rattle.nodejs_semver.specs.Text.Meaning.{AreAllIntervals, AreWords, HasRuns, IsBlankText, all_intervals, blank_piece, every_version, next_piece}
use Rattle.{nodejs_semver.specs.Text.{Meaning.{next_word, no_piece, no_word}, WrittenSet.Writes}, semver_core.proofs.Dividing.BarsDivide.bars_divide}
use Rattle.semver_core.proofs.{Dividing.BarsDivide.bars_once, Reading.Boundaries.{skips-is, skips-of, skips-utf8, spaces-gone, spaces-le, trim-utf8}}
use Rattle.semver_core.{proofs.{Reading.Bytes.trim-starts, Text.Trims.trim_parts}, specs.Text.Bars.one_piece}
use Rattle.std.proofs.lemmas.{Bool.false_from_ne_true, List.Folds.{Any-from_list_any, list_any-from_Any}}
pub use Rattle.semver_core.proofs.Dividing.BarsDivide.{pieces-utf8}

-- ---- the words of a part

words-once : (limit : ℕ) (text : List ℕ) (list : List Word) → IsUtf8 text → space_len text ≡ 0 → AreWords limit text list → list ≡ words limit text
words-once limit text list u h no_word = sym (words-none limit [] refl)
words-once limit text list u h (next_word b rest behind next word others is skipped more) =
    let read : word_at limit (b ∷ rest) ≡ (word, behind) = (words_are limit (b ∷ rest) word behind u).1 is in
    let v = word-utf8 limit (b ∷ rest) word behind u is in
    let left : drop_spaces behind ≡ next = skips-of behind next v skipped in
    let dark : space_len next ≡ 0 = subst (λ (t : List ℕ). space_len t ≡ 0) left (spaces-gone 0 behind) in
    let step = rw (read, left) at (words-step limit (b ∷ rest) (omega arith) h) in
    cc (step, words-once limit next others (skips-utf8 behind next skipped v) dark more)

words-read : (limit n : ℕ) (text : List ℕ) → IsUtf8 text → space_len text ≡ 0 → length text ≤ n → AreWords limit text (words limit text)
words-read limit n [] u h l = subst (λ (list : List Word). AreWords limit [] list) (sym (words-none limit [] refl)) no_word
words-read limit zero (b ∷ rest) u h l = absurd (omega arith)
words-read limit (suc n) (b ∷ rest) u h l =
    let read = word_at limit (b ∷ rest) in
    let next = drop_spaces read.1 in
    let is = (words_are limit (b ∷ rest) read.0 read.1 u).0 refl in
    let v = word-utf8 limit (b ∷ rest) read.0 read.1 u is in
    let skipped = skips-is read.1 v in
    let less = word-shorter limit b rest h in
    let le = spaces-le read.1 in
    let more = words-read limit n next (skips-utf8 read.1 next skipped v) (spaces-gone 0 read.1) (omega arith) in
    rw (words-step limit (b ∷ rest) (omega arith) h) (next_word b rest read.1 next read.0 (words limit next) is skipped more)

pub words-law : (limit : ℕ) (text part : List ℕ) (list : List Word) → IsUtf8 text → IsTrim text part → (words limit part ≡ list)
    ↔ AreWords limit part list
words-law limit text part list u trimmed =
    grind (arith, nat_tests, trim-starts text part trimmed, words-read, words-once, trim-utf8 text part u trimmed)

-- ---- the runs of a piece

pub has-runs : (limit : ℕ) (piece : List ℕ) → IsUtf8 piece
    → HasRuns limit piece (runs_of precedence (part_bounds limit (trim piece)))
has-runs limit piece u =
    let part = trim piece in
    let is = trim_is_middle piece u in
    let read = words-read limit (length part) part (trim-utf8 piece part u is) (trim-starts piece part is) (omega arith) in
    (words limit part, (part, is, read), part_divides limit part)

pub runs-once : (limit : ℕ) (piece : List ℕ) (runs : List (Run VersionValue)) → IsUtf8 piece → HasRuns limit piece runs
    → runs ≡ runs_of precedence (part_bounds limit (trim piece))
runs-once limit piece runs u h =
    grind (arith, nat_tests, middle_is_trim piece h.1.0 h.1.1, trim-starts piece h.1.0 h.1.1, words-once limit h.1.0 h.0 (trim-utf8 piece h.1.0 u h.1.1) (trim-starts piece h.1.0 h.1.1) h.1.2, trim-utf8 piece h.1.0 u h.1.1, runs_are (filter_map (table limit) h.0) runs h.2)

-- ---- a piece is blank where nothing is left of it

pub no_characters : (cs : List ℕ) → encode_utf8_all cs ≡ [] → cs ≡ []
no_characters [] h = refl
no_characters (c ∷ cs) h =
    absurd (omega (arith, ap length h, length-append (encode_utf8 c) (encode_utf8_all cs), length-encode c, (len_utf8_bounds c).0))

pub blank-empty : (piece : List ℕ) → IsBlank piece → is_empty (trim piece) ≡ true
blank-empty piece h = cc (h.spelled, append-nil h.characters, trim_parts h.characters [] [] h.each refl refl refl)

pub empty-blank : (piece : List ℕ) → IsUtf8 piece → is_empty (trim piece) ≡ true → IsBlank piece
empty-blank piece u h =
    grind (arith, nat_tests, list_all-append, trim_is_middle piece u, no_characters, empty_is (trim piece) h, and_from)

all-empty : (pieces : List (List ℕ)) → AllByRecursion IsBlank pieces → list_all is_empty (map trim pieces) ≡ true
all-empty [] h = refl
all-empty (piece ∷ pieces) h = grind (arith, blank-empty, all-empty pieces h.1)

all-blank : (pieces : List (List ℕ)) → AllByRecursion IsUtf8 pieces → list_all is_empty (map trim pieces) ≡ true → AllByRecursion IsBlank pieces
all-blank [] u h = tt
all-blank (piece ∷ pieces) u h = grind (arith, empty-blank, all-blank pieces u.1)

-- ---- the intervals of all pieces

all-mean : (limit : ℕ) (pieces : List (List ℕ)) → AllByRecursion IsUtf8 pieces → AreAllIntervals limit pieces (flat_map (part_denotes limit) (map trim pieces))
all-mean limit [] u = no_piece
all-mean limit (piece ∷ pieces) u =
    grind (arith, blank_piece, next_piece, empty-blank, blank-empty, has-runs, all-mean limit pieces u.1)

all-once : (limit : ℕ) (pieces : List (List ℕ)) (list : List (Span VersionValue)) → AllByRecursion IsUtf8 pieces → AreAllIntervals limit pieces list
    → list ≡ flat_map (part_denotes limit) (map trim pieces)
all-once limit pieces list u no_piece = refl
all-once limit pieces list u (blank_piece piece rest others blank more) =
    grind (arith, blank-empty, all-once limit rest others u.1 more)
all-once limit pieces list u (next_piece piece rest runs others dark h more) =
    grind (arith, nat_tests, false_from_ne_true, empty-blank, runs-once limit piece runs u.0 h, all-once limit rest others u.1 more)

-- ---- the whole text

means : (limit : ℕ) (text : List ℕ) (list : List (Span VersionValue)) → IsUtf8 text → denotes limit text ≡ list → Means limit text list
unfolding IsBlankText
means limit text list u e =
    let pieces = cut_bars false text in
    let cut = bars_divide text in
    let each = pieces-utf8 text pieces cut u in
    subst (λ (l : List (Span VersionValue)). Means limit text l) e (elim (cases_Bool (list_all is_empty (map trim pieces))) [
      | inl empty ↦ rw empty (every_version (pieces, cut, all-blank pieces each empty))
      | inr some ↦
          rw some (all_intervals pieces _ cut (λ blank. cc (sym some ∙ all-empty pieces blank)) (all-mean limit pieces each))
    ])

one-meaning : (limit : ℕ) (text : List ℕ) (list : List (Span VersionValue)) → IsUtf8 text → Means limit text list → denotes limit text ≡ list
unfolding IsBlankText
one-meaning limit text list u h = grind (arith, bars_once, all-empty, pieces-utf8, false_from_ne_true, all-blank, all-once)

pub one_meaning : (limit : ℕ) (text : List ℕ) (list : List (Span VersionValue)) → IsUtf8 text → (denotes limit text ≡ list) ↔ Means limit text list
one_meaning limit text list u = (means limit text list u, one-meaning limit text list u)

-- what a reader has found is what the text means
pub meant : (limit : ℕ) (text : List ℕ) (list : List (Span VersionValue)) → IsUtf8 text → list ≡ denotes limit text
    → Means limit text list
meant limit text list u e = means limit text list u (sym e)

pub same_meaning : (limit : ℕ) (text : List ℕ) (one other : List (Span VersionValue)) → IsUtf8 text → Means limit text one
    → Means limit text other → one ≡ other
same_meaning limit text one other u h k = sym (one-meaning limit text one u h) ∙ one-meaning limit text other u k

pub means_some : (limit : ℕ) (text : List ℕ) (list : List (Span VersionValue)) → IsUtf8 text → Means limit text list
    → 0 < length list → Means limit text [] → ⊥
means_some limit text list u h some none = absurd (omega (arith, ap length (same_meaning limit text list [] u h none)))

-- what holds of the list that a text denotes holds of what it means
pub meant_so : (P : List (Span VersionValue) → Type 0) (limit : ℕ) (text : List ℕ) → IsUtf8 text → P (denotes limit text)
    → (list : List (Span VersionValue)) → Means limit text list → P list
meant_so P limit text u p list h = subst P (one-meaning limit text list u h) p

-- the same of the list of a reader, where there may be none
pub found_so : (P : List (Span VersionValue) → Type 0) (limit : ℕ) (text : List ℕ) (list : List (Span VersionValue))
    → IsUtf8 text → list ≡ denotes limit text → IsSomeAnd (if_any list) P
    → (r : List (Span VersionValue)) → Means limit text r → P r
found_so P limit text [] u e h = elim h [ ]
found_so P limit text (s ∷ rest) u e h = meant_so P limit text u (subst P e h)

-- the list of a reader, where there may be none
pub meant_some : (limit : ℕ) (text : List ℕ) (list : List (Span VersionValue)) (o : Option (List (Span VersionValue)))
    → IsUtf8 text → list ≡ denotes limit text → o ≡ if_any list → IfSome o (λ range. Means limit text range × (0 < length range))
meant_some limit text list o u e h = grind (arith, meant)

pub meant_none : (limit : ℕ) (text : List ℕ) (list : List (Span VersionValue)) (o : Option (List (Span VersionValue)))
    → IsUtf8 text → list ≡ denotes limit text → o ≡ if_any list → IfNone o (Means limit text [])
meant_none limit text list o u e h = grind (arith, meant)

-- a text whose parts are all empty is blank
pub blank_text : (text : List ℕ) → IsUtf8 text → IsTrue (list_all is_empty (parts text)) ↔ IsBlankText text
unfolding IsBlankText
blank_text text u = grind (arith, nat_tests, pieces-utf8, bars_divide text, all-blank, bars_once, all-empty)

pub filled_text : (text : List ℕ) → IsUtf8 text → (IsBlankText text → ⊥) → list_all is_empty (parts text) ≡ false
filled_text text u h = false_from_ne_true _ (λ blank. h ((blank_text text u).0 blank))

-- what the parts of a text mean that is not blank
pub filled_denotes : (limit : ℕ) (text : List ℕ) (ps : List (List ℕ)) → IsUtf8 text → (IsBlankText text → ⊥) → ps ≡ parts text
    → flat_map (part_denotes limit) ps ≡ denotes limit text
filled_denotes limit text ps u h e = rw (e, filled_text text u h) refl

-- what a text means that has no bars: what its one part does
pub one_part : (limit : ℕ) (text part : List ℕ) → has_bars text ≡ false → IsTrim text part → part_denotes limit part ≡ denotes limit text
one_part limit text part none trimmed =
    let cut : cut_bars false text ≡ text ∷ [] = sym (bars_once text (text ∷ []) (one_piece text none)) in
    let same : part ≡ trim text = middle_is_trim text part trimmed in
    rw (same, cut) (grind (arith, append-nil))

-- ---- what is computed of the versions that a text writes is what it writes

-- what stands between bars writes the version
abbrev PieceWrites : ℕ → VersionValue → List ℕ → Type 0
PieceWrites limit v piece = IsBlank piece ⊎ ((rs : List (Run VersionValue)) × HasRuns limit piece rs
    × (list_any (run_writes precedence v) rs ≡ true))

-- one piece
piece-writes : (limit : ℕ) (v : VersionValue) (piece : List ℕ) → IsUtf8 piece → part_writes limit v (trim piece) ≡ true
    → PieceWrites limit v piece
piece-writes limit v piece u h = grind (arith, nat_tests, common_steps, cases_Bool, empty-blank, has-runs)

piece-written : (limit : ℕ) (v : VersionValue) (piece : List ℕ) → IsUtf8 piece → PieceWrites limit v piece
    → part_writes limit v (trim piece) ≡ true
piece-written limit v piece u (inl blank) = grind (arith, blank-empty)
piece-written limit v piece u (inr (runs, has, some)) =
    or_right (is_empty (trim piece)) _
    (ap (λ (rs : List (Run VersionValue)). list_any (run_writes precedence v) rs) (sym (runs-once limit piece runs u has))
    ∙ some)

pub written : (limit : ℕ) (text : List ℕ) (v : VersionValue) → IsUtf8 text → (writes limit text v ≡ true) ↔ Writes limit text v
unfolding Writes
written limit text v u = (
  λ h. let some = Any-from_list_any test here (sym (list_any-map (part_writes limit v) trim here) ∙ h) in (
    here,
    bars_divide text,
    (some.0, some.1, some.2, some.3, piece-writes limit v some.1 (at here (bars_divide text) some) some.4),
  ),
  λ w. ap (λ (ps : List (List ℕ)). list_any (part_writes limit v) (map trim ps)) (sym (bars_once text w.0 w.1))
      ∙ list_any-map (part_writes limit v) trim w.0
      ∙ list_any-from_Any test w.0 (w.2.0, w.2.1, w.2.2, w.2.3, piece-written limit v w.2.1 (at w.0 w.1 w.2) w.2.4),
)
  where
    here : List (List ℕ)
    here = cut_bars false text

    test : List ℕ → Bool
    test piece = part_writes limit v (trim piece)

    at : {P : List ℕ → Type 0} (pieces : List (List ℕ)) → IsCutAtBars text pieces → (h : Any P pieces) → IsUtf8 h.1
    at pieces cut h = subst IsUtf8 h.3 (All-from_recursion IsUtf8 pieces (pieces-utf8 text pieces cut u) h.0 h.1 h.2)

-- with pre-releases included, the intervals that a text means accept what it writes
pub accepted_written : (limit : ℕ) (text : List ℕ) (list : List (Span VersionValue)) → IsUtf8 text → list ≡ denotes limit text
    → (v : VersionValue) → IsTrue (accepts list v true) ↔ Writes limit text v
accepted_written limit text list u h v =
    grind (arith, nat_tests, accepts-held list v, denotes_hold limit text v, written limit text v u)

-- and so does a list that the text means
pub written_of : (limit : ℕ) (text : List ℕ) (list : List (Span VersionValue)) → IsUtf8 text → Means limit text list
    → (v : VersionValue) → IsTrue (accepts list v true) ↔ Writes limit text v
written_of limit text list u h = accepted_written limit text list u (sym (one-meaning limit text list u h))
