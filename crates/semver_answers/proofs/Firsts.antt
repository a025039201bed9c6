-- The first field and the first line of a text, and what stands behind them.
use Rattle.std.proofs.Common.{◌≡◌, ◌==◌, ◌<◌, ◌≤◌, ◌+◌, ◌∙◌, ◌++◌, ◌∷◌, ◌&&◌, ℕ, Bool, true, false, not, List, [], Some}
use Rattle.std.proofs.Common.{None, add-one, append-nil, length, take, drop, get_or, refl, sym, ap, arith}
use Rattle.memchr.specs.Find.{IsFirstByte, is_byte, is_byte2}
use Rattle.std.proofs.Math.Seq.{drop-cons, get_or-append_seam, split_at, take-append_seam}
use Rattle.std.proofs.lemmas.Bool.Decides.{nat_tests}
use Rattle.std.proofs.lemmas.Bool.{and_right, eqb-true, false_from_ne_true, false≢true, not-true}
use Rattle.std.proofs.lemmas.List.{get_or-take, length-append, length-take, length-take-le, take-append-drop, take-take, take_all, take_more}
use Rattle.std.proofs.lemmas.List.Elements.{All-from_get_or, All-head, All-tail}
use Rattle.std.proofs.lemmas.List.Folds.{list_all-append, list_any_at, list_any_more}
use Rattle.std.proofs.lemmas.List.Splits.{length-slice_split, slice_split_at, slice_split_none}
use Rattle.std.proofs.lemmas.List.Sums.{AllPass-from_list_all, list_all-from_AllPass}
use Rattle.std.proofs.lemmas.Str.{IsCharBoundary-after_ascii, IsCharBoundary-before_ascii, IsUtf8-append, IsUtf8-take}
use Rattle.std.specs.List.{All, list_all, list_any}
use Rattle.std.specs.Prelude.{IsCharBoundary, IsUtf8}
use Rattle.semver_core.proofs.Text.Fronts.{common_plain}
use Rattle.semver_core.specs.Internal.CommonReading.{is_plain}
use Rattle.semver_core.specs.Text.Common.{IsCommon}
use Rattle.semver_core.specs.Values.Versions.{VersionValue}
use Rattle.std.specs.Borrow.{Bor}
use Rattle.semver_answers.specs.declared.fields.Behind.TheVariants.{Fields, Lines}
use Rattle.semver_answers.specs.Internal.Ahead.{Cuts, HasFeed, behind_line, ends_whole, fields_ahead, first_line}
use Rattle.nodejs_semver.specs.Text.Common.{ends_field}
use Rattle.semver_answers.specs.Lines.{fields, no_feed}

abbrev is_feed : ℕ → Bool
is_feed b = b == 10

-- a byte that is not found stands nowhere
nowhere : (p : ℕ → Bool) (text : List ℕ) → IsFirstByte p text None → All (λ x. p x ≡ false) text
nowhere p text h = All-from_get_or (λ x. p x ≡ false) text 0 (λ i k. false_from_ne_true _ (h i (omega arith) k))

-- a text is cut at a place
pub cut_at : (text : List ℕ) (n : ℕ) → n < length text → text ≡ take n text ++ get_or text n 0 ∷ drop (n + 1) text
cut_at text n inside = rw add-one (split_at text n 0 inside)

-- a byte that is found stands there, and nowhere before it
pub nowhere_before : (p : ℕ → Bool) (text : List ℕ) (n : ℕ) → IsFirstByte p text (Some n) → All (λ x. p x ≡ false) (take n text)
nowhere_before p text n h = All-from_get_or (λ x. p x ≡ false) (take n text) 0 (λ i lt.
    let here : i < n = omega (arith, length-take-le n text (omega (arith, h.0.high))) in
    ap p (get_or-take n text i 0 here) ∙ false_from_ne_true _ (h.0.before i (omega arith) here))

pub all_fail : (p : ℕ → Bool) (text : List ℕ) → list_all (λ b. not (p b)) text ≡ true → All (λ b. p b ≡ false) text
all_fail p text h k d inside = not-true _ (AllPass-from_list_all (λ b. not (p b)) text h k d inside)

no_feed_by : (text : List ℕ) → All (λ b. (b == 10) ≡ false) text → no_feed text ≡ true
no_feed_by text h = list_all-from_AllPass (λ b. not (b == 10)) text (λ k d inside. ap not (h k d inside))

-- without a byte that is found there is no line feed
pub none_found : (text : List ℕ) → IsFirstByte (is_byte 10) text None → no_feed text ≡ true
none_found text h = no_feed_by text (nowhere (is_byte 10) text h)

-- a byte that is no mark of a field
no_semicolon : (text : List ℕ) → All (λ b. is_byte2 59 10 b ≡ false) text → All (λ b. (b == 59) ≡ false) text
no_semicolon text h k d inside = grind (arith, nat_tests, h k d inside)

no_line_feed : (text : List ℕ) → All (λ b. is_byte2 59 10 b ≡ false) text → All (λ b. (b == 10) ≡ false) text
no_line_feed text h k d inside = grind (arith, nat_tests, h k d inside)

pub none_of_both : (text : List ℕ) → IsFirstByte (is_byte2 59 10) text None → no_feed text ≡ true
none_of_both text h = no_feed_by text (no_line_feed text (nowhere (is_byte2 59 10) text h))

-- ---- the first line

-- a beginning without a line feed belongs to it
ahead : (xs ys : List ℕ) → All (λ b. (b == 10) ≡ false) xs → (first_line (xs ++ ys) ≡ xs ++ first_line ys) × (behind_line (xs ++ ys) ≡ behind_line ys)
ahead [] ys h = (refl, refl)
ahead (x ∷ xs) ys h =
    let plain : ℕ → Type 0 = λ b. (b == 10) ≡ false in
    grind (arith, All-head plain x xs h, ahead xs ys (All-tail plain x xs h))

-- a line feed ends it
pub line_ends : (line rest : List ℕ) → All (λ b. (b == 10) ≡ false) line → (first_line (line ++ 10 ∷ rest) ≡ line) × (behind_line (line ++ 10 ∷ rest) ≡ rest)
line_ends line rest h =
    let a = ahead line (10 ∷ rest) h in
    (a.0 ∙ append-nil line, a.1)

-- the line that a line feed ends which is found
pub line_cut : (text : List ℕ) (n : ℕ) → IsFirstByte (is_byte 10) text (Some n) → (first_line text ≡ take n text) × (behind_line text ≡ drop (n + 1) text)
line_cut text n h =
    let split = cut_at text n h.0.high in
    let l = line_ends (take n text) (drop (n + 1) text) (nowhere_before (is_byte 10) text n h) in
    let whole = rw (eqb-true (get_or text n 0) 10 h.1) at split in
    (ap first_line whole ∙ l.0, ap behind_line whole ∙ l.1)

feed_in : (xs ys : List ℕ) → All (λ b. (b == 10) ≡ false) xs → no_feed (xs ++ ys) ≡ no_feed ys
feed_in xs ys h = list_all-append (λ b. not (b == 10)) xs ys ∙ ap (λ b. b && no_feed ys) (no_feed_by xs h)

-- the same line with its line feed alone
pub line_alone : (text : List ℕ) (n : ℕ) → IsFirstByte (is_byte 10) text (Some n) → (behind_line (take (n + 1) text) ≡ []) × HasFeed (take (n + 1) text)
line_alone text n h =
    let plain = nowhere_before (is_byte 10) text n h in
    let whole : take (n + 1) text ≡ take n text ++ 10 ∷ [] = rw (take_more text n 0 h.0.high, eqb-true (get_or text n 0) 10 h.1) refl in
    (ap behind_line whole ∙ (line_ends (take n text) [] plain).1, ap no_feed whole ∙ feed_in (take n text) (10 ∷ []) plain)

pub ruleset alone = (none_found, line_alone)

-- a line that goes on
pub longer : (begun end : List ℕ) → no_feed begun ≡ true → (first_line (begun ++ end) ≡ begun ++ first_line end) × (behind_line (begun ++ end) ≡ behind_line end)
longer begun end h = ahead begun end (all_fail is_feed begun h)

-- a text with a line feed is its first line, the line feed, and what stands behind it
pub divided : (text : List ℕ) → HasFeed text → (text ≡ first_line text ++ 10 ∷ behind_line text) × (no_feed (first_line text) ≡ true)
divided [] h = absurd (false≢true (sym h))
divided (x ∷ xs) h = grind (arith, nat_tests, divided xs)

-- and so its first line is a text
pub line_utf8 : (text : List ℕ) → HasFeed text → IsUtf8 text → IsUtf8 (first_line text)
line_utf8 text feed utf8 =
    let split = (divided text feed).0 in
    let line = first_line text in
    let inside : length line < length text = omega (arith, ap length split, length-append line (10 ∷ behind_line text)) in
    let mark : get_or text (length line) 0 ≡ 10 = ap (λ l. get_or l (length line) 0) split ∙ get_or-append_seam line 10 (behind_line text) 0 in
    let cut = IsUtf8-take text (length line) utf8 (IsCharBoundary-before_ascii text (length line) inside (omega (arith, mark))) in
    rw (ap (take (length line)) split ∙ take-append_seam line (10 ∷ behind_line text)) at cut

pub whole_utf8 : (text : List ℕ) → HasFeed text → behind_line text ≡ [] → IsUtf8 (first_line text) → IsUtf8 text
unfolding lib.Utf8.encode
whole_utf8 text feed last utf8 =
    let split = rw last at (divided text feed).0 in
    rw split (IsUtf8-append (first_line text) (10 ∷ []) utf8 (10 ∷ [], (refl, refl)))

-- ---- the first field

-- a `;` ends it, and the next one goes on behind that
pub field_ends : (text field rest : List ℕ) → text ≡ field ++ 59 ∷ rest → All (λ b. is_byte2 59 10 b ≡ false) field
    → (fields_ahead text ≡ field ∷ fields_ahead rest) × (behind_line text ≡ behind_line rest) × (no_feed text ≡ no_feed rest)
field_ends text field rest e plain =
    let feedless = no_line_feed field plain in
    let a = ahead field (59 ∷ rest) feedless in (
      ap (λ l. fields (first_line l)) e ∙ ap fields a.0 ∙ slice_split_at (λ b. b == 59) field 59 (first_line rest) (no_semicolon field plain) refl,
      ap behind_line e ∙ a.1,
      ap no_feed e ∙ feed_in field (59 ∷ rest) feedless,
    )

-- a line feed ends it and the line
pub last_field : (text field rest : List ℕ) → text ≡ field ++ 10 ∷ rest → All (λ b. is_byte2 59 10 b ≡ false) field
    → (fields_ahead text ≡ field ∷ []) × (behind_line text ≡ rest)
last_field text field rest e plain =
    let l = line_ends field rest (no_line_feed field plain) in (
      ap (λ l. fields (first_line l)) e ∙ ap fields l.0 ∙ slice_split_none (λ b. b == 59) field (no_semicolon field plain),
      ap behind_line e ∙ l.1,
    )

-- what is cut at a place
pub cuts_field : (text : List ℕ) (end : ℕ) (rest : Bor (List ℕ)) → end < length text → get_or text end 0 ≡ 59
    → All (λ b. is_byte2 59 10 b ≡ false) (take end text) → HasFeed text → rest.now ≡ drop (end + 1) text → IsUtf8 rest.now
    → Cuts text (take end text) (Fields rest)
cuts_field text end rest inside mark plain feed e utf8 =
    let split = cut_at text end inside in
    let f = field_ends text (take end text) (drop (end + 1) text) (rw mark at split) plain in
    record {
      first = f.0 ∙ ap (λ l. take end text ∷ fields_ahead l) (sym e);
      next = f.1 ∙ ap behind_line (sym e);
      goes_on = (ap no_feed e ∙ sym f.2 ∙ feed, utf8);
    }

pub cuts_line : (text : List ℕ) (end : ℕ) (rest : Bor (List ℕ)) → end < length text → get_or text end 0 ≡ 10
    → All (λ b. is_byte2 59 10 b ≡ false) (take end text) → rest.now ≡ drop (end + 1) text → IsUtf8 rest.now
    → Cuts text (take end text) (Lines rest)
cuts_line text end rest inside mark plain e utf8 =
    let split = cut_at text end inside in
    let f = last_field text (take end text) (drop (end + 1) text) (rw mark at split) plain in
    record { first = f.0; next = f.1 ∙ sym e; goes_on = utf8 }

-- a text has one field or more
pub some_field : (text : List ℕ) → 0 < length (fields text)
some_field text = omega (arith, length-slice_split (λ b. b == 59) text)

pub some_field_ahead : (text : List ℕ) → 0 < length (fields_ahead text)
some_field_ahead text = some_field (first_line text)

-- a text may be cut behind an ASCII character
pub feed_boundary : (text : List ℕ) (n : ℕ) → IsUtf8 text → n < length text → is_byte 10 (get_or text n 0) ≡ true → IsCharBoundary text (n + 1)
feed_boundary text n utf8 inside h = IsCharBoundary-after_ascii text n utf8 inside (omega (arith, eqb-true (get_or text n 0) 10 h))

-- and behind an ASCII character that follows a word
pub behind_mark : (text word rest : List ℕ) (b end : ℕ) → IsUtf8 text → text ≡ word ++ b ∷ rest → b < 128 → end ≡ length word + 1
    → IsCharBoundary text end
behind_mark text word rest b end utf8 split low e =
    let mark : get_or text (length word) 0 ≡ b = ap (λ l. get_or l (length word) 0) split ∙ get_or-append_seam word b rest 0 in
    let inside : length word < length text = omega (arith, ap length split, length-append word (b ∷ rest)) in
    rw e (IsCharBoundary-after_ascii text (length word) utf8 inside (omega (arith, mark, low)))

-- a common version text has no mark
no_mark : (c : ℕ) → is_plain c ≡ true → is_byte2 59 10 c ≡ false
no_mark c h = grind (arith, nat_tests)

pub no_marks : (limit : ℕ) (text : List ℕ) (v : VersionValue) → IsCommon limit text v → All (λ b. is_byte2 59 10 b ≡ false) text
no_marks limit text v h k d inside =
    no_mark (get_or text k d) (AllPass-from_list_all is_plain text (common_plain limit text v h) k d inside)

-- a text in which no mark is found, and a place in a line that such a text ends at
pub unmarked : (text : List ℕ) → list_any (is_byte2 59 10) text ≡ false → All (λ b. is_byte2 59 10 b ≡ false) text
unmarked text h k d inside =
    false_from_ne_true _ (λ mark. false≢true (sym h ∙ list_any_at (is_byte2 59 10) text k d inside mark))

pub before_mark : (text : List ℕ) (n : ℕ) → HasFeed text → n ≤ length text → list_any (is_byte2 59 10) (take n text) ≡ false
    → n < length text
before_mark text n feed le h =
    let plain = no_feed_by (take n text) (no_line_feed (take n text) (unmarked (take n text) h)) in
    grind (arith, take_all n text)

-- one more character of a word
word_plain : (c : ℕ) → 59 < c → is_byte2 59 10 c ≡ false
word_plain c h = grind (arith, nat_tests)

pub word_grows : (text : List ℕ) (n : ℕ) → n < length text → 59 < get_or text n 0
    → list_any (is_byte2 59 10) (take n text) ≡ false → list_any (is_byte2 59 10) (take (n + 1) text) ≡ false
word_grows text n inside char plain =
    rw (list_any_more (is_byte2 59 10) text n 0 inside, plain, word_plain (get_or text n 0) char) refl

-- a mark stands where a field ends, unless it is the end of the text
pub end_marked : (text : List ℕ) (n : ℕ) → n < length text → ends_field (drop n text) ≡ true → is_byte2 59 10 (get_or text n 0) ≡ true
end_marked text n inside h = rw (drop-cons text n 0 inside) at h

pub ruleset words = (before_mark, unmarked, word_grows, end_marked)

-- ---- whole lines

pub ends_none : ends_whole [] ≡ true
unfolding ends_whole
ends_none = refl

ends_last : (xs : List ℕ) → ends_whole (xs ++ 10 ∷ []) ≡ true
unfolding ends_whole
ends_last [] = refl
ends_last (x ∷ []) = refl
ends_last (x ∷ y ∷ xs) = ends_last (y ∷ xs)

pub ends_cut : (text : List ℕ) (n : ℕ) → n < length text → is_byte 10 (get_or text n 0) ≡ true → ends_whole (take (n + 1) text) ≡ true
ends_cut text n inside feed = rw (take_more text n 0 inside, eqb-true (get_or text n 0) 10 feed) (ends_last (take n text))

-- some whole lines have a line feed, and behind the first of them there are whole lines again
pub whole_has : (text : List ℕ) → ends_whole text ≡ true → 0 < length text → HasFeed text
unfolding ends_whole
whole_has [] h some = absurd (omega (arith, some))
whole_has (c ∷ []) h some = rw h refl
whole_has (c ∷ d ∷ rest) h some = and_right (not (c == 10)) (no_feed (d ∷ rest)) (whole_has (d ∷ rest) h (omega arith))

-- and it is shorter
pub behind_shorter : (text : List ℕ) → HasFeed text → length (behind_line text) < length text
behind_shorter text feed =
    omega (arith, ap length (divided text feed).0, length-append (first_line text) (10 ∷ behind_line text))

-- bytes are cut where a front of them is cut
pub front_cut : (bytes : List ℕ) (k n : ℕ) → n ≤ length (take k bytes) → bytes ≡ take n (take k bytes) ++ drop n bytes
front_cut bytes k n le = rw (take-take n k bytes (omega (arith, le, length-take k bytes))) (sym (take-append-drop n bytes))

pub whole_next : (text : List ℕ) → ends_whole text ≡ true → ends_whole (behind_line text) ≡ true
unfolding ends_whole
whole_next [] h = refl
whole_next (c ∷ []) h = grind arith
whole_next (c ∷ d ∷ rest) h = grind (arith, whole_next (d ∷ rest))
