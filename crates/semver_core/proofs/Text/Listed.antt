-- A text that spells a list of identifiers is its own longest list.
use Rattle.semver_core.proofs.Common.{list_at, begins, is_identifier_char, Id, IsLongestIdentifiers, identifier_of}
use Rattle.semver_core.proofs.Common.{is_identifier, pieces, is_listed, listed, id_view, ids_view, Identifier, List, Some, []}
use Rattle.semver_core.proofs.Common.{ap, append-nil, arith, false, length, refl, sym, take, true, ℕ, ◌+◌, ◌<◌, ◌≤◌, ◌∙◌, ◌∷◌}
use Rattle.semver_core.proofs.Common.{◌≡◌, list_all, IsUtf8, ◌==◌, length-map, length-slice_split, IsUtf8-from_ascii}
use Rattle.semver_core.proofs.Common.{IsAscii-cons, IsAscii-nil, IsAscii, Numeric, IsId, Bool, subst, nat_tests, and_parts}
use Rattle.semver_core.proofs.Common.{digit_value, is_ascii_digit, All, map, All-cons, All-nil, join_with_byte}
use Rattle.semver_core.proofs.Common.{digits_value_after, if◌then◌else◌, zero-add}
use Rattle.{semver_core.specs.Internal.CommonReading.is_plain, std.proofs.lemmas.List.Splits.join_with_byte-slice_split}
use Rattle.{std.proofs.lemmas.Str.IsAscii-take, std.specs.List.count_by, std.proofs.lemmas.List.Sums.{count_by-le-length, sum_by-cons}, semver_core.proofs.Text.Pieces.first_char}
use Rattle.semver_core.proofs.Text.Pieces.{list_complete, runs_begin, runs_tail, some_inside, tail_onto, tail_runs, digits_grow}
use Rattle.semver_core.proofs.Text.Runs.{ascii as small_char, not_dot}

pub plain_runs : (text : List ℕ) → tail_runs (pieces text) ≡ true → list_all is_plain text ≡ true
plain_runs [] h = refl
plain_runs (c ∷ rest) h = grind (arith, nat_tests, first_char, plain_runs rest, runs_tail, tail_onto)

all_ascii : (p : ℕ → Bool) (text : List ℕ) → ((c : ℕ) → p c ≡ true → c < 128) → list_all p text ≡ true → IsAscii text
all_ascii p [] small h = IsAscii-nil
all_ascii p (c ∷ rest) small h =
    let both = and_parts (p c) (list_all p rest) h in IsAscii-cons c rest (small c both.0) (all_ascii p rest small both.1)

listed_ascii : (text : List ℕ) → is_listed text ≡ true → IsAscii text
unfolding is_listed
listed_ascii [] h = IsAscii-nil
listed_ascii (c ∷ rest) h = all_ascii is_plain (c ∷ rest) (λ c k. grind (arith, nat_tests)) (plain_runs (c ∷ rest) (runs_tail (pieces (c ∷ rest)) h))

pub listed_utf8 : (text : List ℕ) → is_listed text ≡ true → IsUtf8 text
listed_utf8 text h = IsUtf8-from_ascii text (listed_ascii text h)

pub front_utf8 : (text : List ℕ) (n : ℕ) → is_listed text ≡ true → IsUtf8 (take n text)
front_utf8 text n h = IsUtf8-from_ascii (take n text) (IsAscii-take text n (listed_ascii text h))

pub listed_begins : (text : List ℕ) → is_listed text ≡ true → 0 < length text → begins is_identifier_char text ≡ true
unfolding is_listed
listed_begins [] h some = absurd (omega arith)
listed_begins (c ∷ rest) h some = runs_begin (c ∷ rest) [] h

pub listed_all : (text : List ℕ) (ids : List Id) (end : ℕ) → is_listed text ≡ true → 0 < length text → Some (ids, end) ≡ list_at text 0 → ids ≡ listed text
unfolding is_listed listed
listed_all [] ids end h some e = absurd (omega arith)
listed_all (c ∷ rest) ids end h some e =
    let text = c ∷ rest in
    let whole : IsLongestIdentifiers text [] (listed text) = record { identifiers = record { runs = h; spelled = refl }; ended = refl } in
    let found = list_complete text 0 text [] (listed text) (sym (append-nil text)) whole in
    ap (λ (x : List Id × ℕ). x.0) (some_inside (ids, end) (listed text, 0 + length text) (e ∙ found.0))

pub listed_none : (text : List ℕ) → length text ≡ 0 → listed text ≡ []
unfolding listed
listed_none text h = grind arith

pub listed_count : (text : List ℕ) → 0 < length text → length (listed text) ≡ count_by (λ c. c == 46) text + 1
unfolding listed
listed_count [] h = absurd (omega arith)
listed_count (c ∷ rest) h = length-map (pieces (c ∷ rest)) identifier_of ∙ length-slice_split (λ c. c == 46) (c ∷ rest)

pub listed_some : (text : List ℕ) → 0 < length text → 0 < length (listed text)
listed_some text h = omega (arith, listed_count text h)

pub ruleset listed_read = (listed_utf8, listed_begins, listed_none, append-nil)

pub ruleset listed_counts = (listed_count, listed_none)

-- no more than the bytes, since the first of them is no dot
pub listed_most : (text : List ℕ) → is_listed text ≡ true → length (listed text) ≤ length text
listed_most [] h = omega (arith, ap length (listed_none [] refl))
listed_most (c ∷ rest) h =
    let dot : (c == 46) ≡ false = not_dot c (listed_begins (c ∷ rest) h (omega arith)) in
    let more : count_by (λ b. b == 46) (c ∷ rest) ≡ count_by (λ b. b == 46) rest =
    sum_by-cons (λ b. if b == 46 then 1 else 0) c rest ∙ rw dot (zero-add _) in
    omega (arith, count_by-le-length (λ c. c == 46) rest, listed_count (c ∷ rest) (omega arith), more)

-- ---- Which texts spell the number 0 alone, and that a text spells identifiers of versions.

abbrev is_zero : ℕ → Bool
is_zero c = c == 48

-- ---- the number 0 alone

zeros_whole : (text : List ℕ) → list_all is_zero text ≡ true → pieces text ≡ text ∷ []
zeros_whole [] h = refl
zeros_whole (c ∷ rest) h = grind (arith, nat_tests, zeros_whole rest)

zeros_value : (text : List ℕ) → list_all is_zero text ≡ true
    → (digits_value_after 10 0 text ≡ 0) × (list_all is_ascii_digit text ≡ true)
zeros_value [] h = (refl, refl)
zeros_value (c ∷ rest) h = grind (arith, nat_tests, zeros_value rest)

pub zeros_listed : (text : List ℕ) → 0 < length text → list_all is_zero text ≡ true → listed text ≡ Numeric 0 ∷ []
unfolding listed
zeros_listed [] some h = absurd (omega arith)
zeros_listed (c ∷ rest) some h = grind (arith, nat_tests, zeros_value (c ∷ rest), zeros_whole (c ∷ rest))

value_zeros : (text : List ℕ) → list_all is_ascii_digit text ≡ true → digits_value_after 10 0 text ≡ 0
    → list_all is_zero text ≡ true
value_zeros [] d e = refl
value_zeros (c ∷ rest) d e = grind (arith, nat_tests, digits_grow (digit_value c) rest, value_zeros rest)

one_piece : (ps : List (List ℕ)) → map identifier_of ps ≡ Numeric 0 ∷ [] → list_all is_zero (join_with_byte 46 ps) ≡ true
one_piece [] e = cc
one_piece (p ∷ []) e = grind (arith, value_zeros, e)
one_piece (p ∷ q ∷ ps) e = cc

pub listed_zeros : (text : List ℕ) → listed text ≡ Numeric 0 ∷ [] → list_all is_zero text ≡ true
unfolding listed
listed_zeros [] e = refl
listed_zeros (c ∷ rest) e =
    subst (λ (t : List ℕ). list_all is_zero t ≡ true) (join_with_byte-slice_split 46 (c ∷ rest)) (one_piece (pieces (c ∷ rest)) e)

-- ---- identifiers of versions

id_valid : (text : List ℕ) → is_identifier text ≡ true → IsId (identifier_of text)
id_valid text h =
    grind (arith, nat_tests, IsUtf8-from_ascii, all_ascii is_identifier_char text small_char)

ids_valid : (ps : List (List ℕ)) → list_all is_identifier ps ≡ true → All IsId (map identifier_of ps)
ids_valid [] h = All-nil IsId
ids_valid (p ∷ ps) h = grind (arith, All-cons, id_valid p, ids_valid ps)

pub listed_valid : (text : List ℕ) → is_listed text ≡ true → All IsId (listed text)
unfolding is_listed listed
listed_valid [] h = All-nil IsId
listed_valid (c ∷ rest) h = ids_valid (pieces (c ∷ rest)) h

-- a text that spells no identifier is empty
pub listed_empty : (text : List ℕ) → listed text ≡ [] → text ≡ []
listed_empty [] h = refl
listed_empty (c ∷ rest) h = absurd (omega (arith, listed_some (c ∷ rest) (omega arith), ap length h))

pub ruleset listed_bounds = (listed_most, length-map)

pub ruleset zero_texts = (zeros_listed, listed_zeros, listed_none)
