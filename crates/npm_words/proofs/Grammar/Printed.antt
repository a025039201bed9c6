-- How versions print: how long, and which one prints `0.0.0`; which words have a comparator that is not valid; and that what is
-- printed is read again.
use Rattle.npm_words.proofs.Common.{Bool, Comparator, Comparison, Id, IsStrictPreRelease, IsStrictVersion, IsTrim, IsUtf8, IsVersionText, List}
use Rattle.npm_words.proofs.Common.{MAX_LENGTH, MAX_SAFE_INTEGER, Numbers, VersionValue, [], and_parts, ap, append-nil, arith, at_least, bare}
use Rattle.npm_words.proofs.Common.{both_ways, bytes_eq, bytes_eq-Decides, capped_partial, cases_Bool, chars, chars_from_encodes, codes, common_steps}
use Rattle.npm_words.proofs.Common.{compared, dashed, decimal, empty_is, encode_utf8_all, eqb-true, false, first, from, hyphen_lower, hyphen_upper}
use Rattle.npm_words.proofs.Common.{id_text, identifier_of, inl, inr, is_ascii_digit, is_identifier, is_identifier_char, is_release}
use Rattle.npm_words.proofs.Common.{is_strict_identifier, is_valid, is_zero, join_with_byte, length, length-append, list_all, map, marked_list}
use Rattle.npm_words.proofs.Common.{nat_le, nat_tests, no_build, no_pre_release, pieces, refl, release, subst, sym, true, under, version_text, whole}
use Rattle.npm_words.proofs.{Common.{within, ℕ, ◌&&◌, ◌++◌, ◌+◌, ◌<◌, ◌==◌, ◌^◌, ◌||◌, ◌∙◌, ◌∷◌, ◌≡◌, ◌≤◌}, FlawPlaces.Read.plain-encodes}
use Rattle.npm_words.{proofs.{FlawPlaces.Read.{plain-middle, plain-trim}, Grammar.VersionLaw.{digits_printed, number_printed}}, specs.Grammar.written}
use Rattle.{npm_words.specs.Table.{Partial, Sign, lowest, table}, semver_core.proofs.Printing.Returns.{decimal_digits, decimal_some}}
use Rattle.{semver_core.specs.{Internal.CommonReading.is_plain, Text.Identifiers.is_u64_text}, std.proofs.lemmas.Fmt.decimal_digit}
use Rattle.std.proofs.lemmas.{Fmt.{decimal_injective, length-decimal-le}, List.Splits.{join_with_byte-slice_split, length-slice_split}}
use Rattle.std.{proofs.lemmas.Str.{IsUtf8-from_ascii, chars-IsAscii}, specs.Str.IsAscii}
use Rattle.npm_words.specs.Internal.Parts as Parts

-- ---- lengths

-- what numbers up to the limit print, with the dots between them
pub numbers_short : (n : Numbers) → within n ≡ true → length (decimal n.0) + length (decimal n.1) + length (decimal n.2) + 2 ≤ 50
numbers_short n h = grind (arith, nat_tests, common_steps, and_parts, length-decimal-le 16)

pub text_length : (v : VersionValue) → length (version_text (Parts.no_build v))
    ≡ (length (decimal v.major) + length (decimal v.minor) + length (decimal v.patch) + 2) + length (marked_list (45 ∷ []) v.pre_release)
text_length v = grind (arith, length-append)

pub decimal_room : (n : ℕ) → n < 2 ^ 64 → length (decimal n) ≤ 20
decimal_room n h = length-decimal-le 20 n (omega arith) (omega arith) h

-- ---- the version that prints `0.0.0`

front_digit : (ds rest t : List ℕ) → list_all is_ascii_digit ds ≡ true → 0 < length ds → ds ++ 46 ∷ rest ≡ 48 ∷ (46 ∷ t)
    → (ds ≡ 48 ∷ []) × (rest ≡ t)
front_digit [] rest t d s e = absurd (omega arith)
front_digit (c ∷ []) rest t d s e = (grind arith, grind arith)
front_digit (c ∷ (b ∷ ds)) rest t d s e = grind arith

zero_from : (n : ℕ) → n < 2 ^ 64 → decimal n ≡ 48 ∷ [] → n ≡ 0
zero_from n h e = decimal_injective n 0 h (omega arith) (e ∙ sym (decimal_digit 0 (omega arith)))

unmarked : (ids builds : List Id) → marked_list (45 ∷ []) ids ++ marked_list (43 ∷ []) builds ≡ [] → (ids ≡ []) × (builds ≡ [])
unmarked ids builds e = grind (arith, nat_tests, common_steps)

pub prints_zero : (v : VersionValue) → v.major < 2 ^ 64 → v.minor < 2 ^ 64 → v.patch < 2 ^ 64
    → bytes_eq (version_text v) (codes "0.0.0") ≡ is_zero v
prints_zero v a b c =
    grind (arith, nat_tests, common_steps, bytes_eq-Decides, both_ways, front_digit, decimal_digits, decimal_some, unmarked, zero_from, and_parts, eqb-true, empty_is, decimal_digit)

-- ---- what is valid

pub bare_short : (v : VersionValue) → within (first (whole v)) ≡ true → is_release v ≡ true
    → true ≡ nat_le (length (version_text (Parts.no_build v))) MAX_LENGTH
bare_short v h e =
    rw (text_length v, empty_is v.pre_release e) (grind (arith, nat_tests, numbers_short (v.major, v.minor, v.patch) h))

lowest_short : (n : Numbers) → within n ≡ true → nat_le (length (version_text (lowest n))) MAX_LENGTH ≡ true
lowest_short n h = rw (text_length (lowest n)) (grind (arith, nat_tests, common_steps, decimal_digit, numbers_short n h))

valid_if : (a b : Bool) → (a ≡ true → b ≡ true) → (a && b) ≡ a
valid_if a b f = grind arith

pub from_valid : (include : Bool) (n : Numbers) → is_valid MAX_SAFE_INTEGER (from include n) ≡ within n
from_valid include n = grind (arith, nat_tests, common_steps, valid_if, lowest_short, bare_short (release n))

pub under_valid : (n : Numbers) → is_valid MAX_SAFE_INTEGER (under n) ≡ within n
under_valid n = valid_if (within n) _ (lowest_short n)

-- ---- the table

past-next : (n : ℕ) → nat_le n MAX_SAFE_INTEGER ≡ false → nat_le (n + 1) MAX_SAFE_INTEGER ≡ false
past-next n h = grind (arith, nat_tests)

pub table-invalid : (include : Bool) (s : Sign) (p : Partial) (text : List ℕ) → within (first p) ≡ false
    → list_all (is_valid MAX_SAFE_INTEGER) (table include s p text) ≡ false
table-invalid include s p text h = grind (arith, past-next)

-- ---- the ends of a hyphen range

pub lower-invalid : (c : Comparator) (include : Bool) (p : Partial) (text : List ℕ) → within (first p) ≡ false
    → list_all (is_valid MAX_SAFE_INTEGER) (hyphen_lower c include p text) ≡ false
lower-invalid c include p text h = let same = table-invalid include (compared at_least) p text h in grind (arith, table-invalid)

pub upper-invalid : (c : Comparator) (include : Bool) (p : Partial) (text : List ℕ) → within (first p) ≡ false
    → list_all (is_valid MAX_SAFE_INTEGER) (hyphen_upper c include p text) ≡ false
upper-invalid c include p text h = grind (arith, nat_tests, common_steps, table-invalid)

-- ---- numbers past the limit as the code has them

pub capped-within : (p : Partial) → within (first (capped_partial p)) ≡ within (first p)
capped-within p = grind arith

pub capped-same : (p : Partial) → within (first p) ≡ true → capped_partial p ≡ p
capped-same p h = grind arith

-- they count for no comparator that is valid
module _ (of : Partial → List Comparison) (past : (p : Partial) → within (first p) ≡ false → list_all (is_valid MAX_SAFE_INTEGER) (of p) ≡ false)
    (p : Partial) where
  pub capped-valid : list_all (is_valid MAX_SAFE_INTEGER) (of (capped_partial p)) ≡ list_all (is_valid MAX_SAFE_INTEGER) (of p)
  capped-valid = grind (arith, capped-same, capped-within, past)

  pub valid-within : list_all (is_valid MAX_SAFE_INTEGER) (of (capped_partial p)) ≡ true → within (first p) ≡ true
  valid-within h = grind (arith, capped-within, past)

  pub valid-same : list_all (is_valid MAX_SAFE_INTEGER) (of (capped_partial p)) ≡ true → capped_partial p ≡ p
  valid-same h = capped-same p (valid-within h)

-- ---- numbers and identifiers print as they are written

id_printed : (piece : List ℕ) → is_identifier piece ≡ true → is_strict_identifier piece ≡ true → id_text (identifier_of piece) ≡ piece
id_printed piece run strict = elim (cases_Bool (is_u64_text piece)) [
  | inl number ↦ grind (arith, nat_tests, common_steps, and_parts, digits_printed)
  | inr text ↦ rw text refl
]

ids_printed : (ps : List (List ℕ)) → list_all is_identifier ps ≡ true → list_all is_strict_identifier ps ≡ true → map id_text (map identifier_of ps) ≡ ps
ids_printed [] runs strict = refl
ids_printed (p ∷ ps) runs strict = grind (arith, nat_tests, common_steps, and_parts, id_printed, ids_printed ps)

list_printed : (mark : List ℕ) (ps : List (List ℕ)) → 0 < length ps → map id_text (map identifier_of ps) ≡ ps
    → marked_list mark (map identifier_of ps) ≡ mark ++ join_with_byte 46 ps
list_printed mark ps some e = grind (arith, nat_tests, common_steps)

pre_printed : (text : List ℕ) (ids : List Id) → IsStrictPreRelease text ids → marked_list (45 ∷ []) ids ≡ text
pre_printed text ids no_pre_release = refl
pre_printed text ids (bare rest list is strict f) = cc f
pre_printed text ids (dashed rest list is strict) =
    let some : 0 < length (pieces rest) = omega (arith, length-slice_split (λ c. c == 46) rest) in
    rw is.spelled (list_printed (45 ∷ []) (pieces rest) some (ids_printed (pieces rest) is.runs strict)
    ∙ ap (λ (t : List ℕ). 45 ∷ t) (join_with_byte-slice_split 46 rest))

-- ---- what is printed is a version strictly

printed : (text : List ℕ) (v : VersionValue) → IsStrictVersion MAX_SAFE_INTEGER text v → IsStrictVersion MAX_SAFE_INTEGER (version_text (Parts.no_build v)) (Parts.no_build v)
printed text v (written mark x y z pre build w m i j k p q) =
    let e : x ++ 46 ∷ (y ++ 46 ∷ (z ++ (pre ++ []))) ≡ version_text (Parts.no_build w) =
    grind (arith, nat_tests, common_steps, number_printed, pre_printed) in
    subst (λ (t : List ℕ). IsStrictVersion MAX_SAFE_INTEGER t (Parts.no_build w)) e
    (written [] x y z pre [] (Parts.no_build w) (inl refl) i j k p no_build)

-- ---- its characters

all_ascii : (text : List ℕ) → list_all is_plain text ≡ true → IsAscii text
all_ascii text h = grind (arith, nat_tests, common_steps)

-- ---- whole texts

plain_trim : (text : List ℕ) → list_all is_plain text ≡ true → IsTrim text text
plain_trim text h =
    subst (λ (t : List ℕ). IsTrim t text) (ap encode_utf8_all (append-nil text) ∙ plain-encodes text h) (plain-trim [] text [] refl h refl)

-- a trimmed text of these characters has no more of them than the whole
middle_short : (text middle : List ℕ) → IsUtf8 text → IsTrim text middle → list_all is_plain middle ≡ true → length middle ≤ length (chars text)
middle_short text middle u t h =
    let ascii = all_ascii middle h in
    let same : t.characters ≡ chars middle = chars_from_encodes t.characters middle (IsUtf8-from_ascii middle ascii) (sym t.middle_is) in
    grind (arith, nat_tests, common_steps, chars_from_encodes, chars-IsAscii, ascii, length-append)

printed_short : (text : List ℕ) (v : VersionValue) → IsStrictVersion MAX_SAFE_INTEGER text v → length (version_text (Parts.no_build v)) ≤ length text
printed_short text v (written mark x y z pre build w m i j k p q) = grind (arith, nat_tests, common_steps, number_printed, pre_printed, length-append)

pub reread : (text : List ℕ) (v : VersionValue) → IsUtf8 text → IsVersionText MAX_SAFE_INTEGER text v
    → IsVersionText MAX_SAFE_INTEGER (version_text (Parts.no_build v)) (Parts.no_build v)
    × (list_all (λ c. is_identifier_char c || (c == 46 || c == 43)) (version_text (Parts.no_build v)) ≡ true)
reread text v u (short, middle, trimmed, h) =
    let is = printed middle v h in
    let all = plain-middle MAX_SAFE_INTEGER (version_text (Parts.no_build v)) (Parts.no_build v) is in
    let same : chars (version_text (Parts.no_build v)) ≡ version_text (Parts.no_build v) = chars-IsAscii _ (all_ascii _ all) in
    let few = middle_short text middle u trimmed (plain-middle MAX_SAFE_INTEGER middle v h) in
    ((omega (arith, short, ap length same, printed_short middle v h, few), version_text (Parts.no_build v), plain_trim _ all, is), all)
