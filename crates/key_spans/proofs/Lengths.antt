-- Keys are short.
use Rattle.std.proofs.Common.{ℕ, ◌≡◌, ◌<◌, ◌≤◌, ◌^◌, ◌+◌, ◌*◌, ◌++◌, ◌∷◌, List, [], Bool, true, false, refl, ap, arith, zero, suc, sym, subst, true≢false, map, inl, inr}
use Rattle.std.proofs.lemmas.Bool.{and_parts, cases_lt}
use Rattle.std.proofs.lemmas.List.{length-append}
use Rattle.std.proofs.lemmas.List.Splits.{join_with_byte-slice_split}
use Rattle.std.proofs.lemmas.Str.Parse.{digits_value_short}
use Rattle.std.proofs.Math.Nat.{pow-le-pow_right}
use Rattle.std.specs.Char.{is_ascii_digit}
use Rattle.std.specs.List.{join_with_byte, list_all}
use Rattle.std.specs.Prelude.{codes, if◌then◌else◌, length, nat_lt}
use Rattle.std.specs.Str.Parse.{digits_value}
use borrow.Author.Tests.{ltb-true}
use Rattle.semver_core.proofs.Encoding.Numbers.{Form, eight, form, four, one, two}
use Rattle.semver_core.proofs.Text.Runs.{numerals}
use Rattle.semver_core.proofs.Printing.Returns.{version_back}
use Rattle.semver_core.specs.Internal.Readable.{readable}
use Rattle.semver_core.specs.Printing.RoundTrip.{is_readable}
use Rattle.semver_core.specs.Printing.Text.{version_text}
use Rattle.semver_core.specs.Keys.{id_key, ids_key, key, number_key, pre_key, text_key}
use Rattle.semver_core.specs.Text.Characters.{is_identifier_char}
use Rattle.semver_core.specs.Text.Identifiers.{AlphaNumeric, Id, IsIdentifiers, Numeric, identifier_of, is_identifier, is_u64_text, pieces}
use Rattle.semver_core.specs.Text.Numbers.{IsNumber}
use Rattle.semver_core.specs.Text.Parsing.{Parses}
use Rattle.semver_core.specs.Text.VersionText.{IsPreRelease, Reads, bare, dashed, no_pre_release}
use Rattle.semver_core.specs.Values.Versions.{VersionValue}

-- ---- numbers

more_digits : (j d n : ℕ) → 10 ^ j ≤ n → n < 10 ^ d → j < d
more_digits j d n h g = elim (cases_lt j d) [
  | inl u ↦ u
  | inr u ↦ absurd (let m : 10 ^ d ≤ 10 ^ j = pow-le-pow_right {n = 10} (omega arith) u in omega arith)
]

short_by : (n d : ℕ) (k : List ℕ) → Form n k → n < 10 ^ d → 0 < d → length k ≤ d
short_by n d _ (one a) h s = omega arith
short_by n d _ (two a b) h s = let u : 2 < d = more_digits 2 d n (omega arith) h in omega arith
short_by n d _ (four a b) h s = let u : 4 < d = more_digits 4 d n (omega arith) h in omega arith
short_by n d _ (eight a b) h s = let u : 9 < d = more_digits 9 d n (omega arith) h in omega arith

pub number_short : (n d : ℕ) → n < 10 ^ d → 0 < d → n < 2 ^ 64 → length (number_key n) ≤ d
number_short n d h s k = short_by n d (number_key n) (form n k) h s

digits_short : (digits : List ℕ) → list_all is_ascii_digit digits ≡ true → 0 < length digits → digits_value 10 digits < 2 ^ 64
    → length (number_key (digits_value 10 digits)) ≤ length digits
digits_short digits h s k = number_short (digits_value 10 digits) (length digits)
    (digits_value_short numerals digits (length digits) h (omega arith)) s k

read_short : (limit : ℕ) (digits : List ℕ) (n : ℕ) → limit < 2 ^ 64 → IsNumber limit digits n → length (number_key n) ≤ length digits
read_short limit digits n h g = subst (λ m. length (number_key m) ≤ length digits) (sym g.value)
    (digits_short digits g.each g.some (subst (λ m. m < 2 ^ 64) g.value (let u = g.safe in omega arith)))

-- ---- identifiers

text_short : (text : List ℕ) → list_all is_identifier_char text ≡ true → length (text_key text) ≡ length text + 1
text_short [] h = refl
text_short (zero ∷ text) h = absurd (true≢false (sym h))
text_short (suc c ∷ text) h = let e = text_short text (and_parts (is_identifier_char (suc c)) _ h).1 in omega arith

id_by : (t : Bool) (text : List ℕ) → is_u64_text text ≡ t → is_identifier text ≡ true
    → length (id_key (if t then Numeric (digits_value 10 text) else AlphaNumeric text)) ≤ length text + 2
id_by true text e h =
    let both = and_parts (list_all is_ascii_digit text) (nat_lt (digits_value 10 text) (2 ^ 64)) e in
    let some : 0 < length text = ltb-true 0 (length text) (and_parts (nat_lt 0 (length text)) _ h).0 in
    let u : length (number_key (digits_value 10 text)) ≤ length text = digits_short text both.0 some (ltb-true (digits_value 10 text) (2 ^ 64) both.1) in
    omega arith
id_by false text e h = let u = text_short text (and_parts (nat_lt 0 (length text)) (list_all is_identifier_char text) h).1 in omega arith

id_short : (text : List ℕ) → is_identifier text ≡ true → length (id_key (identifier_of text)) ≤ length text + 2
id_short text h = id_by (is_u64_text text) text refl h

ids_short : (x : List ℕ) (xs : List (List ℕ)) → list_all is_identifier (x ∷ xs) ≡ true
    → length (ids_key (map identifier_of (x ∷ xs))) ≤ 2 * length (join_with_byte 46 (x ∷ xs)) + 2
ids_short x [] h =
    let own : is_identifier x ≡ true = (and_parts (is_identifier x) true h).0 in
    let some : 0 < length x = ltb-true 0 (length x) (and_parts (nat_lt 0 (length x)) _ own).0 in
    let u = id_short x own in
    let e = length-append (id_key (identifier_of x)) (0 ∷ []) in
    omega arith
ids_short x (y ∷ xs) h =
    let both = and_parts (is_identifier x) (list_all is_identifier (y ∷ xs)) h in
    let u = id_short x both.0 in
    let v = ids_short y xs both.1 in
    let e = length-append (id_key (identifier_of x)) (ids_key (map identifier_of (y ∷ xs))) in
    let f = length-append x (46 ∷ join_with_byte 46 (y ∷ xs)) in
    omega arith

list_short : (xs : List (List ℕ)) → list_all is_identifier xs ≡ true
    → length (pre_key (map identifier_of xs)) ≤ 2 * length (join_with_byte 46 xs) + 2
list_short [] h = omega arith
list_short (x ∷ xs) h = ids_short x xs h

listed_short : (text : List ℕ) (list : List Id) → IsIdentifiers text list → length (pre_key list) ≤ 2 * length text + 2
listed_short text list h = subst (λ l. length (pre_key l) ≤ 2 * length text + 2) (sym h.spelled)
    (subst (λ t. length (pre_key (map identifier_of (pieces text))) ≤ 2 * length t + 2) (join_with_byte-slice_split 46 text)
    (list_short (pieces text) h.runs))

pre_short : (text rest : List ℕ) (list : List Id) → IsPreRelease text rest list → length (pre_key list) ≤ 2 * length text + 2
pre_short _ rest list (dashed x y l h) = let u = listed_short x list h.identifiers in omega (arith, length-append (codes "-") x)
pre_short _ rest list (bare text y l h e) = listed_short text list h.identifiers
pre_short _ rest list (no_pre_release y e) = omega arith

-- ---- versions

pub text_twice : (limit : ℕ) (text : List ℕ) (v : VersionValue) → limit < 2 ^ 64 → Reads limit text v → length (key v) ≤ 2 * length text
text_twice limit text v h r =
    let M = read_short limit r.major v.major h r.major_is in
    let m = read_short limit r.minor v.minor h r.minor_is in
    let p = read_short limit r.patch v.patch h r.patch_is.number in
    let q = pre_short r.pre_release (r.build ++ r.rest) v.pre_release r.pre_release_is in
    omega (
      arith,
      M,
      m,
      p,
      q,
      simp length-append at (ap length r.divided),
      length-append (number_key v.major) (number_key v.minor ++ (number_key v.patch ++ pre_key v.pre_release)),
      length-append (number_key v.minor) (number_key v.patch ++ pre_key v.pre_release),
      length-append (number_key v.patch) (pre_key v.pre_release),
    )

pub text_512 : (limit : ℕ) (text : List ℕ) (v : VersionValue) → limit < 2 ^ 64 → Parses limit text v → length (key v) ≤ 512
text_512 limit text v h p = let u = p.short in let w = text_twice limit text v h p.reads in omega arith

pub printed_twice : (limit : ℕ) (v : VersionValue) → limit < 2 ^ 64 → is_readable limit v ≡ true → length (key v) ≤ 2 * length (version_text v)
printed_twice limit v h e = text_twice limit (version_text v) v h (version_back limit v h (readable limit v e))
