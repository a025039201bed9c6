-- Worked rows, computed: node-semver's table, which versions a list of alternatives accepts, and which texts are versions.
use Rattle.npm_words.proofs.Common.{AlphaNumeric, AreWords, Bool, Comparison, Id, List, None, Numeric, Option, Some, VersionValue, [], above}
use Rattle.npm_words.proofs.Common.{after_ends, after_spaces, alternative_of, alternatives_of, are_marks, arith, at_least, at_most, begins_undashed}
use Rattle.npm_words.proofs.Common.{behind_ignored, below, build_front, codes, common_steps, compared, digits, dotted_patch, dotted_place, end_front}
use Rattle.npm_words.proofs.Common.{equal, false, first_word, from_boundary, hyphen_ends, hyphen_lower, hyphen_upper, is_boundary, is_lost, is_some}
use Rattle.npm_words.proofs.Common.{is_spelled, is_valid, join_with_byte, length, list_all, list_len, listed, major, map, may_stand, minor, nat_lt}
use Rattle.npm_words.proofs.Common.{nat_tests, npm_sign, number_of, number_with, patch_front, patch_place, place_front, pre_front, pre_release_front}
use Rattle.npm_words.proofs.Common.{pre_release_with, qualified_partial, qualified_version, refl, release_value, signed_word, space_len, spelling}
use Rattle.npm_words.proofs.Common.{true, tuple_len, tuple_release, whole, whole_version, wildcard, words_within, ℕ, ◌++◌, ◌>>?◌, ◌∷◌, ◌≡◌}
use Rattle.npm_words.{proofs.Grammar.Words.words-found, specs.{Alternatives.accepts, Internal.Inside.{are_inside, behind_id, behind_ids}}}
use Rattle.npm_words.specs.Internal.{Inside.{behind_partial, behind_place, behind_places, behind_pre_release}, Words.{places_front, takes_on}}
use Rattle.{npm_words.specs.Table.{Partial, Sign, caret, table, tilde, written_zeros}, std.{proofs.lemmas.Str.IsUtf8-from_ascii, specs.List.list_any}}
use Rattle.std.specs.Str.{IsAscii}

-- ---- the table, as node-semver prints the range of each word

-- `1.2.3`, and `1.2.3-a`
abbrev plain : ℕ → ℕ → ℕ → Partial
plain M m p = whole (release_value M m p)

abbrev lettered : ℕ → ℕ → ℕ → VersionValue
lettered M m p = record (release_value M m p) { pre_release = AlphaNumeric (codes "a") ∷ [] }

abbrev printed : List Comparison → List ℕ
printed cs = join_with_byte 32 (map (λ (c : Comparison). spelling (compared c.sign) ++ c.text) cs)

-- of a word of a partial with this text
abbrev row : Bool → Sign × Partial × List ℕ → List ℕ
row include w = printed (table include w.0 w.1 w.2)

abbrev partials : Bool → List (List ℕ)
partials include = map (row include)
    ((compared equal, major 1, codes "1") ∷ (compared equal, minor 1 2, codes "1.2") ∷ (caret, major 1, codes "1") ∷ (caret, minor 0 2, codes "0.2")
    ∷ (caret, minor 1 2, codes "1.2") ∷ (tilde, major 1, codes "1") ∷ (tilde, minor 1 2, codes "1.2") ∷ (compared at_least, major 1, codes "1")
    ∷ (compared above, major 1, codes "1") ∷ (compared above, minor 1 2, codes "1.2") ∷ (compared below, major 1, codes "1")
    ∷ (compared below, minor 1 2, codes "1.2") ∷ (compared at_most, major 1, codes "1") ∷ (compared at_most, minor 1 2, codes "1.2") ∷ [])

-- `1`, `1.2`, `^1`, `^0.2`, `^1.2`, `~1`, `~1.2`, `>=1`, `>1`, `>1.2`, `<1`, `<1.2`, `<=1`, `<=1.2`, without pre-releases included and with them
row-partials : (partials false
    ≡ codes ">=1.0.0 <2.0.0-0" ∷ codes ">=1.2.0 <1.3.0-0" ∷ codes ">=1.0.0 <2.0.0-0" ∷ codes ">=0.2.0 <0.3.0-0" ∷ codes ">=1.2.0 <2.0.0-0"
    ∷ codes ">=1.0.0 <2.0.0-0" ∷ codes ">=1.2.0 <1.3.0-0" ∷ codes ">=1.0.0" ∷ codes ">=2.0.0" ∷ codes ">=1.3.0"
    ∷ codes "<1.0.0-0" ∷ codes "<1.2.0-0" ∷ codes "<2.0.0-0" ∷ codes "<1.3.0-0" ∷ [])
    × (partials true
    ≡ codes ">=1.0.0-0 <2.0.0-0" ∷ codes ">=1.2.0-0 <1.3.0-0" ∷ codes ">=1.0.0-0 <2.0.0-0" ∷ codes ">=0.2.0-0 <0.3.0-0" ∷ codes ">=1.2.0-0 <2.0.0-0"
    ∷ codes ">=1.0.0 <2.0.0-0" ∷ codes ">=1.2.0 <1.3.0-0" ∷ codes ">=1.0.0-0" ∷ codes ">=2.0.0-0" ∷ codes ">=1.3.0-0"
    ∷ codes "<1.0.0-0" ∷ codes "<1.2.0-0" ∷ codes "<2.0.0-0" ∷ codes "<1.3.0-0" ∷ [])
unfolding digits written_zeros
row-partials = (refl, refl)

-- `^1.2.3`, `^0.2.3`, `^0.0.3`, `^0.0.3-a` and `~1.2.3-a`, without pre-releases included and with them
abbrev carets : Bool → List (List ℕ)
carets include = map (row include)
    ((caret, plain 1 2 3, codes "1.2.3") ∷ (caret, plain 0 2 3, codes "0.2.3") ∷ (caret, plain 0 0 3, codes "0.0.3")
    ∷ (caret, whole (lettered 0 0 3), codes "0.0.3-a") ∷ (tilde, whole (lettered 1 2 3), codes "1.2.3-a") ∷ [])

row-carets : (carets false ≡ codes ">=1.2.3 <2.0.0-0" ∷ codes ">=0.2.3 <0.3.0-0" ∷ codes ">=0.0.3 <0.0.4-0" ∷ codes ">=0.0.3-a <0.0.4-0"
    ∷ codes ">=1.2.3-a <1.3.0-0" ∷ [])
    × (carets true ≡ codes ">=1.2.3 <2.0.0-0" ∷ codes ">=0.2.3-0 <0.3.0-0" ∷ codes ">=0.0.3-0 <0.0.4-0"
    ∷ codes ">=0.0.3-a <0.0.4-0" ∷ codes ">=1.2.3-a <1.3.0-0" ∷ [])
unfolding digits written_zeros
row-carets = (refl, refl)

-- loosely, zero as several digits: `^00.1.2`, `^0.00.3`, `^v00.1`, and `>=00`, `^0.00`, `~0.0.00` and `0.0`
abbrev zeros_padded : Bool → List (List ℕ)
zeros_padded include = map (row include)
    ((caret, plain 0 1 2, codes "00.1.2") ∷ (caret, plain 0 0 3, codes "0.00.3") ∷ (caret, minor 0 1, codes "v00.1")
    ∷ (compared at_least, major 0, codes "00") ∷ (caret, minor 0 0, codes "0.00") ∷ (tilde, plain 0 0 0, codes "0.0.00")
    ∷ (compared equal, minor 0 0, codes "0.0") ∷ [])

row-zeros_padded : (zeros_padded false ≡ codes ">=0.1.2 <1.0.0-0" ∷ codes ">=0.0.3 <0.1.0-0" ∷ codes ">=0.1.0 <1.0.0-0" ∷ codes ">=00.0.0"
    ∷ codes ">=00.0.0 <0.1.0-0" ∷ codes ">=00.0.0 <0.1.0-0" ∷ codes ">=0.0.0 <0.1.0-0" ∷ [])
    × (zeros_padded true ≡ codes ">=0.1.2 <1.0.0-0" ∷ codes ">=0.0.3-0 <0.1.0-0" ∷ codes ">=0.1.0-0 <1.0.0-0"
    ∷ codes ">=0.0.0-0" ∷ codes ">=0.0.0-0 <0.1.0-0" ∷ codes ">=00.0.0 <0.1.0-0" ∷ codes ">=0.0.0-0 <0.1.0-0" ∷ [])
unfolding digits written_zeros
row-zeros_padded = (refl, refl)

-- a wildcard ends the numbers, and a pre-release does
row-written_zeros : map written_zeros (codes "0" ∷ codes "= 0.x.0" ∷ codes "0.10" ∷ codes "0.0.0-a.0" ∷ codes "1.0.0" ∷ [])
    ≡ 1 ∷ 1 ∷ 1 ∷ 3 ∷ 0 ∷ []
unfolding written_zeros
row-written_zeros = refl

-- `*`, `^*`, `>=*`, `>*` and `<*`
row-wildcards : map (λ s. printed (table false s wildcard [])) (compared equal ∷ caret ∷ compared at_least ∷ compared above ∷ compared below ∷ [])
    ≡ [] ∷ [] ∷ [] ∷ codes "<0.0.0-0" ∷ codes "<0.0.0-0" ∷ []
unfolding digits written_zeros
row-wildcards = refl

-- `1 - 2`, `1.2.3 - 2.3.4` and `1 - 2.3.4-a`
abbrev hyphens : Bool → List (List ℕ)
hyphens include = map (λ (row : Partial × Partial). printed (hyphen_lower at_least include row.0 (codes "1.2.3") ++ hyphen_upper at_most include row.1 (codes "2.3.4")))
    ((major 1, major 2) ∷ (plain 1 2 3, plain 2 3 4) ∷ (major 1, whole (lettered 2 3 4)) ∷ [])

row-hyphens : (hyphens false ≡ codes ">=1.0.0 <3.0.0-0" ∷ codes ">=1.2.3 <=2.3.4" ∷ codes ">=1.0.0 <=2.3.4-a" ∷ [])
    × (hyphens true ≡ codes ">=1.0.0-0 <3.0.0-0" ∷ codes ">=1.2.3-0 <2.3.5-0" ∷ codes ">=1.0.0-0 <=2.3.4-a" ∷ [])
unfolding digits written_zeros
row-hyphens = (refl, refl)

-- ---- which versions are accepted

-- `* || 1.0.0-a` does not accept `1.0.0-a`, and `1 || 1.0.0-a` does
row-star_beside : map (λ p. accepts false (table false (compared equal) p [] ∷ (table false (compared equal) (whole (lettered 1 0 0)) (codes "1.0.0-a") ∷ [])) (lettered 1 0 0))
    (wildcard ∷ major 1 ∷ []) ≡ false ∷ true ∷ []
unfolding digits written_zeros
row-star_beside = refl

-- `^1` accepts `1.0.0-a` where pre-releases are included, and only there
row-included : map (λ include. accepts include (table include caret (major 1) [] ∷ []) (lettered 1 0 0)) (false ∷ true ∷ []) ≡ false ∷ true ∷ []
unfolding digits written_zeros
row-included = refl

-- `>=1.2.3-a` accepts `1.2.3-a`, and `1.2.4-a` only where pre-releases are included
abbrev from_a : Bool → VersionValue → Bool
from_a include v = accepts include (table include (compared at_least) (whole (lettered 1 2 3)) (codes "1.2.3-a") ∷ []) v

row-named : from_a false (lettered 1 2 3) ∷ from_a false (lettered 1 2 4) ∷ from_a true (lettered 1 2 4) ∷ [] ≡ true ∷ false ∷ true ∷ []
unfolding digits written_zeros
row-named = refl

-- `>=0 >=0.0.0-a` accepts `0.0.0-a`, since `>=0.0.0` does not count, and `>=v0.0.0 >=0.0.0-a` does not
abbrev zero_and_a : List ℕ → Bool
zero_and_a text = accepts false
    ((table false (compared at_least) (plain 0 0 0) text ++ table false (compared at_least) (whole (lettered 0 0 0)) (codes "0.0.0-a")) ∷ [])
    (lettered 0 0 0)

row-zero : zero_and_a (codes "0.0.0") ∷ zero_and_a (codes "v0.0.0") ∷ [] ≡ true ∷ false ∷ []
unfolding digits written_zeros
row-zero = refl

-- `>1 <1` accepts neither `1.0.0` nor `2.0.0`; `>* || 1` accepts `1.0.0`
row-nothing : (map (accepts false ((table false (compared above) (major 1) [] ++ table false (compared below) (major 1) []) ∷ []))
    (release_value 1 0 0 ∷ release_value 2 0 0 ∷ []) ≡ false ∷ false ∷ [])
    × (accepts false (table false (compared above) wildcard [] ∷ (table false (compared equal) (major 1) [] ∷ [])) (release_value 1 0 0) ≡ true)
unfolding digits written_zeros
row-nothing = (refl, refl)

-- `>9007199254740991` is rejected for its number, and `<9007199254740991` is not
row-limit : map (λ s. map (is_valid 9007199254740991) (table false (compared s) (major 9007199254740991) [])) (above ∷ below ∷ [])
    ≡ (false ∷ []) ∷ ((true ∷ []) ∷ [])
unfolding digits written_zeros
row-limit = refl

-- ---- how words are written

-- a text is these words, since they are what is read of it
read_words : (loose : Bool) (text : List ℕ) (all : List (Option (List Comparison))) → list_all (λ b. nat_lt b 128) text ≡ true
    → words_within loose false (length text) text ≡ Some all → AreWords loose false text all
read_words loose text all low h =
    let ascii : IsAscii text = grind (arith, nat_tests, common_steps) in words-found loose false (length text) text all (IsUtf8-from_ascii text ascii) h

-- `> =1` is `>=1`, `^ = 1` is `^1`, `~> >1` is `~1`, and loosely `^01` is `^1`
row-words : AreWords false false (codes "> =1") (Some (table false (compared at_least) (major 1) (codes "1")) ∷ [])
    × AreWords false false (codes "^ = 1") (Some (table false caret (major 1) (codes "1")) ∷ [])
    × AreWords false false (codes "~> >1") (Some (table false tilde (major 1) (codes "1")) ∷ [])
    × AreWords true false (codes "^01") (Some (table false caret (major 1) (codes "01")) ∷ [])
unfolding words_within first_word signed_word is_boundary space_len after_spaces npm_sign places_front place_front dotted_place
row-words = (
  read_words false (codes "> =1") _ refl refl,
  read_words false (codes "^ = 1") _ refl refl,
  read_words false (codes "~> >1") _ refl refl,
  read_words true (codes "^01") _ refl refl,
)

-- strictly `01` stands for no number, and `00` for none
row-spelled : is_spelled true (codes "01") ∷ is_spelled false (codes "01") ∷ is_spelled true (codes "00") ∷ is_spelled false (codes "00")
    ∷ is_spelled false (codes "0") ∷ [] ≡ true ∷ false ∷ true ∷ false ∷ true ∷ []
row-spelled = refl

-- `beta` and `4.5` may stand without `-` loosely, behind a wildcard `1beta`, and the identifier `01`
row-bare : map (begins_undashed false) (codes "beta" ∷ codes "-beta" ∷ codes "1beta" ∷ codes "4.5" ∷ codes "-" ∷ codes "--" ∷ codes "-.5" ∷ codes "4"
    ∷ codes "45.6" ∷ codes "4a" ∷ codes "-a" ∷ [])
    ≡ true ∷ false ∷ false ∷ true ∷ true ∷ false ∷ true ∷ false ∷ false ∷ false ∷ false ∷ []
row-bare = refl

row-wild : map (begins_undashed true) (codes "beta" ∷ codes "-beta" ∷ codes "1beta" ∷ codes "4" ∷ codes "-" ∷ codes "--" ∷ [])
    ≡ true ∷ false ∷ true ∷ true ∷ true ∷ false ∷ []
row-wild = refl

row-identifiers : may_stand true (codes "rc.01") ∷ may_stand false (codes "rc.01") ∷ may_stand false (codes "rc.1") ∷ []
    ≡ true ∷ false ∷ true ∷ []
row-identifiers = refl

-- `==1.2.3` and `>=vv1.2.3` have marks that stand there loosely
row-marks : map (λ loose. are_marks loose (compared equal) (plain 1 2 3) (codes "=") ∷ (are_marks loose (compared at_least) (plain 1 2 3) (codes "vv")
    ∷ [])) (true ∷ false ∷ [])
    ≡ (true ∷ true ∷ []) ∷ ((false ∷ false ∷ []) ∷ [])
row-marks = refl

-- ---- malformed words

-- behind `^`, `~` and `~>` goes on what follows, but for a `=` alone behind `~>`; behind `<` and `foo=` a place, also
-- one with marks; and behind `v=` nothing, unless a partial ends in the `v`
row-takes : map (λ (r : List ℕ × List ℕ). takes_on r.0 r.1)
    ((codes "foo^", codes "bar") ∷ (codes "~", codes "=") ∷ (codes "~>", codes "a") ∷ (codes "~>", codes "= 1") ∷ (codes "a<", codes "v1") ∷ (codes "foo=", codes "1")
    ∷ (codes "foo=", codes "a") ∷ (codes "v=", codes "1") ∷ (codes "foo", codes "1") ∷ (codes "1.2.3v=", codes "1") ∷ (codes "1.2v=", codes "1") ∷ [])
    ≡ true ∷ true ∷ true ∷ false ∷ true ∷ true ∷ false ∷ false ∷ false ∷ true ∷ false ∷ []
unfolding takes_on are_inside behind_partial behind_places behind_place behind_pre_release behind_ids behind_id build_front list_len
row-takes = refl

-- a text ends in a partial, the last of those that are found from the left, each the longest where it stands
abbrev ends : List ℕ → Bool
ends text = are_inside (length text) text

row-ends : (list_all ends (codes ">1.2.3-dev" ∷ codes "foo01.2.3dev" ∷ codes "1.2.3-rc.1.dev" ∷ codes "1.2.3-.v" ∷ codes "1.2.3-a+1v" ∷ codes "1.2.3+v"
    ∷ codes "1.2.3,1.2.3v" ∷ codes "1.x.3-v" ∷ codes "x.2.3+v" ∷ codes "1.2.3-5a1.2.3v" ∷ []) ≡ true)
    × (list_any ends (codes "1.2.3-1v" ∷ codes "1.2.34.v" ∷ codes "1.2.3.4v" ∷ codes "1.2v" ∷ codes "1.2.3-a,v" ∷ codes "x.2.3v" ∷ codes "1.02.x-v"
    ∷ codes "1.x.3-01v" ∷ codes "1.1.2.3v" ∷ []) ≡ false)
unfolding are_inside behind_partial behind_places behind_place behind_pre_release behind_ids behind_id build_front list_len
row-ends = (refl, refl)

row-behind : map (λ (text : List ℕ). behind_ignored (length text) text)
    (codes "foo 1" ∷ codes "foo= 1 2" ∷ codes "foo^ bar 1" ∷ codes "~> = 1" ∷ codes "1x 1" ∷ codes "v= 1" ∷ codes "1.2.3-dev= 1 2" ∷ codes "foo" ∷ [])
    ≡ codes " 1" ∷ codes " 2" ∷ codes " 1" ∷ codes " = 1" ∷ codes " 1" ∷ codes " 1" ∷ codes " 2" ∷ [] ∷ []
unfolding behind_ignored from_boundary is_boundary space_len after_spaces takes_on are_inside behind_partial behind_places behind_place behind_pre_release
    behind_ids behind_id build_front list_len
row-behind = refl

-- `>=1.0.0, <2.0.0` and `latest 1` have an ignored word loosely, and are rejected strictly
abbrev loose_words : Bool → List ℕ → Option (List (Option (List ℕ)))
loose_words loose text = words_within loose false (length text) text >>? λ read. Some (map (λ o. o >>? λ cs. Some (printed cs)) read)

row-ignored : map (loose_words true) (codes ">=1.0.0, <2.0.0" ∷ codes "latest 1" ∷ codes "foo= 1 <2" ∷ []) ++ map (loose_words false) (codes ">=1.0.0, <2.0.0" ∷ [])
    ≡ Some (None ∷ Some (codes "<2.0.0") ∷ []) ∷ Some (None ∷ Some (codes ">=1.0.0 <2.0.0-0") ∷ []) ∷ Some (None ∷ Some (codes "<2.0.0-0") ∷ []) ∷ None ∷ []
unfolding words_within first_word signed_word behind_ignored from_boundary is_boundary space_len after_spaces npm_sign places_front place_front dotted_place
    dotted_patch patch_place qualified_partial pre_front pre_release_with pre_release_front build_front listed digits written_zeros takes_on are_inside behind_partial
    behind_places behind_place behind_pre_release behind_ids behind_id
row-ignored = refl

-- `latest || 1` is `1`
row-alternatives : (alternatives_of true false (codes "latest" ∷ codes "1" ∷ []) >>? λ all. Some (map printed all)) ≡ Some (codes ">=1.0.0 <2.0.0-0" ∷ [])
unfolding alternatives_of alternative_of hyphen_ends end_front after_ends words_within first_word signed_word behind_ignored from_boundary is_boundary space_len
    after_spaces npm_sign places_front place_front dotted_place dotted_patch patch_place qualified_partial pre_front pre_release_with pre_release_front build_front
    listed digits written_zeros takes_on
row-alternatives = refl

-- nothing is left of `foo`, `foo bar` and `foo * bar`, and something of `foo *`, `foo 1 bar` and no words
row-lost : map is_lost ((None ∷ []) ∷ (None ∷ None ∷ []) ∷ (None ∷ Some [] ∷ None ∷ []) ∷ (None ∷ Some [] ∷ [])
    ∷ (None ∷ Some (table false (compared equal) (major 1) []) ∷ None ∷ []) ∷ [] ∷ [])
    ≡ true ∷ true ∷ true ∷ false ∷ false ∷ false ∷ []
row-lost = refl

abbrev read_loose : List ℕ → Option VersionValue
read_loose text = whole_version true 9007199254740991 text

-- 1.2.3 with a pre-release and a build
abbrev tagged : List Id → List Id → Option VersionValue
tagged pre build = Some (record { major = 1; minor = 2; patch = 3; pre_release = pre; build = build })

-- what is read, and not: a missing number, what stands behind, no digit left for the patch number, the mark `V`, a number past the limit
row-loose : (map read_loose (codes "1.2.3" ∷ codes "=v 01.02.003" ∷ codes "1.2.3-01" ∷ codes "1.2.3beta+07" ∷ codes "1.2.3-" ∷ codes "1.2.3--"
    ∷ codes "1.2.34.5" ∷ [])
    ≡ tagged [] [] ∷ tagged [] [] ∷ tagged (Numeric 1 ∷ []) [] ∷ tagged (AlphaNumeric (codes "beta") ∷ []) (Numeric 7 ∷ [])
    ∷ tagged (AlphaNumeric (codes "-") ∷ []) [] ∷ tagged (AlphaNumeric (codes "-") ∷ []) [] ∷ tagged (Numeric 4 ∷ Numeric 5 ∷ []) [] ∷ [])
    × (list_any (λ (text : List ℕ). is_some (read_loose text)) (codes "1.2" ∷ codes "1.2.3.4" ∷ codes "1.2.3 4" ∷ codes "1.2.34." ∷ codes "V1.2.3"
    ∷ codes "1.2.3+" ∷ codes "1.2.3a..b" ∷ codes "0.0.9007199254740992" ∷ []) ≡ false)
unfolding whole_version number_with patch_front qualified_version pre_front pre_release_with pre_release_front build_front number_of list_len listed after_ends space_len
row-loose = (refl, refl)

-- the longest tuple at the front
row-tuples : map tuple_len (codes "1.2.3.4" ∷ codes "1.2.x" ∷ codes "20.11 (LTS)" ∷ codes "x1" ∷ codes "1..2" ∷ codes "1234567890123456"
    ∷ codes "12345678901234567.1" ∷ codes "1.12345678901234567" ∷ [])
    ≡ 5 ∷ 3 ∷ 5 ∷ 0 ∷ 1 ∷ 16 ∷ 0 ∷ 1 ∷ []
unfolding tuple_len
row-tuples = refl

abbrev released : Bool → List ℕ → Option VersionValue
released zeros tuple = tuple_release zeros 9007199254740991 tuple

row-releases : (map (released false) (codes "1.2.3" ∷ codes "20.11" ∷ codes "2" ∷ codes "01.2" ∷ codes "1.02" ∷ codes "9007199254740992" ∷ [])
    ≡ Some (release_value 1 2 3) ∷ Some (release_value 20 11 0) ∷ Some (release_value 2 0 0) ∷ None ∷ None ∷ None ∷ [])
    × (map (released true) (codes "01.2" ∷ codes "1.02" ∷ codes "00.0.9007199254740992" ∷ [])
    ≡ Some (release_value 1 2 0) ∷ Some (release_value 1 2 0) ∷ None ∷ [])
unfolding tuple_release number_with number_of
row-releases = (refl, refl)

abbrev read : List ℕ → Option VersionValue
read text = whole_version false 9007199254740991 text

abbrev is_read : List ℕ → Bool
is_read text = is_some (read text)

-- what is read, and not: a missing number, leading zeros, a number past the limit, a missing hyphen, other marks, a mark with a blank, what stands behind
row-versions : (map read (codes "1.2.3" ∷ codes "v0.20.0" ∷ codes "1.2.3-0.a-1.00a+007.x" ∷ codes "0.0.9007199254740991" ∷ [])
    ≡ Some (release_value 1 2 3) ∷ Some (release_value 0 20 0)
    ∷ Some (record {
      major = 1;
      minor = 2;
      patch = 3;
      pre_release = Numeric 0 ∷ AlphaNumeric (codes "a-1") ∷ AlphaNumeric (codes "00a") ∷ [];
      build = Numeric 7 ∷ AlphaNumeric (codes "x") ∷ [];
    })
    ∷ Some (release_value 0 0 9007199254740991) ∷ [])
    × (list_any is_read (codes "1.2" ∷ codes "01.2.3" ∷ codes "1.2.00" ∷ codes "1.2.3-01" ∷ codes "1.2.3-a.00" ∷ codes "0.0.9007199254740992"
    ∷ codes "1.2.3beta" ∷ codes "V1.2.3" ∷ codes "=1.2.3" ∷ codes "v 1.2.3" ∷ codes "1.2.3.4" ∷ codes "1.2.3-" ∷ codes "1.2.3-a..b" ∷ codes "1.2.3+"
    ∷ codes "1.2.3+a+b" ∷ codes "1.2.x" ∷ []) ≡ false)
unfolding whole_version patch_front number_with qualified_version pre_front pre_release_with pre_release_front build_front number_of list_len listed
row-versions = (refl, refl)
