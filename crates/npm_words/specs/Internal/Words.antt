-- For proofs and private contracts. What node-semver's readings, strict or loose, find in a range
-- text, as functions. Numbers have any value; the code has them `capped`.
use Rattle.std.specs.Prelude.{◌==◌, ◌&&◌, ◌||◌, ◌+◌, not, codes, nat_le, nat_lt, ℕ, zero, suc, Bool}
use Rattle.std.specs.Prelude.{true, false, List, [], ◌∷◌, ◌++◌, ◌-◌, is_none, length, take, drop, Option}
use Rattle.std.specs.Prelude.{Some, None, if◌then◌else◌, take_while}
use Rattle.std.specs.Char.{is_ascii_digit}
use Rattle.std.specs.List.{ends_with, list_all, prefix_len}
use Rattle.std.specs.Str.Parse.{digits_value}
use Rattle.semver_core.specs.Internal.Reading.{◌>>?◌}
use Rattle.semver_core.specs.Internal.Spaces.{drop_spaces, space_len}
use Rattle.semver_core.specs.Lists.{is_empty}
use Rattle.semver_core.specs.Text.Identifiers.{listed, pieces}
use Rattle.semver_core.specs.Values.Versions.{VersionValue, is_release, release_value}
use Rattle.semver_core.specs.declared.TheConstants.{MAX_SAFE_INTEGER}
use Rattle.semver_core.specs.Internal.Fronts.{Front, after_byte, begins_byte}
use Rattle.semver_core.specs.Internal.Fronts.{begins_wildcard, build_front, marked_list, pre_release_with}
use Rattle.npm_words.specs.Internal.Inside.{are_inside}
use Rattle.npm_words.specs.Internal.Parts.{within}
use Rattle.semver_core.specs.Internal.Parts.{parts}
use Rattle.semver_core.specs.Internal.Boundaries.{after_some_space, from_boundary, is_boundary}
use Rattle.npm_words.specs.Malformed.{begins_place, is_mark, takes}
use Rattle.npm_words.specs.Partials.{is_short_identifier, partial_of}
use Rattle.npm_words.specs.RangeText.{are_marks, comparators_of, end_sign, is_lost, is_short, last_marks}
use Rattle.npm_words.specs.Grammar.{begins_undashed, has_leading_zero, is_strict_list}
use Rattle.npm_words.specs.Table.{Comparison, Partial, Sign, caret, compared, first, hyphen_lower}
use Rattle.npm_words.specs.Table.{hyphen_upper, major, minor, table, tilde, whole, wildcard}
use Rattle.semver_core.specs.Text.Comparators.{Comparator, above, at_least, at_most, below, equal}

-- ---- partials

-- a number has no leading zeros; loosely it may have some
abbrev pub is_spelled : Bool → List ℕ → Bool
is_spelled loose digits = not (has_leading_zero digits) || loose

-- the place that a run of digits is, with what stands behind it
abbrev pub run_place : Bool → List ℕ → List ℕ → Front (Option ℕ)
run_place loose run rest = if not (is_empty run) && (loose || nat_le (length run) 257) && is_spelled loose run
    then Some (Some (digits_value 10 run), rest) else None

-- a place
unfoldable pub place_front : Bool → List ℕ → Front (Option ℕ)
place_front loose text = if begins_wildcard text then Some (None, drop 1 text)
    else run_place loose (take_while is_ascii_digit text) (drop (prefix_len is_ascii_digit text) text)

-- the same behind a dot
unfoldable pub dotted_place : Bool → List ℕ → Front (Option ℕ)
dotted_place loose text = after_byte 46 text >>? λ rest. place_front loose rest

-- the third place: loosely the last digit before a dot is not its own
unfoldable pub patch_place : Bool → List ℕ → Front (Option ℕ)
patch_place loose text = let digits = prefix_len is_ascii_digit text in
    if loose && begins_byte 46 (drop digits text)
    then run_place loose (take (digits - 1) text) (drop (digits - 1) text)
    else place_front loose text

unfoldable pub dotted_patch : Bool → List ℕ → Front (Option ℕ)
dotted_patch loose text = after_byte 46 text >>? λ rest. patch_place loose rest

-- the identifiers of a pre-release and of a build are short enough
abbrev pub are_short_identifiers : List ℕ → Bool
are_short_identifiers text = list_all is_short_identifier (pieces text)

abbrev pub is_short_build : List ℕ → Bool
is_short_build text = nat_le (length text) 250

abbrev pub are_short_builds : List ℕ → Bool
are_short_builds text = list_all is_short_build (pieces text)

-- the identifiers of a pre-release may be written: loosely any
abbrev pub may_stand : Bool → List ℕ → Bool
may_stand loose ids = loose || is_strict_list ids && are_short_identifiers ids

-- this pre-release and this build may be written
abbrev pub may_follow : Bool → List ℕ → List ℕ → Bool
may_follow loose pre build = may_stand loose pre && are_short_builds build

-- the text of a pre-release, and what stands behind it
unfoldable pub pre_front : Bool → Bool → List ℕ → List ℕ × List ℕ
pre_front loose wild text =
    if loose && begins_undashed wild text then marked_list text text else pre_release_with true text

-- the partial of three places, with these texts of its pre-release and of its build, behind which
-- this stands
abbrev pub ended_partial : Bool → Option ℕ → Option ℕ → Option ℕ → List ℕ → List ℕ × List ℕ → Front Partial
ended_partial loose a b c pre build = if may_follow loose pre build.0
    then Some (partial_of a b c (listed pre) (listed build.0), build.1) else None

unfoldable pub qualified_partial : Bool → Option ℕ → Option ℕ → Option ℕ → List ℕ → Front Partial
qualified_partial loose a b c text = ended_partial loose a b c (pre_front loose (is_none c) text).0
    (build_front (pre_front loose (is_none c) text).1)

-- the text ends here, or goes on with a space or a bar
abbrev pub is_over : List ℕ → Bool
is_over [] = true
is_over (b ∷ rest) = b == 32 || b == 124

-- the partial of two places, and of what was found behind them
abbrev pub third_front : Bool → Option ℕ → Option ℕ → List ℕ → Front (Option ℕ) → Front Partial
third_front loose a b text None = Some (partial_of a b None [] [], text)
third_front loose a b text (Some c) = qualified_partial loose a b c.0 c.1

abbrev pub second_front : Bool → Option ℕ → List ℕ → Front (Option ℕ) → Front Partial
second_front loose a text None = Some (partial_of a None None [] [], text)
second_front loose a text (Some b) = third_front loose a b.0 b.1 (dotted_patch loose b.1)

-- the places at the front, with what stands behind them
unfoldable pub places_front : Bool → List ℕ → Front Partial
places_front loose text =
    place_front loose text >>? λ a. second_front loose a.0 a.1 (dotted_place loose a.1)

-- ---- numbers as the code has them

-- past the limit a number is the limit + 1, since only that it is past the limit matters
abbrev pub capped : ℕ → ℕ
capped n = if nat_le n MAX_SAFE_INTEGER then n else MAX_SAFE_INTEGER + 1

abbrev pub capped_one : Option ℕ → Option ℕ
capped_one None = None
capped_one (Some n) = Some (capped n)

abbrev pub capped_partial : Partial → Partial
capped_partial wildcard = wildcard
capped_partial (major M) = major (capped M)
capped_partial (minor M m) = minor (capped M) (capped m)
capped_partial (whole v) =
    whole (record v { major = capped v.major; minor = capped v.minor; patch = capped v.patch })

-- a word, or an end of a hyphen range
abbrev pub capped_in : {A : Type 0} → A × Partial × List ℕ → A × Partial × List ℕ
capped_in w = (w.0, capped_partial w.1, w.2)

-- a partial at the front of a text, if none of its numbers is past the limit
abbrev pub limited : Front Partial → Front Partial
limited None = None
limited (Some p) = if within (first p.0) then Some p else None

-- a value at the front of a text
abbrev pub first_as : {A : Type 0} → (A → A) → Front A → Front A
first_as f None = None
first_as f (Some a) = Some (f a.0, a.1)

-- ---- signs

-- the text without the `=` at its front and the whitespace behind it
abbrev pub skip_equal : List ℕ → List ℕ
skip_equal text = if begins_byte 61 text then drop_spaces (drop 1 text) else text

-- behind `>` or `<`: whitespace, or `=` and whitespace, or whitespace and `=`
abbrev pub or_late : Comparator → Comparator → List ℕ → List ℕ → Sign × List ℕ
or_late one two text rest = if begins_byte 61 text then (compared two, drop_spaces (drop 1 text))
    else if begins_byte 61 rest then (compared two, drop 1 rest) else (compared one, rest)

-- behind the `>` of a tilde: `=` or nothing, and whitespace
abbrev pub skip_greater : List ℕ → List ℕ
skip_greater text = drop_spaces (if begins_byte 61 text then drop 1 text else text)

-- behind `~>`: whitespace and one `>` more, or nothing
abbrev pub skip_twice : List ℕ → List ℕ → List ℕ
skip_twice text rest =
    if nat_lt 0 (space_len text) && begins_byte 62 rest then skip_greater (drop 1 rest) else skip_greater text

-- behind `~`, with what stands there behind whitespace
abbrev pub skip_tilde : List ℕ → List ℕ → List ℕ
skip_tilde text rest = if begins_byte 62 text then skip_twice (drop 1 text) (drop_spaces (drop 1 text))
    else if begins_byte 62 rest then skip_greater (drop 1 rest) else skip_equal rest

-- the sign at the front, and what follows it and its whitespace
unfoldable pub npm_sign : List ℕ → Sign × List ℕ
npm_sign [] = (compared equal, [])
npm_sign (b ∷ rest) =
    if b == 62 then or_late above at_least rest (drop_spaces rest)
    else if b == 60 then or_late below at_most rest (drop_spaces rest)
    else if b == 61 then (compared equal, drop_spaces rest)
    else if b == 94 then (caret, skip_equal (drop_spaces rest))
    else if b == 126 then (tilde, skip_tilde rest (drop_spaces rest))
    else (compared equal, b ∷ rest)

-- ---- words

-- a sign, a partial, and the text of the partial with its marks
abbrev pub Signed : Type 0
Signed = Sign × Partial × List ℕ

-- how many marks stand at the front
abbrev pub marks_len : List ℕ → ℕ
marks_len text = prefix_len is_mark text

abbrev pub ended_word : Bool → Sign → List ℕ → ℕ → Partial × List ℕ → Front Signed
ended_word loose s text n p = if are_marks loose s p.0 (take n text) && is_boundary p.1
    then Some ((s, p.0, take (length text - length p.1) text), p.1) else None

-- the word of a sign, of which this text stands behind the sign
abbrev pub marked_word : Bool → Sign × List ℕ → Front Partial → Front Signed
marked_word loose s p = p >>? λ p. ended_word loose s.0 s.1 (marks_len s.1) p

unfoldable pub signed_word : Bool → List ℕ → Front Signed
signed_word loose text =
    let s = npm_sign text in marked_word loose s (places_front loose (drop (marks_len s.1) s.1))

-- the partial of a word is short enough
abbrev pub is_short_word : Bool → List ℕ → Bool
is_short_word loose text = is_short loose (drop (marks_len text) text)

-- the text ends in a comparator: in `<`, `>`, or a `=` that stands behind no mark
abbrev pub ends_compared : List ℕ → Bool
ends_compared text = let ends = ends_with ◌==◌ text
    in ends (codes "<") || ends (codes ">")
    || ends (codes "=") && not (ends (codes "v=") || ends (codes "=="))

-- what follows the characters behind whitespace belongs to their word
unfoldable pub takes_on : List ℕ → List ℕ → Bool
takes_on text rest = let front = take (length text - 1) text in
    takes text rest
    || ends_with ◌==◌ text (codes "=") && (are_inside (length front) front && begins_place rest)

-- what stands behind a malformed word that is ignored: of at most so many pieces
unfoldable pub behind_ignored : ℕ → List ℕ → List ℕ
behind_ignored zero text = text
behind_ignored (suc n) text = let behind = from_boundary text in let rest = drop_spaces behind in
    if takes_on (take (length text - length behind) text) rest then behind_ignored n rest else behind

-- the word at the front, and what stands behind it and its whitespace; loosely also a malformed
-- one, which has no comparators
abbrev pub ignored_or : Bool → List ℕ → Option (Option (List Comparison) × List ℕ)
ignored_or loose text = if loose then Some (None, drop_spaces (behind_ignored (length text) text)) else None

abbrev pub signed_or : Bool → Bool → List ℕ → Front Signed → Option (Option (List Comparison) × List ℕ)
signed_or loose include text None = ignored_or loose text
signed_or loose include text (Some w) =
    if is_short_word loose w.0.2 then Some (Some (table include w.0.0 w.0.1 w.0.2), drop_spaces w.1) else None

unfoldable pub first_word : Bool → Bool → List ℕ → Option (Option (List Comparison) × List ℕ)
first_word loose include text = signed_or loose include text (signed_word loose text)

-- words up to the end of an alternative, of which there are at most so many
unfoldable pub words_within : Bool → Bool → ℕ → List ℕ → Option (List (Option (List Comparison)))
words_within loose include n [] = Some []
words_within loose include zero (b ∷ text) = None
words_within loose include (suc n) (b ∷ text) =
    first_word loose include (b ∷ text) >>? λ w. words_within loose include n w.1
    >>? λ read. Some (w.0 ∷ read)

-- ---- alternatives

-- what follows the marks and the whitespace at the front. The number counts bytes that still belong
-- to a whitespace character.
unfoldable pub after_ends : ℕ → List ℕ → List ℕ
after_ends n [] = []
after_ends (suc n) (b ∷ rest) = after_ends n rest
after_ends zero (b ∷ rest) = elim (is_mark b) [
  | true ↦ after_ends zero rest
  | false ↦ elim (space_len (b ∷ rest)) [ zero ↦ b ∷ rest | suc n ↦ after_ends n rest ]
]

abbrev pub drop_ends : List ℕ → List ℕ
drop_ends text = after_ends 0 text

-- how many bytes the mark or the whitespace character at the front takes
abbrev pub end_len : List ℕ → ℕ
end_len [] = 0
end_len (b ∷ rest) = if is_mark b then 1 else space_len (b ∷ rest)

-- an end of a hyphen range: its marks, its partial, and the text of that with the last marks
abbrev pub Ended : Type 0
Ended = List ℕ × Partial × List ℕ

-- the end whose partial was read behind its marks, and what follows it
abbrev pub ended_as : List ℕ → List ℕ → Partial × List ℕ → Ended × List ℕ
ended_as text behind p = let marks = take (length text - length behind) text in
    ((marks, p.0, last_marks marks ++ take (length behind - length p.1) behind), p.1)

-- an end of a hyphen range at the front
unfoldable pub end_front : Bool → List ℕ → Front Ended
end_front loose text = places_front loose (drop_ends text) >>? λ p. Some (ended_as text (drop_ends text) p)

-- what stands behind whitespace, `-` and whitespace
abbrev pub after_dash : List ℕ → Option (List ℕ)
after_dash text = after_some_space text >>? λ dash. after_byte 45 dash >>? λ gap. after_some_space gap

-- the upper end, where it ends the text
abbrev pub last_end : Bool → List ℕ → Option Ended
last_end loose text = end_front loose text >>? λ b. if is_empty b.1 then Some b.0 else None

-- the ends of the hyphen range that the text is
unfoldable pub hyphen_ends : Bool → List ℕ → Option (Ended × Ended)
hyphen_ends loose text = end_front loose text >>? λ a. after_dash a.1
    >>? λ second. last_end loose second >>? λ b. Some (a.0, b)

-- any marks may stand before an end of a hyphen range: one of a partial version, or a whole one of
-- which this is true
abbrev pub is_free : (VersionValue → Bool) → Partial → Bool
is_free changes p = elim p [ whole v ↦ changes v | _ ↦ true ]

-- before another stands one `v` at most
abbrev pub are_whole_marks : List ℕ → Bool
are_whole_marks marks = are_marks false (compared equal) (whole (release_value 0 0 0)) marks

abbrev pub is_free_lower : Partial → Bool
is_free_lower p = is_free (λ v. false) p

abbrev pub is_free_upper : Bool → Partial → Bool
is_free_upper include p = is_free (λ v. include || not (is_release v)) p

-- these marks may stand before such an end, and it is short enough
abbrev pub is_right : Bool → (Partial → Bool) → Ended → Bool
is_right loose free e = is_short_word loose e.2 && (loose || (free e.1 || are_whole_marks e.0))

-- the comparators of the ends
abbrev pub lower_of : Bool → Ended → List Comparison
lower_of include e = hyphen_lower (end_sign at_least e.0) include e.1 e.2

abbrev pub upper_of : Bool → Ended → List Comparison
upper_of include e = hyphen_upper (end_sign at_most e.0) include e.1 e.2

-- the comparators of an alternative, and whether it is lost
abbrev pub hyphen_of : Bool → Bool → Ended × Ended → Option (Bool × List Comparison)
hyphen_of loose include e = if is_right loose is_free_lower e.0 && is_right loose (is_free_upper include) e.1
    then Some (false, lower_of include e.0 ++ upper_of include e.1) else None

abbrev pub words_of_all : List (Option (List Comparison)) → Bool × List Comparison
words_of_all read = (is_lost read, comparators_of read)

abbrev pub hyphen_or : Bool → Bool → List ℕ → Option (Ended × Ended) → Option (Bool × List Comparison)
hyphen_or loose include text (Some e) = hyphen_of loose include e
hyphen_or loose include text None =
    words_within loose include (length text) text >>? λ all. Some (words_of_all all)

unfoldable pub alternative_of : Bool → Bool → List ℕ → Option (Bool × List Comparison)
alternative_of loose include text = hyphen_or loose include text (hyphen_ends loose text)

-- alternatives with one more before them, unless that is lost
abbrev pub kept : Bool × List Comparison → List (List Comparison) → List (List Comparison)
kept a rest = if a.0 then rest else a.1 ∷ rest

-- the comparators of each of some alternatives
unfoldable pub alternatives_of : Bool → Bool → List (List ℕ) → Option (List (List Comparison))
alternatives_of loose include [] = Some []
alternatives_of loose include (text ∷ texts) = alternative_of loose include text >>? λ a.
    alternatives_of loose include texts >>? λ rest. Some (kept a rest)

-- the alternatives of a range text
abbrev pub npm_alternatives : Bool → Bool → List ℕ → Option (List (List Comparison))
npm_alternatives loose include text = alternatives_of loose include (parts text)
