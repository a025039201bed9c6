-- For proofs and private contracts. The partials inside a malformed word, found from the left.
use Rattle.std.specs.Prelude.{◌&&◌, ◌||◌, not, nat_le, nat_lt, ℕ, zero, suc, Bool, true, false, List, [], ◌∷◌}
use Rattle.std.specs.Prelude.{length, drop, if◌then◌else◌}
use Rattle.std.specs.Char.{is_ascii_alphabetic, is_ascii_digit}
use Rattle.std.specs.List.{prefix_len}
use Rattle.semver_core.specs.Lists.{is_empty}
use Rattle.semver_core.specs.Text.Characters.{begins, is_identifier_char}
use Rattle.semver_core.specs.Internal.Fronts.{begins_byte, begins_identifier, begins_wildcard, build_front}
use Rattle.npm_words.specs.Malformed.{begins_place}

-- the text behind the digits at the front
abbrev pub behind_digits : List ℕ → List ℕ
behind_digits text = drop (prefix_len is_ascii_digit text) text

-- behind the identifier at the front: strictly a `0` is one
unfoldable pub behind_id : Bool → List ℕ → List ℕ
behind_id strict text = if begins is_ascii_digit text
    then (if strict && begins_byte 48 text then drop 1 text else behind_digits text)
    else drop (prefix_len is_identifier_char text) text

-- a dot and an identifier are at the front
abbrev pub begins_dotted_id : List ℕ → Bool
begins_dotted_id text = begins_byte 46 text && begins_identifier (drop 1 text)

-- behind the identifiers joined by dots, of which there are at most so many
unfoldable pub behind_ids : ℕ → Bool → List ℕ → List ℕ
behind_ids zero strict text = text
behind_ids (suc n) strict text = let rest = behind_id strict text in if begins_dotted_id rest
    then behind_ids n strict (drop 1 rest) else rest

-- behind the pre-release, which stands strictly behind a `-`
unfoldable pub behind_pre_release : Bool → List ℕ → List ℕ
behind_pre_release strict text = if begins_byte 45 text && begins_identifier (drop 1 text)
    then behind_ids (length (drop 1 text)) strict (drop 1 text)
    else if not strict && (begins is_ascii_alphabetic text || begins_byte 45 text)
    then behind_ids (length text) strict text else text

-- and behind the build metadata that follows it
abbrev pub behind_qualifier : Bool → List ℕ → List ℕ
behind_qualifier strict text = (build_front (behind_pre_release strict text)).1

-- how many of so many digits are a number
abbrev pub most : Bool → ℕ
most strict = if strict then 257 else 256

abbrev pub capped : Bool → ℕ → ℕ
capped strict digits = if nat_lt (most strict) digits then most strict else digits

-- a wildcard or one `0`, strictly
abbrev pub is_single : Bool → List ℕ → Bool
is_single strict text = strict && (begins_byte 48 text || begins_wildcard text)

-- behind a place: loosely the digits at the front
unfoldable pub behind_place : Bool → List ℕ → List ℕ
behind_place strict text = if is_single strict text then drop 1 text
    else drop (capped strict (prefix_len is_ascii_digit text)) text

-- a place is at the front
abbrev pub starts : Bool → List ℕ → Bool
starts strict text = begins is_ascii_digit text || strict && begins_wildcard text

-- a dot and a place are at the front
abbrev pub begins_dotted : Bool → List ℕ → Bool
begins_dotted strict text = begins_byte 46 text && starts strict (drop 1 text)

-- behind the places and what follows the third: strictly one to three, and loosely three, or all of
-- the text where they do not stand there
unfoldable pub behind_places : Bool → List ℕ → List ℕ
behind_places strict text = let one = behind_place strict text in
    if not (begins_dotted strict one) then (if strict then one else text) else
    let two = behind_place strict (drop 1 one) in
    if not (begins_dotted strict two) then (if strict then two else text)
    else behind_qualifier strict (behind_place strict (drop 1 two))

-- behind the longer one of the two
unfoldable pub behind_partial : List ℕ → List ℕ
behind_partial text = let version = behind_places false text in let places = behind_places true text in
    if nat_le (length version) (length places) then version else places

-- not where a number or a wildcard is
abbrev pub is_apart : ℕ → Bool
is_apart b = not (begins_place (b ∷ []))

abbrev pub from_place : List ℕ → List ℕ
from_place text = drop (prefix_len is_apart text) text

-- the text ends in a partial, or has no characters: there are at most so many
unfoldable pub are_inside : ℕ → List ℕ → Bool
are_inside zero text = is_empty text
are_inside (suc n) text = if is_empty (from_place text) then is_empty text
    else are_inside n (behind_partial (from_place text))
