-- For proofs and private contracts. What is read of a version text of node-semver's strict reading,
-- character by character.
use Rattle.std.specs.Prelude.{◌==◌, ◌+◌, ◌*◌, ◌||◌, nat_lt, ℕ, zero, suc, Bool, true, false, List, [], ◌∷◌}
use Rattle.std.specs.Prelude.{Option, Some, None, if◌then◌else◌}
use Rattle.std.specs.Char.{digit_value, is_ascii_digit}
use Rattle.semver_core.specs.Internal.Reading.{◌>>?◌}
use Rattle.semver_core.specs.Text.Characters.{is_identifier_char, is_whitespace}
use Rattle.npm_words.specs.Flaws.{is_any_mark, is_letter}
use Rattle.npm_words.specs.declared.flaws.Wrong.{Wrong}
use Rattle.npm_words.specs.declared.flaws.State.{State}
use Rattle.npm_words.specs.declared.flaws.State.TheVariants.{Start, Digit, Number, Dash, Zero, Padded}
use Rattle.npm_words.specs.declared.flaws.State.TheVariants.{PreRelease, Plus, Build, End}

-- with the first digit of a number, and with a further one
abbrev pub begun : ℕ → ℕ → Option State
begun left c = if is_ascii_digit c then Some (Number left (digit_value c)) else None

abbrev pub grown : ℕ → ℕ → ℕ → ℕ → Option State
grown limit left n d = if n == 0 || nat_lt limit (n * 10 + d) then None else Some (Number left (n * 10 + d))

-- behind a version
abbrev pub ended : ℕ → Option State
ended c = if c == 43 then Some Plus else if is_whitespace c then Some End else None

abbrev pub behind_number : ℕ → ℕ → Option State
behind_number zero c = if c == 45 then Some Dash else ended c
behind_number (suc k) c = if c == 46 then Some (Digit k) else None

abbrev pub behind_identifier : ℕ → Option State
behind_identifier c = if is_identifier_char c then Some PreRelease else if c == 46 then Some Dash else ended c

-- in a pre-release
abbrev pub pre_release : State → ℕ → Option State
pre_release Dash c = if c == 48 then Some Zero else if is_identifier_char c then Some PreRelease else None
pre_release Zero c = if is_ascii_digit c then Some Padded else behind_identifier c
pre_release Padded c =
    if is_ascii_digit c then Some Padded else if is_identifier_char c then Some PreRelease else None
pre_release s c = behind_identifier c

-- in build metadata, and behind all
abbrev pub build : State → ℕ → Option State
build Plus c = if is_identifier_char c then Some Build else None
build Build c =
    if is_identifier_char c then Some Build else if c == 46 then Some Plus else if is_whitespace c
    then Some End else None
build End c = if is_whitespace c then Some End else None
build s c = None

-- with the next character
unfoldable pub next : ℕ → State → ℕ → Option State
next limit Start c = if is_whitespace c then Some Start else if c == 118 then Some (Digit 2) else begun 2 c
next limit (Digit left) c = begun left c
next limit (Number left n) c =
    if is_ascii_digit c then grown limit left n (digit_value c) else behind_number left c
next limit Dash c = pre_release Dash c
next limit Zero c = pre_release Zero c
next limit Padded c = pre_release Padded c
next limit PreRelease c = pre_release PreRelease c
next limit Plus c = build Plus c
next limit Build c = build Build c
next limit End c = build End c

-- with all these characters
unfoldable pub run : ℕ → State → List ℕ → Option State
run limit s [] = Some s
run limit s (c ∷ cs) = next limit s c >>? λ t. run limit t cs

-- what is read is a version
abbrev pub is_whole : State → Bool
is_whole (Number left n) = left == 0
is_whole Zero = true
is_whole PreRelease = true
is_whole Build = true
is_whole End = true
is_whole s = false

-- what is wrong where what is read goes no further, by the next character
abbrev pub passes : (ℕ → Bool) → Option ℕ → Bool
passes test None = false
passes test (Some c) = test c

abbrev pub wrong_number : ℕ → ℕ → Option ℕ → Wrong
wrong_number zero n o =
    if passes is_ascii_digit o then (if n == 0 then Wrong.LeadingZero else Wrong.NumberTooGreat)
    else if passes is_letter o then Wrong.MissingHyphen else Wrong.Behind
wrong_number (suc k) n o =
    if passes is_ascii_digit o then (if n == 0 then Wrong.LeadingZero else Wrong.NumberTooGreat)
    else Wrong.Dot

abbrev pub wrong_start : Option ℕ → Wrong
wrong_start o = if passes is_any_mark o then Wrong.Mark else Wrong.Digit

unfoldable pub wrong_at : State → Option ℕ → Wrong
wrong_at Start o = wrong_start o
wrong_at (Digit left) o = wrong_start o
wrong_at (Number left n) o = wrong_number left n o
wrong_at Dash o = Wrong.Identifier
wrong_at Plus o = Wrong.Identifier
wrong_at Padded o = Wrong.LeadingZero
wrong_at s o = Wrong.Behind
