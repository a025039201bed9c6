-- Statement: what the command writes for what its arguments ask.
use Rattle.std.specs.Prelude.{◌≡◌, ◌&&◌, ◌||◌, ◌==◌, ◌∷◌, ◌++◌, [], not, ℕ, Bool, true, false, List}
use Rattle.std.specs.Prelude.{Option, Some, None, Result, Ok, Err, length, map, reverse, take}
use Rattle.std.specs.Prelude.{if◌then◌else◌, is_some}
use Rattle.std.specs.Int.{is_in_range}
use Rattle.std.specs.List.{flat_map, list_all, slice_split}
use Rattle.std.specs.Str.Lines.{lines}
use Rattle.semver_core.specs.Failures.{NoValue}
use Rattle.semver_core.specs.Increments.Table.{Fault, answer_of_inc}
use Rattle.semver_core.specs.Lists.{is_empty}
use Rattle.semver_core.specs.Printing.Text.{version_text}
use Rattle.semver_core.specs.Values.Versions.{VersionValue}
use Rattle.npm_semver.specs.Arguments.{Asked}
use Rattle.npm_semver.specs.Listing.{AreListed, Entry, IsListing}
use Rattle.npm_semver.specs.Readings.{HasRange, IsFirst, IsVersionIn, SomeText}
use Rattle.npm_semver.specs.Reasons.{lacking_in}
use Rattle.npm_semver.specs.declared.question.Pick.{Pick}
use Rattle.npm_semver.specs.declared.question.Pick.TheVariants.{All, Greatest, Least}

-- a version is printed without its build metadata
abbrev pub bare : VersionValue → List ℕ
bare v = version_text (record v { build = [] })

-- or its text is printed as it was given
abbrev pub shown : Bool → Entry → List ℕ
shown as_written e = if as_written then e.text else bare e.version

abbrev pub line : List ℕ → List ℕ
line text = text ++ 10 ∷ []

-- the byte that ends each record: NUL or a line feed
abbrev pub end_of : Bool → ℕ
end_of ends_in_nul = if ends_in_nul then 0 else 10

-- a text as a record
abbrev pub ended : Bool → List ℕ → List ℕ
ended ends_in_nul text = text ++ end_of ends_in_nul ∷ []

-- a JSON string, in which nothing is to be escaped
abbrev pub quoted : List ℕ → List ℕ
quoted text = 34 ∷ (text ++ 34 ∷ [])

-- a JSON array of strings, on a line
abbrev pub json : List (List ℕ) → List ℕ
json [] = 91 ∷ 93 ∷ 10 ∷ []
json (t ∷ ts) = 91 ∷ (quoted t ++ (flat_map (λ u. 44 ∷ quoted u) ts ++ 93 ∷ 10 ∷ []))

abbrev pub in_order : Bool → List Entry → List Entry
in_order is_reversed es = if is_reversed then reverse es else es

-- all of them, or the one that is greatest or least, if they are in ascending order
abbrev pub picked : Pick → List Entry → List Entry
picked All es = es
picked Greatest es = take 1 (reverse es)
picked Least es = take 1 es

abbrev pub printed_text : Asked → List Entry → List ℕ
printed_text q es = let printed = map (shown q.as_written) es in
    if q.is_json then json printed else flat_map (ended q.ends_in_nul) printed

abbrev pub text_of : Asked → List Entry → List ℕ
text_of q es = printed_text q (in_order q.is_reversed (picked q.pick es))

-- the order in which the texts were given is kept, unless one version alone is asked for
abbrev pub prints_as_given : Asked → Bool
prints_as_given q = q.keeps_order && (elim q.pick [ All ↦ true | _ ↦ false ])

-- why nothing is printed, where that is an error
pub data Refusal : Type 0 where
  NotOneVersion NoFieldNumber UnknownOption UnreadRange NoVersion UnshownText : Refusal
  NotIncremented : Fault → Refusal

-- what is written to standard output, the error that is told, and whether the command succeeds
pub record Written : Type 0 where
  pub output : List ℕ
  pub refusal : Option Refusal
  pub is_success : Bool

-- nothing is printed
abbrev pub nothing_written : Option Refusal → Written
nothing_written refusal = record { output = []; refusal = refusal; is_success = false }

abbrev pub next_text : Bool → Bool → VersionValue → List ℕ
next_text is_json ends_in_nul w = if is_json then json (bare w ∷ []) else ended ends_in_nul (bare w)

-- the next version, or why there is none
abbrev pub next_written : Bool → Bool → Result VersionValue Fault → Written
next_written is_json ends_in_nul (Ok w) =
    record { output = next_text is_json ends_in_nul w; refusal = None; is_success = true }
next_written is_json ends_in_nul (Err fault) = nothing_written (Some (NotIncremented fault))

-- a next version is asked for of one version, with no range
abbrev pub increment_written : Asked → List ℕ → List Entry → Written
increment_written q level [] = nothing_written None
increment_written q level (e ∷ []) = if is_empty q.ranges
    then next_written q.is_json q.ends_in_nul (answer_of_inc e.version level q.identifier (Some q.base))
    else nothing_written (Some NotOneVersion)
increment_written q level (d ∷ e ∷ es) = nothing_written (Some NotOneVersion)

-- a field is asked for, and by no number of one
abbrev pub HasNoNumber : Asked → Type 0
HasNoNumber q = q.reading.field ≡ Some 0

-- some word has to be an option, and is none
abbrev pub HasUnknown : Asked → Type 0
HasUnknown q = (q.is_strict && is_some q.unknown) ≡ true

-- some range text has to be one, and is none: loosely npm's program reads more
abbrev pub HasUnread : Asked → Type 0
HasUnread q = ((q.reading.is_loose || q.is_strict) ≡ true)
    × SomeText (λ text. NoValue (HasRange q.reading text)) q.ranges

-- some text has to be a version, and is none
abbrev pub HasNoVersion : Asked → Type 0
HasNoVersion q = (q.is_strict ≡ true)
    × SomeText (λ text. NoValue (IsVersionIn q.reading text)) q.versions

-- the character stands in a JSON string as it is
abbrev pub is_plain : ℕ → Bool
is_plain c = not (is_in_range 0 31 c || c == 34 || c == 92)

-- the character stands in what is printed as it is; with a field or NUL bytes a record holds all but
-- its end
abbrev pub stands : Asked → ℕ → Bool
stands q c = if (is_some q.reading.field || q.ends_in_nul) && not q.is_json
    then not (c == end_of q.ends_in_nul) else is_plain c

-- some text may be printed as it was given, though more than a version stands in it, and is no record
-- or no JSON string as it is
abbrev pub HasUnshown : Asked → Type 0
HasUnshown q = (((q.reading.is_coerced || is_some q.reading.field) && q.as_written) ≡ true)
    × SomeText (λ text. list_all (stands q) text ≡ false) q.versions

-- why nothing is answered: the first of these that is so
pub data IsRefused (q : Asked) : Refusal → Type 0 where
  no_number : HasNoNumber q → IsRefused q NoFieldNumber
  unknown : (HasNoNumber q → ⊥) → HasUnknown q → IsRefused q UnknownOption
  unread : (HasNoNumber q → ⊥) → (HasUnknown q → ⊥) → HasUnread q → IsRefused q UnreadRange
  no_version : (HasNoNumber q → ⊥) → (HasUnknown q → ⊥) → (HasUnread q → ⊥) → HasNoVersion q
      → IsRefused q NoVersion
  unshown : (HasNoNumber q → ⊥) → (HasUnknown q → ⊥) → (HasUnread q → ⊥) → (HasNoVersion q → ⊥)
      → HasUnshown q → IsRefused q UnshownText

-- the text that an error names: the first that is so, of which `--why` tells too; `-l` alone names none
pub data Names (q : Asked) : Refusal → Option (List ℕ) → Type 0 where
  option : (word : List ℕ) → q.unknown ≡ Some word → Names q UnknownOption (Some word)
  range : (text : List ℕ) → IsFirst (λ t. NoValue (HasRange q.reading t)) q.ranges text
      → q.is_strict ≡ true → Names q UnreadRange (Some text)
  loosely : q.is_strict ≡ false → Names q UnreadRange None
  version : (text : List ℕ) → IsFirst (λ t. NoValue (IsVersionIn q.reading t)) q.versions text
      → Names q NoVersion (Some (lacking_in q.reading text).text)
  none : Names q UnshownText None
  no_number : Names q NoFieldNumber None

-- what is written for what is asked
pub data Responds : Option Asked → Written → Type 0 where
  help : (text : List ℕ)
      → Responds None (record { output = text; refusal = None; is_success = true })
  refused : (q : Asked) (refusal : Refusal) → IsRefused q refusal
      → Responds (Some q) (nothing_written (Some refusal))
  versions : (q : Asked) (es : List Entry) → NoValue (IsRefused q) → q.level ≡ None
      → prints_as_given q ≡ false → IsListing q.reading q.ranges q.versions es → Responds (Some q)
      (record { output = text_of q es; refusal = None; is_success = not (is_empty es) })
  given : (q : Asked) (es : List Entry) → NoValue (IsRefused q) → q.level ≡ None
      → prints_as_given q ≡ true → AreListed q.reading q.ranges q.versions es → Responds (Some q)
      (record { output = printed_text q es; refusal = None; is_success = not (is_empty es) })
  increment : (q : Asked) (level : List ℕ) (es : List Entry) → NoValue (IsRefused q)
      → q.level ≡ Some level → AreListed q.reading [] q.versions es
      → Responds (Some q) (increment_written q level es)

-- an empty text behind the last end is no record
abbrev pub without_empty_end : List (List ℕ) → List (List ℕ)
without_empty_end [] = []
without_empty_end (t ∷ []) = if length t == 0 then [] else t ∷ []
without_empty_end (t ∷ u ∷ us) = t ∷ without_empty_end (u ∷ us)

-- the records of the input: its lines, or what a NUL byte ends
abbrev pub records : Bool → List ℕ → List (List ℕ)
records ends_in_nul input =
    if ends_in_nul then without_empty_end (slice_split (λ b. b == 0) input) else lines input

-- `-` stands for the records of the input
abbrev pub with_records : List ℕ → Asked → Asked
with_records input q =
    if q.reads_input then record q { versions = q.versions ++ records q.ends_in_nul input } else q

-- whether the input is read
abbrev pub reads_input : Option Asked → Bool
reads_input None = false
reads_input (Some q) = q.reads_input

-- whether it is told why texts are left out
abbrev pub tells_why : Option Asked → Bool
tells_why None = false
tells_why (Some q) = q.is_why
