-- Statement: what the subcommands answer.
use Rattle.std.specs.Prelude.{◌≡◌, ◌∷◌, ◌++◌, [], not, ℕ, Bool, true, false, List, Option, Some}
use Rattle.std.specs.Prelude.{None, Result, IfSome, Ok, Err, codes, option_map, is_some, is_none}
use Rattle.std.specs.Prelude.{◌&&◌, ◌≢◌, unwrap_or, if◌then◌else◌}
use Rattle.std.specs.Fmt.{decimal}
use Rattle.std.specs.List.{flat_map, list_all}
use Rattle.std.specs.Ordering.{is_eq, is_ge, is_gt, is_le, is_lt}
use Rattle.std.specs.Str.{IsAscii, bytes_eq}
use Rattle.std.specs.Str.Lines.{lines}
use Rattle.std.specs.declared.cmp.Ordering.{Ordering}
use Rattle.std.specs.declared.cmp.Ordering.TheVariants.{Less, Equal, Greater}
use Rattle.hex.specs.Hex.{decode_of, encode_lower}
use Rattle.semver_core.specs.Cuts.{Span}
use Rattle.semver_core.specs.Difference.{kind_between, kind_word}
use Rattle.semver_core.specs.Failures.{NoValue}
use Rattle.semver_core.specs.Increments.Table.{Fault, NotAPrerelease, Overflow, answer_of_inc}
use Rattle.semver_core.specs.Keys.{key}
use Rattle.semver_core.specs.Lists.{is_empty}
use Rattle.semver_core.specs.Printing.Text.{marked_list, version_text}
use Rattle.semver_core.specs.Text.Identifiers.{Id}
use Rattle.semver_core.specs.Values.Order.{precedence}
use Rattle.semver_core.specs.Values.Versions.{IsVersion, VersionValue}
use Rattle.semver_core.specs.declared.TheConstants.{MAX_SAFE_INTEGER}
use Rattle.npm_reading.specs.Ranges.{IsRangeIn}
use Rattle.npm_words.specs.VersionText.{IsVersionText}
use Rattle.nodejs_semver.specs.Printing.Text.{range_text}
use Rattle.nodejs_semver.specs.Ranges.Algebra.{difference, intersection}
use Rattle.nodejs_semver.specs.Ranges.Gate.{accepts}
use Rattle.nodejs_semver.specs.Ranges.Least.{IsLeastOf, beyond}
use Rattle.npm_semver.specs.Arguments.{is_one_of}
use Rattle.npm_semver.specs.Responses.{bare, line}
use Rattle.npm_semver.specs.Spans.{AreSpansOf, HasDialect, condition, is_column, span_text}
use Rattle.npm_semver.specs.declared.help.TheConstants.{HELP}
use Rattle.npm_semver.specs.declared.subcommands.pages.TheConstants.{ABOUT}
use Rattle.key_spans.specs.Ranges.{IsSimple}
use Rattle.key_spans.specs.declared.KeySpan.{KeySpan}
use Rattle.npm_semver.specs.declared.subcommands.spans.Dialect.{Dialect}
use Rattle.npm_semver.specs.declared.subcommands.replies.Status.{Status}
use Rattle.npm_semver.specs.declared.subcommands.replies.Status.TheVariants.{Yes, No, Malformed}

abbrev pub Range : Type 0
Range = List (Span VersionValue)

-- what is wrong: there is no next version, or it is not above the given one, or a text is no
-- version, or the words ask nothing
pub data Trouble : Type 0 where
  NotIncremented : Fault → Trouble
  NotAbove NoVersion NoQuestion : Trouble

-- what is written to standard output, what is told on standard error, and the exit status
pub data Said : Type 0 where
  say : (output : List ℕ) (trouble : Option Trouble) (status : Status) → Said

-- yes or no, with a text on a line or nothing
abbrev pub reply : Bool → Option (List ℕ) → Said
reply is_yes None = say [] None (if is_yes then Yes else No)
reply is_yes (Some text) = say (text ++ 10 ∷ []) None (if is_yes then Yes else No)

abbrev pub sign : Ordering → List ℕ
sign order = elim order [ Less ↦ codes "<" | Equal ↦ codes "=" | Greater ↦ codes ">" ]

-- what a comparison says of an order
abbrev pub relation_of : List ℕ → Option (Ordering → Bool)
relation_of word = if is_one_of (codes "<" ∷ codes "lt" ∷ []) word then Some is_lt
    else if is_one_of (codes "<=" ∷ codes "le" ∷ []) word then Some is_le
    else if is_one_of (codes "=" ∷ codes "==" ∷ codes "eq" ∷ []) word then Some is_eq
    else if is_one_of (codes "!=" ∷ codes "ne" ∷ []) word then Some (λ order. not (is_eq order))
    else if is_one_of (codes ">=" ∷ codes "ge" ∷ []) word then Some is_ge
    else if is_one_of (codes ">" ∷ codes "gt" ∷ []) word then Some is_gt else None

abbrev pub AreVersions : List ℕ → List ℕ → VersionValue → VersionValue → Type 0
AreVersions a b v w = IsVersionText MAX_SAFE_INTEGER a v × IsVersionText MAX_SAFE_INTEGER b w

-- no option, or an identifier
pub data HasIdentifier : List (List ℕ) → Option (List ℕ) → Type 0 where
  none : HasIdentifier [] None
  behind : (id : List ℕ) → HasIdentifier (codes "--preid" ∷ id ∷ []) (Some id)
  joined : (id : List ℕ) → HasIdentifier ((codes "--preid=" ++ id) ∷ []) (Some id)

-- no, if there is no next version; a level or an identifier that is none is malformed
abbrev pub status_of : Fault → Status
status_of fault = elim fault [ NotAPrerelease text ↦ No | Overflow ↦ No | _ ↦ Malformed ]

-- the parts of a version by their words; without identifiers there is no text
abbrev pub dotted : List Id → Option (List ℕ)
dotted ids = if is_empty ids then None else Some (marked_list [] ids)

abbrev pub part_of : List ℕ → Option (VersionValue → Option (List ℕ))
part_of word = if is_one_of (codes "major" ∷ []) word then Some (λ v. Some (decimal v.major))
    else if is_one_of (codes "minor" ∷ []) word then Some (λ v. Some (decimal v.minor))
    else if is_one_of (codes "patch" ∷ []) word then Some (λ v. Some (decimal v.patch))
    else if is_one_of (codes "prerelease" ∷ []) word then Some (λ v. dotted v.pre_release)
    else if is_one_of (codes "build" ∷ []) word then Some (λ v. dotted v.build) else None

-- what is said for what `inc` returns: the next version without its build metadata, or no, with a
-- message, also if it is not above
abbrev pub next_said : VersionValue → Result VersionValue Fault → Said
next_said v (Ok w) =
    if is_lt (precedence v w) then reply true (Some (bare w)) else say [] (Some NotAbove) No
next_said v (Err fault) = say [] (Some (NotIncremented fault)) (status_of fault)

-- a range is printed if it accepts a version
pub data IsShown : Option Range → Said → Type 0 where
  some : (r : Range) (v : VersionValue) → accepts r v false ≡ true
      → IsShown (Some r) (reply true (Some (range_text r)))
  none : (found : Option Range) → NoValue (λ v. accepts (unwrap_or found []) v false ≡ true)
      → IsShown found (reply false None)

-- the one range of the versions that the other accepts, if there are some
pub record IsSimplified (r : Range) (found : Option Range) : Type 0 where
  pub same : (v : VersionValue) → IsVersion v → accepts (unwrap_or found []) v false ≡ accepts r v false
  pub simple : IfSome found (IsSimple false)

-- the text is a range, as npm reads it without pre-releases included
abbrev pub IsRange : List ℕ → Range → Type 0
IsRange = IsRangeIn false MAX_SAFE_INTEGER false

pub data AreRanges : List (List ℕ) → List Range → Type 0 where
  none : AreRanges [] []
  more : (text : List ℕ) (texts : List (List ℕ)) (r : Range) (rs : List Range) → IsRange text r
      → AreRanges texts rs → AreRanges (text ∷ texts) (r ∷ rs)

-- each of these texts has a line, as `Has` says, and these are the lines
pub data AreLines (Has : List ℕ → List ℕ → Type 0) : List (List ℕ) → List ℕ → Type 0 where
  none : AreLines Has [] []
  more : (text shown : List ℕ) (texts : List (List ℕ)) (output : List ℕ) → Has text shown
      → AreLines Has texts output → AreLines Has (text ∷ texts) (line shown ++ output)

-- the text is a version, and this its key in hexadecimal
abbrev pub HasKey : List ℕ → List ℕ → Type 0
HasKey text shown =
    (v : VersionValue) × IsVersionText MAX_SAFE_INTEGER text v × (shown ≡ encode_lower (key v))

-- the same with the text behind it, after a tab
abbrev pub HasKeyAndText : List ℕ → List ℕ → Type 0
HasKeyAndText text shown = (hex : List ℕ) × HasKey text hex × (shown ≡ hex ++ 9 ∷ text)

-- the text is the key of a version in hexadecimal, and npm reads what the version prints as it
pub record HasVersion (text shown : List ℕ) : Type 0 where
  pub version : VersionValue
  pub is : IsVersion version
  pub bytes : decode_of text ≡ Ok (key version)
  pub no_build : version.build ≡ []
  pub printed : shown ≡ version_text version
  pub read : IsVersionText MAX_SAFE_INTEGER shown version

-- the words of a question, from the name of a subcommand on, and the answer
pub data Answers : List (List ℕ) → Said → Type 0 where
  compare : (a b : List ℕ) (v w : VersionValue) → AreVersions a b v w
      → Answers (codes "compare" ∷ a ∷ b ∷ []) (reply true (Some (sign (precedence v w))))
  test : (a word b : List ℕ) (v w : VersionValue) (relation : Ordering → Bool) → AreVersions a b v w
      → relation_of word ≡ Some relation
      → Answers (codes "compare" ∷ a ∷ word ∷ b ∷ []) (reply (relation (precedence v w)) None)
  diff : (a b : List ℕ) (v w : VersionValue) → AreVersions a b v w
      → Answers (codes "diff" ∷ a ∷ b ∷ []) (reply true (option_map kind_word (kind_between v w)))
  next : (level a : List ℕ) (words : List (List ℕ)) (id : Option (List ℕ)) (v : VersionValue)
      → IsVersionText MAX_SAFE_INTEGER a v → HasIdentifier words id
      → Answers (codes "next" ∷ level ∷ a ∷ words) (next_said v (answer_of_inc v level id None))
  range : (a : List ℕ) (r : Range) (said : Said) → IsRange a r → IsShown (Some r) said
      → Answers (codes "range" ∷ a ∷ []) said
  and : (a b : List ℕ) (r s : Range) (said : Said) → IsRange a r → IsRange b s
      → IsShown (intersection r s) said → Answers (codes "range" ∷ a ∷ codes "and" ∷ b ∷ []) said
  minus : (a b : List ℕ) (r s : Range) (said : Said) → IsRange a r → IsRange b s
      → IsShown (difference r s) said → Answers (codes "range" ∷ a ∷ codes "minus" ∷ b ∷ []) said
  within : (a b : List ℕ) (r s : Range) (least : Option VersionValue) → IsRange a r → IsRange b s
      → IsLeastOf (beyond r s) least → IfSome least (λ v. v.build ≡ [])
      → Answers (codes "range" ∷ a ∷ codes "within" ∷ b ∷ [])
      (reply (is_none least) (option_map version_text least))
  least : (a : List ℕ) (words : List (List ℕ)) (rs : List Range) (least : Option VersionValue)
      → AreRanges (a ∷ words) rs → IsLeastOf (λ v. list_all (λ r. accepts r v false) rs) least
      → IfSome least (λ v. v.build ≡ [])
      → Answers (codes "least" ∷ a ∷ words) (reply (is_some least) (option_map version_text least))
  explain : (a : List ℕ) (r : Range) (drawing : List ℕ) → IsRange a r
      → Answers (codes "explain" ∷ a ∷ []) (say (range_text r ++ 10 ∷ drawing) None Yes)
  get : (part a : List ℕ) (v : VersionValue) (text : VersionValue → Option (List ℕ))
      → part_of part ≡ Some text → IsVersionText MAX_SAFE_INTEGER a v
      → Answers (codes "get" ∷ part ∷ a ∷ []) (reply (is_some (text v)) (text v))
  valid : (a : List ℕ) (v : VersionValue) → IsVersionText MAX_SAFE_INTEGER a v
      → Answers (codes "valid" ∷ a ∷ []) (reply true None)
  invalid : (a : List ℕ) → NoValue (IsVersionText MAX_SAFE_INTEGER a)
      → Answers (codes "valid" ∷ a ∷ []) (say [] (Some NoVersion) No)
  keys : (a : List ℕ) (words : List (List ℕ)) (output : List ℕ) → AreLines HasKey (a ∷ words) output
      → Answers (codes "key" ∷ a ∷ words) (say output None Yes)
  unkeys : (a : List ℕ) (words : List (List ℕ)) (output : List ℕ) → AreLines HasVersion (a ∷ words) output
      → Answers (codes "unkey" ∷ a ∷ words) (say output None Yes)
  spans : (a : List ℕ) (spans : List KeySpan) → AreSpansOf a spans → Answers (codes "spans" ∷ a ∷ [])
      (say (flat_map (λ s. line (span_text s)) spans) None (if is_empty spans then No else Yes))
  sql : (a column : List ℕ) (words : List (List ℕ)) (dialect : Dialect) (spans : List KeySpan)
      → AreSpansOf a spans → is_column column ≡ true → HasDialect words dialect
      → Answers (codes "sql" ∷ a ∷ column ∷ words) (reply true (Some (condition dialect column spans)))
  simplify : (a : List ℕ) (r : Range) (found : Option Range) (said : Said) → IsRange a r
      → IsSimplified r found → IsShown found said → Answers (codes "simplify" ∷ a ∷ []) said
  help : Answers (codes "help" ∷ []) (say HELP.now None Yes)
  about : Answers (codes "about" ∷ []) (say ABOUT.now None Yes)

-- `-` is the only word
abbrev pub is_dash : List (List ℕ) → Bool
is_dash (word ∷ []) = bytes_eq word (codes "-")
is_dash words = false

-- `key -` takes the lines of the input
abbrev pub takes_input : List (List ℕ) → Bool
takes_input [] = false
takes_input (name ∷ words) = bytes_eq name (codes "key") && is_dash words

-- the answer to these words, for this input
pub data IsAnswer (input : List ℕ) (words : List (List ℕ)) : Said → Type 0 where
  of_words : (said : Said) → takes_input words ≡ false → Answers words said → IsAnswer input words said
  of_lines : (output : List ℕ) → takes_input words ≡ true → AreLines HasKeyAndText (lines input) output
      → IsAnswer input words (say output None Yes)

-- what is drawn is ASCII
pub data IsInAscii : List (List ℕ) → Said → Type 0 where
  drawn : (a : List ℕ) (r : Range) (drawing : List ℕ) → IsRange a r → IsAscii drawing
      → IsInAscii (codes "explain" ∷ a ∷ []) (say (range_text r ++ 10 ∷ drawing) None Yes)
  other : (name : List ℕ) (words : List (List ℕ)) (said : Said) → name ≢ codes "explain"
      → IsInAscii (name ∷ words) said

-- what is said of the words: their answer, in ASCII where the locale has no UTF-8, or that they ask
-- nothing
pub data IsReply (input : List ℕ) (is_utf8 : Bool) (words : List (List ℕ)) : Said → Type 0 where
  answered : (said : Said) → IsAnswer input words said → (is_utf8 ≡ false → IsInAscii words said)
      → IsReply input is_utf8 words said
  malformed : (trouble : Trouble) → NoValue (IsAnswer input words)
      → IsReply input is_utf8 words (say [] (Some trouble) Malformed)

-- the first word names a subcommand
abbrev pub is_subcommand : List ℕ → Bool
is_subcommand = is_one_of (codes "compare" ∷ codes "diff" ∷ codes "next" ∷ codes "range"
    ∷ codes "least" ∷ codes "explain" ∷ codes "get" ∷ codes "valid" ∷ codes "key" ∷ codes "unkey"
    ∷ codes "spans" ∷ codes "sql" ∷ codes "simplify" ∷ codes "help" ∷ codes "about" ∷ [])

abbrev pub exit_status : Status → ℕ
exit_status status = elim status [ Yes ↦ 0 | No ↦ 1 | Malformed ↦ 2 ]
