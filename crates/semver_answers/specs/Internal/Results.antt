-- For proofs. What the results of reading a question's texts, and of replying to it, say.
use Rattle.std.specs.Prelude.{◌≡◌, ◌<◌, ◌++◌, ◌∷◌, ℕ, List, [], Option}
use Rattle.std.specs.Prelude.{Result, Ok, Err, IfErr, IfOk, length}
use Rattle.std.specs.Prelude.{false, ⊤}
use Rattle.std.specs.Borrow.{Bor}
use Rattle.std.specs.declared.alloc.AllocError.{AllocError}
use Rattle.semver_core.specs.Cuts.{Span}
use Rattle.semver_core.specs.Failures.{RefusedOnlyIf, NoValue}
use Rattle.semver_core.specs.Text.Parsing.{Parses}
use Rattle.semver_core.specs.Values.Versions.{VersionValue}
use Rattle.semver_core.specs.declared.TheConstants.{MAX_SAFE_INTEGER}
use Rattle.semver_core.specs.declared.error.SemverError.{SemverError}
use Rattle.nodejs_semver.specs.Ranges.Best.{IsMax, IsMin}
use Rattle.nodejs_semver.specs.Ranges.Gate.{accepts}
use Rattle.nodejs_semver.specs.Text.Meaning.{Means}
use Rattle.semver_core.specs.declared.error.Failure.{Failure}
use Rattle.semver_core.specs.declared.error.Failure.TheVariants.{Refused, Memory}
use Rattle.semver_answers.specs.Commands.{Asks, IsReply, Question}
use Rattle.semver_answers.specs.Internal.Ahead.{Cuts}
use Rattle.semver_answers.specs.Internal.Puts.{Extends}
use Rattle.semver_answers.specs.Lines.{ended}
use Rattle.semver_answers.specs.Names.{fault_word}
use Rattle.semver_answers.specs.Replies.{AreVersionsOf}
use Rattle.semver_answers.specs.declared.fault.Fault.{Fault}
use Rattle.semver_answers.specs.declared.fields.Behind.{Behind}
use Rattle.semver_answers.specs.declared.fields.Behind.TheVariants.{Fields}
use Rattle.semver_answers.specs.declared.fault.Fault.TheVariants.{BadLine}
use Rattle.semver_answers.specs.declared.question.AboutBest.{AboutBest}
use Rattle.semver_answers.specs.declared.question.AboutBest.TheVariants.{Max, Min}

-- a text was parsed as a version, or as this range
abbrev pub ParsesVersion : List ℕ → Result VersionValue SemverError → Type 0
ParsesVersion text result =
    IfOk result (Parses MAX_SAFE_INTEGER text) × IfErr result (λ _. NoValue (Parses MAX_SAFE_INTEGER text))

abbrev pub ParsesRange : List ℕ → Result (Bor (List (Span VersionValue))) (Failure SemverError) → Type 0
ParsesRange text result = IfOk result (λ range. Means MAX_SAFE_INTEGER text range.now)
    × IfOk result (λ range. 0 < length range.now) × RefusedOnlyIf result (Means MAX_SAFE_INTEGER text [])

-- a text is none, by this error, unless an allocation failed
abbrev pub IsFault : {B : Type 0} → Failure Fault → (Result B Fault → Type 0) → Type 0
IsFault (Refused fault) Reads = Reads (Err fault)
IsFault (Memory error) Reads = ⊤

-- what was read, unless an allocation failed; `view` is how the statement sees it
abbrev pub IsReadAs : {A B : Type 0} → (A → B) → Result A (Failure Fault) → (Result B Fault → Type 0) → Type 0
IsReadAs view (Ok value) Reads = Reads (Ok (view value))
IsReadAs view (Err error) Reads = IsFault error Reads

-- the best of some versions, by a range
abbrev pub IsBestOf : AboutBest → List (Span VersionValue) → List VersionValue → Option VersionValue → Type 0
IsBestOf Max r = IsMax (λ v. accepts r v false)
IsBestOf Min r = IsMin (λ v. accepts r v false)

-- some texts are read as versions, of which this is the best
pub record FindsBest (asked : AboutBest) (r : List (Span VersionValue)) (texts : List (List ℕ))
    (best : Option VersionValue) : Type 0 where
  pub versions : List VersionValue
  pub read : AreVersionsOf texts (Ok versions)
  pub is : IsBestOf asked r versions best

-- the first field was read as a version, and what stands behind it is left
pub record ReadsVersion (text : List ℕ) (version : Result VersionValue SemverError) (behind : Behind)
    : Type 0 where
  pub field : List ℕ
  pub cuts : Cuts text field behind
  pub parsed : ParsesVersion field version

-- the first field was read as this range, and what stands behind it is left
pub record ReadsRange (text : List ℕ) (range : Result (Bor (List (Span VersionValue))) (Failure SemverError))
    (behind : Behind) : Type 0 where
  pub field : List ℕ
  pub cuts : Cuts text field behind
  pub parsed : ParsesRange field range

-- the first field was read as this interval, and these fields stand behind it
pub record ReadsWord (text : List ℕ) (interval : Span VersionValue) (rest : Bor (List ℕ)) : Type 0 where
  pub field : List ℕ
  pub cuts : Cuts text field (Fields rest)
  pub means : Means MAX_SAFE_INTEGER field (interval ∷ [])

-- the answer to a line of these fields
pub data AnswersFields (line : List (List ℕ)) (answer : List ℕ) : Type 0 where
  answered : (question : Question) → Asks line question → IsReply question answer → AnswersFields line answer
  unasked : ((question : Question) → Asks line question → ⊥) → answer ≡ fault_word BadLine
      → AnswersFields line answer

-- a reply was put behind the output, with a line feed, unless an allocation failed
abbrev pub IsPut : Result ⊤ AllocError → (old new : List ℕ) → (List ℕ → Type 0) → Type 0
IsPut (Ok done) old new Reply = (reply : List ℕ) × (new ≡ old ++ ended reply) × Reply reply
IsPut (Err error) old new Reply = Extends old new

-- this value behind what was put, or the error of an allocation
abbrev pub as_told : {A : Type 0} → Result ⊤ AllocError → A → Result A (Failure Fault)
as_told (Ok done) value = Ok value
as_told (Err error) value = Err (Memory error)

-- a reply was put, or an error says what the reply is
abbrev pub IsTold : {A : Type 0} → Result A (Failure Fault) → (old new : List ℕ) → (List ℕ → Type 0) → Type 0
IsTold (Ok value) old new Reply = IsPut (Ok tt) old new Reply
IsTold (Err (Refused fault)) old new Reply = (new ≡ old) × Reply (fault_word fault)
IsTold (Err (Memory error)) old new Reply = Extends old new
