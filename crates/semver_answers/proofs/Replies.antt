-- What is replied to a question, from what its texts were read as, and the versions of several texts.
use Rattle.std.proofs.Common.{◌≡◌, ◌∷◌, ◌++◌, ℕ, List, [], Option, None, Result, Ok, Err}
use Rattle.std.proofs.Common.{IfOk, IsErrAnd, OnErr, OnOk, ap, arith, length, length-append, refl, ◌∙◌}
use Rattle.std.proofs.Math.Seq.{get_or-append_seam}
use Rattle.std.specs.Result.{IsOkAnd}
use Rattle.semver_core.specs.Cuts.{Span}
use Rattle.semver_core.specs.Printing.Text.{version_text}
use Rattle.semver_core.specs.Text.Parsing.{Parses}
use Rattle.semver_core.specs.Values.Versions.{VersionValue}
use Rattle.semver_core.specs.declared.TheConstants.{MAX_SAFE_INTEGER}
use Rattle.semver_core.specs.declared.error.Failure.{Failure}
use Rattle.semver_core.specs.declared.error.Failure.TheVariants.{Refused, Memory}
use Rattle.std.specs.Prelude.{IsUtf8, ⊤}
use Rattle.std.specs.declared.alloc.AllocError.{AllocError}
use Rattle.semver_answers.specs.Answers.{IsAnswer, no_question, replied}
use Rattle.semver_answers.specs.Internal.Puts.{Extends}
use Rattle.semver_answers.specs.Lines.{ended, fields}
use Rattle.semver_answers.specs.Commands.{Asks, BestReply, IsReply, Question}
use Rattle.semver_answers.specs.Names.{fault_word, or_none}
use Rattle.semver_answers.specs.Replies.{AreVersionsOf, IsVersionOf, On, SaysFound, fault, read}
use Rattle.semver_answers.specs.Internal.Results.{AnswersFields, FindsBest, IsBestOf, IsFault, IsPut, IsTold, answered, as_told, unasked}
use Rattle.semver_answers.specs.declared.fault.Fault.{Fault}
use Rattle.semver_answers.specs.declared.question.AboutBest.{AboutBest}
use Rattle.semver_answers.specs.declared.question.AboutBest.TheVariants.{Max, Min}
use Rattle.semver_answers.proofs.Bytes.{as_it_was}
use Rattle.semver_answers.proofs.Steps.{AllZip-append}

-- a text is none, and a call's error that says so is the reply of its caller
pub told_fault : {A B : Type 0} (Reads : Result A Fault → Type 0) (Reply : A → List ℕ → Type 0) (error : Failure Fault)
    (r : Result B (Failure Fault)) (output : List ℕ) → IsErrAnd r (λ e. e ≡ error) → IsFault error Reads → IsTold r output output (On Reads Reply)
told_fault Reads Reply error (Ok value) output is h = absurd is
told_fault Reads Reply (Refused why) (Err e) output is h = rw is (refl, fault why h refl)
told_fault Reads Reply (Memory error) (Err e) output is h = rw is (as_it_was output output refl)

-- what is told implies what is weaker
pub told_weaker : {B : Type 0} (P Q : List ℕ → Type 0) (r : Result B (Failure Fault)) (old new : List ℕ) → ((text : List ℕ) → P text → Q text)
    → IsTold r old new P → IsTold r old new Q
told_weaker P Q (Ok value) old new f (reply, grown, h) = (reply, grown, f reply h)
told_weaker P Q (Err (Refused why)) old new f (same, h) = (same, f (fault_word why) h)
told_weaker P Q (Err (Memory error)) old new f h = h

-- a reply to the question of a line
pub told_asked : {B : Type 0} (line : List (List ℕ)) (question : Question) (r : Result B (Failure Fault)) (old new : List ℕ) → Asks line question
    → IsTold r old new (IsReply question) → IsTold r old new (AnswersFields line)
told_asked line question r old new asks is =
    told_weaker (IsReply question) (AnswersFields line) r old new (λ text. answered question asks) is

-- what was put is a reply
pub put_says : (r : Result ⊤ AllocError) (old new text : List ℕ) (Reply : List ℕ → Type 0) → OnOk r (new ≡ old ++ ended text)
    → OnErr r (Extends old new) → Reply text → IsPut r old new Reply
put_says (Ok done) old new text Reply grown extends said = (text, grown, said)
put_says (Err error) old new text Reply grown extends said = extends

pub told_put : {B : Type 0} (r : Result B (Failure Fault)) (put : Result ⊤ AllocError) (value : B) (old new : List ℕ) (Reply : List ℕ → Type 0)
    → r ≡ as_told put value → IsPut put old new Reply → IsTold r old new Reply
told_put r (Ok done) value old new Reply is h = rw is h
told_put r (Err error) value old new Reply is h = rw is h

pub told_says : {B : Type 0} (r : Result B (Failure Fault)) (put : Result ⊤ AllocError) (value : B) (old new text : List ℕ) (Reply : List ℕ → Type 0)
    → r ≡ as_told put value → OnOk put (new ≡ old ++ ended text) → OnErr put (Extends old new) → Reply text → IsTold r old new Reply
told_says r put value old new text Reply is grown extends said =
    told_put r put value old new Reply is (put_says put old new text Reply grown extends said)

-- the answer to a line, by its fields
pub answers_line : (text : List ℕ) (line : List (List ℕ)) (answer : List ℕ) → IsUtf8 text → fields text ≡ line
    → AnswersFields line answer → IsAnswer text answer
answers_line text line answer utf8 e (answered question asks is) = replied question (utf8, rw e asks) is
answers_line text line answer utf8 e (unasked none is) = no_question (λ question asks. none question (rw e at asks.1)) is

-- the first of two texts is read, and the second is none
pub told_second : {A B C : Type 0} (First : Result A Fault → Type 0) (Second : Result B Fault → Type 0)
    (Reply : A → B → List ℕ → Type 0) (a : A) (error : Failure Fault) (r : Result C (Failure Fault)) (output : List ℕ) → First (Ok a)
    → IsErrAnd r (λ e. e ≡ error) → IsFault error Second → IsTold r output output (On First (λ a. On Second (Reply a)))
told_second First Second Reply a error r output first is h =
    told_weaker (On Second (Reply a)) _ r output output (λ text. read a first) (told_fault Second (Reply a) error r output is h)

-- one of the texts has none
pub refused_one : (front : List (List ℕ)) (text : List ℕ) (back : List (List ℕ)) (error : Failure Fault)
    → IsFault error (IsVersionOf text) → IsFault error (AreVersionsOf (front ++ text ∷ back))
refused_one front text back (Refused why) r =
    ((length front, text, omega (arith, length-append front (text ∷ back)), get_or-append_seam front text back text, r.0), r.1)
refused_one front text back (Memory error) r = tt

-- of no texts there is no best, and of one more it is what takes its place, or itself
pub finds_none : (asked : AboutBest) (r : List (Span VersionValue)) → FindsBest asked r [] None
finds_none asked r =
    record { versions = []; read = tt; is = elim asked as (λ a. IsBestOf a r [] None) [ Max ↦ refl | Min ↦ refl ] }

pub finds_more : (asked : AboutBest) (r : List (Span VersionValue)) (texts : List (List ℕ)) (text : List ℕ)
    (best next : Option VersionValue) (v : VersionValue) → Parses MAX_SAFE_INTEGER text v
    → ((list : List VersionValue) → IsBestOf asked r list best → IsBestOf asked r (list ++ v ∷ []) next)
    → FindsBest asked r texts best → FindsBest asked r (texts ++ text ∷ []) next
finds_more asked r texts text best next v parses more f = record {
  versions = f.versions ++ v ∷ [];
  read = AllZip-append (Parses MAX_SAFE_INTEGER) texts (text ∷ []) f.versions (v ∷ []) f.read (parses, tt);
  is = more f.versions f.is;
}

-- what a call found, printed
pub put_found_says : {E : Type 0} (P Q : Option VersionValue → Type 0) (found : Result (Option VersionValue) E) (r : Result ⊤ AllocError)
    (old new : List ℕ) → IfOk found P → IfOk found Q
    → OnOk r (IsOkAnd found (λ v. new ≡ old ++ ended (or_none version_text v))) → OnErr r (Extends old new)
    → IsPut r old new (SaysFound (λ v. P v × Q v))
put_found_says P Q (Ok v) (Ok done) old new p q grown extends = (or_none version_text v, grown, (v, (p, q), refl))
put_found_says P Q (Err error) (Ok done) old new p q grown extends = absurd grown
put_found_says P Q found (Err error) old new p q grown extends = extends

pub value_put : {A E : Type 0} (print : A → List ℕ) (value : Option A) (found : Result (Option A) E) (old new : List ℕ)
    → IfOk found (λ v. v ≡ value) → IsOkAnd found (λ v. new ≡ old ++ ended (or_none print v)) → new ≡ old ++ ended (or_none print value)
value_put print value (Ok v) old new is grown = grown ∙ ap (λ v. old ++ ended (or_none print v)) is
value_put print value (Err error) old new is grown = absurd grown

-- the best of the versions, printed
pub best_reply : (asked : AboutBest) (r : List (Span VersionValue)) (vs : List VersionValue) (best : Option VersionValue)
    (text : List ℕ) → IsBestOf asked r vs best → text ≡ or_none version_text best → BestReply asked r vs text
best_reply Max r vs best text is printed = (best, is, printed)
best_reply Min r vs best text is printed = (best, is, printed)
