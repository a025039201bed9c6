-- What the program writes.
use Rattle.npm_semver.specs.Arguments.{Asked, IsAsked}
use Rattle.npm_semver.specs.Internal.Asked.{request_of}
use Rattle.npm_semver.specs.Internal.Commands.{IsCommand, IsSaid, IsWritten, outcome}
use Rattle.npm_semver.specs.Internal.Said.{name_of}
use Rattle.npm_semver.specs.Outcomes as Spec
use Rattle.npm_semver.specs.Outcomes.{IsOutcome, has_subcommand}
use Rattle.npm_semver.specs.Responses.{Responds, Written, records, tells_why, with_records}
use Rattle.npm_semver.specs.Subcommands.{IsReply, Said, say}
use Rattle.npm_semver.specs.declared.command.Command.{Command}
use Rattle.npm_semver.specs.declared.command.Command.TheVariants as Commands
use Rattle.npm_semver.specs.declared.command.Outcome.{Outcome as Made}
use Rattle.npm_semver.specs.declared.question.Request.{Request}
use Rattle.npm_semver.specs.declared.subcommands.Subcommand.{Subcommand}
use Rattle.npm_semver.specs.declared.subcommands.Subcommand.TheVariants.{Compare, Diff, Next, Range, Least, Explain, Get, Valid, Key, Unkey, Spans, Sql, Simplify, Help, About}
use Rattle.std.proofs.Common.{◌≡◌, ◌∷◌, ◌++◌, [], ℕ, Bool, true, false, List, Option, Some, None, is_some, option_map, refl, if◌then◌else◌, Result, Ok, Err, IfOk, Bor, Global, String, map, string_bytes}
use Rattle.std.specs.declared.alloc.AllocError.{AllocError}

pub same_some : {A B : Type 0} (f : A → B) (o : Option A) → is_some (option_map f o) ≡ is_some o
same_some f None = refl
same_some f (Some x) = refl

pub names : (name : Subcommand) (words : List (List ℕ)) → has_subcommand (name_of name ∷ words) ≡ true
names Compare words = refl
names Diff words = refl
names Next words = refl
names Range words = refl
names Least words = refl
names Explain words = refl
names Get words = refl
names Valid words = refl
names Key words = refl
names Unkey words = refl
names Spans words = refl
names Sql words = refl
names Simplify words = refl
names Help words = refl
names About words = refl

-- records change nothing of why
why_once : (input : List ℕ) (asked : Option Asked) → tells_why asked ≡ false → tells_why (option_map (with_records input) asked) ≡ false
why_once input None e = refl
why_once input (Some q) e = elim q.reads_input as (λ b. (if b then record q { versions = q.versions ++ records q.ends_in_nul input } else q).is_why ≡ false) [ true ↦ e | false ↦ e ]

pub said_outcome : (arguments words : List (List ℕ)) (name : Subcommand) (input : List ℕ) (is_utf8 : Bool) (said : Said) (output errors : List ℕ) (status : ℕ)
    → arguments ≡ name_of name ∷ words → IsReply input is_utf8 (name_of name ∷ words) said
    → IsSaid said (record { output = output; errors = errors; status = status })
    → IsOutcome arguments input is_utf8 (record { output = output; errors = errors; status = status })
said_outcome arguments words name input is_utf8 (say out trouble code) output errors status e is (same, told, exits) =
    rw (e, same, exits) (Spec.subcommand out errors trouble code (names name words) is told)

pub written_outcome : (arguments : List (List ℕ)) (input : List ℕ) (is_utf8 : Bool) (reasons : List ℕ) (asked lined : Option Asked) (w : Written) (output errors : List ℕ) (status : ℕ)
    → has_subcommand arguments ≡ false → IsAsked arguments asked → lined ≡ option_map (with_records input) asked → Responds lined w
    → (tells_why lined ≡ false → reasons ≡ []) → IsWritten w reasons (record { output = output; errors = errors; status = status })
    → IsOutcome arguments input is_utf8 (record { output = output; errors = errors; status = status })
written_outcome arguments input is_utf8 reasons asked lined w output errors status none is e responds silent (same, (line, told, wrote), exits) =
    rw (same, wrote, exits) (Spec.response asked w reasons line none is (rw e at responds)
    (λ unasked. silent (rw e (why_once input asked unasked))) told)

module _ (r : Result Made AllocError) (input : List ℕ) (is_utf8 : Bool) (command : Command) where
  pub subcommand_outcome : (name : Subcommand) (words : Bor (List (String Global))) (said : Said) → command ≡ Commands.Subcommand name words
      → IsReply input is_utf8 (name_of name ∷ map string_bytes words.now) said → IfOk r (λ o. IsSaid said (outcome o))
      → IfOk r (λ o. (arguments : List (List ℕ)) → IsCommand arguments command → IsOutcome arguments input is_utf8 (outcome o))
  subcommand_outcome name words said e is h = elim r as (λ k. IfOk k (λ o. IsSaid said (outcome o))
      → IfOk k (λ o. (arguments : List (List ℕ)) → IsCommand arguments command → IsOutcome arguments input is_utf8 (outcome o))) [
        | Ok o ↦ λ h arguments asks. said_outcome arguments _ name input is_utf8 said _ _ _ (rw e at asks) is h
        | Err _ ↦ λ _. tt
      ] h

  pub request_outcome : (reasons : List ℕ) (request : Request) (lined : Option Asked) (w : Written) → command ≡ Commands.Request request
      → lined ≡ option_map (with_records input) (request_of request) → Responds lined w → (tells_why lined ≡ false → reasons ≡ [])
      → IfOk r (λ o. IsWritten w reasons (outcome o))
      → IfOk r (λ o. (arguments : List (List ℕ)) → IsCommand arguments command → IsOutcome arguments input is_utf8 (outcome o))
  request_outcome reasons request lined w e is responds silent h = elim r as (λ k. IfOk k (λ o. IsWritten w reasons (outcome o))
      → IfOk k (λ o. (arguments : List (List ℕ)) → IsCommand arguments command → IsOutcome arguments input is_utf8 (outcome o))) [
        | Ok o ↦ λ h arguments asks. let asked : (has_subcommand arguments ≡ false) × IsAsked arguments (request_of request) = rw e at asks in
            written_outcome arguments input is_utf8 reasons (request_of request) lined w _ _ _ asked.0 asked.1 is responds silent h
        | Err _ ↦ λ _. tt
      ] h
