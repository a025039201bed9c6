-- For proofs. What a command asks, and its outcome, as the statement has them.
use Rattle.std.specs.Prelude.{◌≡◌, ◌∷◌, ◌++◌, ℕ, Bool, false, List, is_some, map, string_bytes}
use Rattle.std.specs.Prelude.{if◌then◌else◌}
use Rattle.npm_semver.specs.Arguments.{IsAsked}
use Rattle.npm_semver.specs.Internal.Asked.{request_of}
use Rattle.npm_semver.specs.Internal.Said.{name_of}
use Rattle.npm_semver.specs.Outcomes as Spec
use Rattle.npm_semver.specs.Outcomes.{IsTold, has_subcommand}
use Rattle.npm_semver.specs.Responses.{Written}
use Rattle.npm_semver.specs.Subcommands.{Said, exit_status, say, takes_input}
use Rattle.npm_semver.specs.Responses as Responses
use Rattle.npm_semver.specs.declared.command.Command.{Command}
use Rattle.npm_semver.specs.declared.command.Command.TheVariants.{Request, Subcommand}
use Rattle.npm_semver.specs.declared.command.Outcome.{Outcome}

abbrev pub IsCommand : List (List ℕ) → Command → Type 0
IsCommand arguments (Subcommand name words) = arguments ≡ name_of name ∷ map string_bytes words.now
IsCommand arguments (Request request) =
    (has_subcommand arguments ≡ false) × IsAsked arguments (request_of request)

abbrev pub reads_input : Command → Bool
reads_input (Subcommand name words) = takes_input (name_of name ∷ map string_bytes words.now)
reads_input (Request request) = Responses.reads_input (request_of request)

abbrev pub outcome : Outcome → Spec.Outcome
outcome o = record {
  output = string_bytes o.output;
  errors = string_bytes o.errors;
  status = o.status;
}

abbrev pub IsSaid : Said → Spec.Outcome → Type 0
IsSaid (say output trouble status) o =
    (o.output ≡ output) × IsTold (is_some trouble) o.errors × (o.status ≡ exit_status status)

abbrev pub IsWritten : Written → List ℕ → Spec.Outcome → Type 0
IsWritten w reasons o = (o.output ≡ w.output)
    × ((errors : List ℕ) × IsTold (is_some w.refusal) errors × (o.errors ≡ reasons ++ errors))
    × (o.status ≡ (if w.is_success then 0 else 1))
