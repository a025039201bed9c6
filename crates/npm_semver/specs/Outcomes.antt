-- Statement: what the program writes for its arguments, its input and the locale, and its exit status.
use Rattle.std.specs.Prelude.{◌≡◌, ◌≢◌, ◌∷◌, ◌++◌, [], ℕ, Bool, true, false, List, Option, codes}
use Rattle.std.specs.Prelude.{◌&&◌, is_some, option_map, unwrap_or, if◌then◌else◌, Result, Ok, Err}
use Rattle.std.specs.IoError.{error_kind}
use Rattle.std.specs.declared.io.Error.{Error}
use Rattle.std.specs.declared.io.ErrorKind.TheVariants.{BrokenPipe}
use Rattle.semver_core.specs.Lists.{is_empty}
use Rattle.npm_semver.specs.Arguments.{Asked, IsAsked}
use Rattle.npm_semver.specs.Responses.{Responds, Written, tells_why, with_records}
use Rattle.npm_semver.specs.Subcommands.{IsReply, Trouble, exit_status, is_subcommand, say}
use Rattle.npm_semver.specs.Words.{value}
use Rattle.npm_semver.specs.declared.subcommands.replies.Status.{Status}

-- what is written to standard output and to standard error, and the exit status
pub record Outcome : Type 0 where
  pub output : List ℕ
  pub errors : List ℕ
  pub status : ℕ

-- nothing is told, or a line is, in some words
pub data IsTold : Bool → List ℕ → Type 0 where
  nothing : IsTold false []
  line : (words : List ℕ) → IsTold true (codes "semver: " ++ (words ++ 10 ∷ []))

-- the first argument decides
abbrev pub has_subcommand : List (List ℕ) → Bool
has_subcommand arguments = is_subcommand (unwrap_or (value arguments) [])

-- what a subcommand says of these arguments, or what is written for what they ask; before its error
-- it is told why texts are left out, if that is asked
pub data IsOutcome (arguments : List (List ℕ)) (input : List ℕ) (is_utf8 : Bool) : Outcome → Type 0 where
  subcommand : (output errors : List ℕ) (trouble : Option Trouble) (status : Status)
      → has_subcommand arguments ≡ true → IsReply input is_utf8 arguments (say output trouble status)
      → IsTold (is_some trouble) errors → IsOutcome arguments input is_utf8
      (record { output = output; errors = errors; status = exit_status status })
  response : (asked : Option Asked) (written : Written) (reasons errors : List ℕ)
      → has_subcommand arguments ≡ false → IsAsked arguments asked
      → Responds (option_map (with_records input) asked) written
      → (tells_why asked ≡ false → reasons ≡ [])
      → IsTold (is_some written.refusal) errors → IsOutcome arguments input is_utf8 (record {
        output = written.output;
        errors = reasons ++ errors;
        status = if written.is_success then 0 else 1;
      })

-- what is told on a terminal where nothing else is
abbrev pub hint : List ℕ
hint = codes "semver: no version is printed; --why tells why\n"

abbrev pub is_silent : Outcome → Bool
is_silent o = is_empty o.output && is_empty o.errors

abbrev pub with_hint : Bool → Outcome → Outcome
with_hint is_wanted o = if is_wanted && is_silent o
    then record { output = o.output; errors = hint; status = o.status } else o

-- how the program ends a write to standard output: that a reader has closed the pipe is no error
pub data IsUnlessClosed : Result (Unit {0}) Error → Result (Unit {0}) Error → Type 0 where
  written : (u v : Unit {0}) → IsUnlessClosed (Ok u) (Ok v)
  closed : (error : Error) → error_kind error ≡ BrokenPipe → IsUnlessClosed (Err error) (Ok tt)
  failed : (error : Error) → error_kind error ≢ BrokenPipe → IsUnlessClosed (Err error) (Err error)
