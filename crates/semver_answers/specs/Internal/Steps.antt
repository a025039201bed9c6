-- For proofs. What the steps of a run do.
use Rattle.std.specs.Prelude.{◌≡◌, ◌<◌, ℕ, List, ◌++◌, length, true, Option, Result, Ok, Err, ⊤}
use Rattle.std.specs.Io.KnownBytes.{Appends, Consumes, Keeps}
use Rattle.std.specs.List.{list_all, flat_map}
use Rattle.std.specs.declared.alloc.AllocError.{AllocError}
use Rattle.semver_answers.specs.Answers.{Answers, IsAnswer}
use Rattle.semver_answers.specs.Lines.{HasLines, ended, last_line, no_feed}
use Rattle.semver_answers.specs.Outcome.{AnswersTorn}
use Rattle.semver_answers.specs.declared.run.RunFault.{RunFault}
use Rattle.semver_answers.specs.declared.run.RunFault.TheVariants.{Read, Write, Memory}

-- the answers of a beginning of these lines
abbrev pub AnswersFront : List (List ℕ) → List ℕ → Type 0
AnswersFront all written = (front rest : List (List ℕ)) × (all ≡ front ++ rest) × Answers front written

-- the output grew by the answer to this line, with a line feed
pub record GrowsByAnswer (line old new : List ℕ) : Type 0 where
  pub answer : List ℕ
  pub is_answer : IsAnswer line answer
  pub grown : new ≡ old ++ ended answer

-- what was pending and these bytes are some lines, each with its line feed, and then what is
-- pending after them; of the lines this is said
pub record Told (Said : List (List ℕ) → List ℕ → Type 0) (pending bytes after output : List ℕ) : Type 0 where
  pub lines : List (List ℕ)
  pub has_lines : no_feed pending ≡ true → HasLines (pending ++ bytes) lines after
  pub said : Said lines output

-- a chunk was taken: its lines are answered, or a beginning of them where an allocation failed
abbrev pub Took : Result ⊤ AllocError → (pending bytes after output : List ℕ) → Type 0
Took (Ok done) pending bytes after output = Told Answers pending bytes after output
Took (Err error) pending bytes after output = (rest : List ℕ) × Told AnswersFront pending bytes rest output

-- the lines that were cut from a chunk so far are answered; this waits before the rest of the chunk
pub record Taken (pending bytes waits rest output : List ℕ) : Type 0 where
  pub lines : List (List ℕ)
  pub divided : pending ++ bytes ≡ flat_map ended lines ++ (waits ++ rest)
  pub each : no_feed pending ≡ true → (list_all no_feed lines ≡ true) × (no_feed waits ≡ true)
  pub answers : Answers lines output

-- a writer that tells its bytes got a front of these, and not all
pub record WritesFront (held holds : Option (List ℕ)) (bytes : List ℕ) : Type 0 where
  pub front : List ℕ
  pub left : List ℕ
  pub divided : bytes ≡ front ++ left
  pub some_left : 0 < length left
  pub appended : Appends held holds front

-- these bytes were read, and what is said of the lines that end in them was written
pub record Turned (Said : List (List ℕ) → List ℕ → Type 0) (had left held holds : Option (List ℕ))
    (pending after bytes : List ℕ) : Type 0 where
  pub written : List ℕ
  pub consumed : Consumes had left bytes
  pub appended : Appends held holds written
  pub told : Told Said pending bytes after written

-- what an error leaves: some bytes were read, and a part of the answers to the lines that end in
-- them is written
abbrev pub Stopped : (had left held holds : Option (List ℕ)) (pending : List ℕ) → RunFault → Type 0
Stopped had left held holds pending Read = Keeps had left × Keeps held holds
Stopped had left held holds pending Memory =
    (bytes rest : List ℕ) × Turned AnswersFront had left held holds pending rest bytes
Stopped had left held holds pending Write =
    (bytes rest : List ℕ) × Turned AnswersTorn had left held holds pending rest bytes

-- what the end of the input leaves: the pending line is answered, where it is not empty
abbrev pub Finished : (held holds : Option (List ℕ)) (pending : List ℕ) → Result ⊤ RunFault → Type 0
Finished held holds pending (Ok done) =
    (written : List ℕ) × Appends held holds written × Answers (last_line pending) written
Finished held holds pending (Err Read) = ⊥
Finished held holds pending (Err Memory) = Keeps held holds
Finished held holds pending (Err Write) =
    (written : List ℕ) × Appends held holds written × AnswersTorn (last_line pending) written
