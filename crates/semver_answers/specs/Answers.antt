-- Statement. The answer to each line of an input.
use Rattle.std.specs.Prelude.{◌≡◌, ℕ, List, IsUtf8}
use Rattle.std.specs.List.{AllZip, flat_map}
use Rattle.semver_answers.specs.Commands.{Asks, IsReply, Question}
use Rattle.semver_answers.specs.Lines.{ended, fields}
use Rattle.semver_answers.specs.Names.{fault_word}
use Rattle.semver_answers.specs.declared.fault.Fault.TheVariants.{BadLine}

-- the answer to a line: the reply to its question, which its fields ask where its bytes are a text,
-- or `bad line` where it asks none
pub data IsAnswer (line answer : List ℕ) : Type 0 where
  replied : (q : Question) → IsUtf8 line × Asks (fields line) q → IsReply q answer → IsAnswer line answer
  no_question : ((q : Question) → IsUtf8 line × Asks (fields line) q → ⊥)
      → answer ≡ fault_word BadLine → IsAnswer line answer

-- the output is the answers to these lines, one to each and with a line feed
abbrev pub Answers : List (List ℕ) → List ℕ → Type 0
Answers lines output = (each : List (List ℕ)) × AllZip IsAnswer lines each × (output ≡ flat_map ended each)
