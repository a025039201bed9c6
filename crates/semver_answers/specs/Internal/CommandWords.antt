-- For proofs. The commands by their words.
use Rattle.std.specs.Prelude.{◌≢◌, ◌++◌, ◌∷◌, ℕ, List, codes}
use Rattle.semver_answers.specs.declared.command.Command.{Command}
use Rattle.semver_answers.specs.declared.command.Command.TheVariants.{Cmp, Ver, Diff, Inc, Range}
use Rattle.semver_answers.specs.declared.command.Command.TheVariants.{And, Minus, Least, Beyond}
use Rattle.semver_answers.specs.declared.command.Command.TheVariants.{Sat, Pre, Out, Max, Min}

-- the word of a command, the first field of its lines
abbrev pub command_word : Command → List ℕ
command_word Cmp = codes "cmp"
command_word Ver = codes "ver"
command_word Diff = codes "diff"
command_word Inc = codes "inc"
command_word Range = codes "range"
command_word And = codes "and"
command_word Minus = codes "minus"
command_word Least = codes "least"
command_word Beyond = codes "beyond"
command_word Sat = codes "sat"
command_word Pre = codes "pre"
command_word Out = codes "out"
command_word Max = codes "max"
command_word Min = codes "min"

-- no command begins this text
abbrev pub IsUnknown : List ℕ → Type 0
IsUnknown text = (command : Command) (rest : List ℕ) → text ≢ command_word command ++ 59 ∷ rest
