-- Statement. What a run has read and written by its end.
use Rattle.std.specs.Prelude.{◌≡◌, ◌⊎◌, ℕ, List, ◌∷◌, ◌++◌, Option, Result, Ok, Err, ⊤}
use Rattle.std.specs.Io.KnownBytes.{Appends, Consumes, IsAtEnd}
use Rattle.semver_answers.specs.Answers.{Answers, IsAnswer}
use Rattle.semver_answers.specs.Lines.{HasLines, ended, last_line}
use Rattle.semver_answers.specs.declared.run.RunFault.{RunFault}
use Rattle.semver_answers.specs.declared.run.RunFault.TheVariants.{Read, Write, Memory}

-- the answers of a beginning of these lines, and then a front of the next line's answer
abbrev pub AnswersTorn : List (List ℕ) → List ℕ → Type 0
AnswersTorn all written = (front rest : List (List ℕ)) × (line output answer begun left : List ℕ)
    × (all ≡ front ++ line ∷ rest) × Answers front output × IsAnswer line answer
    × (ended answer ≡ begun ++ left) × (written ≡ output ++ begun)

-- What is written by the end of a run that read these lines, each with its line feed, and this rest
-- behind them, and whose reader has this left. Only a run that met the end of its input answers the
-- rest.
abbrev pub Writes : Result ⊤ RunFault → Option (List ℕ) → List (List ℕ) → List ℕ → List ℕ → Type 0
Writes (Ok done) left ls rest out = IsAtEnd left × Answers (ls ++ last_line rest) out
Writes (Err Read) left ls rest out = Answers ls out
Writes (Err Memory) left ls rest out = (front more : List (List ℕ)) × (ls ≡ front ++ more) × Answers front out
Writes (Err Write) left ls r out = AnswersTorn ls out ⊎ (IsAtEnd left × AnswersTorn (ls ++ last_line r) out)

-- A run with this result, of a reader that had and has these bytes left and a writer that held and
-- holds these, where the two tell their bytes: it read lines and a rest without a line feed, and
-- wrote what it should.
abbrev pub Ran : Result ⊤ RunFault → (had left held holds : Option (List ℕ)) → Type 0
Ran result had left held holds = (read wrote rest : List ℕ) × (lines : List (List ℕ)) × Consumes had left read
    × Appends held holds wrote × HasLines read lines rest × Writes result left lines rest wrote
