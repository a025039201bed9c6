-- For proofs. The runs of a part, computed: `runs_of` gives the division of `AreRuns`.
use Rattle.std.specs.Prelude.{true, false, List, [], ◌∷◌, ◌++◌}
use Rattle.std.specs.declared.cmp.Ordering.{Ordering}
use Rattle.semver_core.specs.Cuts.{Span}
use Rattle.nodejs_semver.specs.Text.Runs.{Run, fits}

-- the bounds of the words of a run
abbrev pub run_items : {V : Type 0} → Run V → List (Span V)
run_items r = r.first ∷ r.others

-- a run with one word more
abbrev pub longer : {V : Type 0} → Run V → Span V → Run V
longer r s = record r { others = r.others ++ s ∷ [] }

-- the runs, the first one being under way
unfoldable pub runs_from : {V : Type 0} → (V → V → Ordering) → Run V → List (Span V) → List (Run V)
runs_from R r [] = r ∷ []
runs_from R r (s ∷ rest) =
    elim (fits R (longer r s)) [ true ↦ runs_from R (longer r s) rest | false ↦ r ∷ runs_from R (record { first = s; others = [] }) rest ]

-- the same as a function of the bounds, each of which is an interval
abbrev pub runs_of : {V : Type 0} → (V → V → Ordering) → List (Span V) → List (Run V)
runs_of R [] = []
runs_of R (s ∷ rest) = runs_from R (record { first = s; others = [] }) rest
