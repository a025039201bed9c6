use Rattle.std.proofs.Common.{Err, Ok, Result, rules}
use Rattle.std.proofs.lemmas.Bool.{false≢true}
use Rattle.std.specs.Prelude.{IfOk}
use Rattle.std.specs.Result.{IsErr}
use Rattle.registry_index.proofs.index.add.Goals as goal

-- nothing is said of a result that is not there
no_ok : {A E : Type 0} (r : Result A E) (P : A → Type 0) → IsErr r → IfOk r P
no_ok (Ok a) P failed = absurd (false≢true failed)
no_ok (Err e) P failed = tt

pub returns-clause-row : goal.returns-clause-row
returns-clause-row g c = λ clean inside. (
  _,
  (c.in_ok-line.key.items, c.in_ok-line.ensures.key, search rules),
  rw c.in_ok-execute.was at (c.execute.ensures.runs clean inside),
)

pub returns-clause-refused : goal.returns-clause-refused
returns-clause-refused g c = tt

pub returns-in_err-line : goal.returns-in_err-line
returns-in_err-line g c = record {
  row = λ clean inside. no_ok c.from_residual.result _ c.from_residual.ensures.0;
  refused = search rules;
}

pub returns-in_err-execute : goal.returns-in_err-execute
returns-in_err-execute g c = record {
  row = λ clean inside. no_ok c.from_residual-in_err-execute.result _ c.from_residual-in_err-execute.ensures.0;
  refused = search rules;
}
