-- What is proved of each row of the table, whatever the identifier and the base are.
use Rattle.semver_core.proofs.Common.{Fault, VersionValue, IdentifierBase, List, Option, [], subst, sym, ℕ, ◌≡◌, Result, ⊤}
use Rattle.semver_core.proofs.Common.{IsLeastVersion, incremented, Value, IsOkAnd, codes}
use Rattle.semver_core.specs.Increments.{Least.IsPlain, Table.answer_of_inc}
use Rattle.{std.specs.Prelude.unwrap_or, semver_core.proofs.Increments.Laws.increment_rises}
use Rattle.semver_core.proofs.{Increments.Laws.prerelease_least, Values.NextLaws.IsAbove}
use Rattle.semver_core.proofs.laws.increments.least_increments.Goals as goal

-- without identifier and with base 0
plain : (P : Result VersionValue Fault → Type 0) (v : VersionValue) (word : List ℕ) (id : Option (List ℕ)) (base : Option IdentifierBase)
    → IsPlain id base → P (incremented v word [] (Value 0)) → P (answer_of_inc v word id base)
plain P v word id base is p =
    let same : incremented v word (unwrap_or id []) (unwrap_or base (Value 0)) ≡ incremented v word [] (Value 0) =
    λ i. incremented v word (is.0 i) (is.1 i) in
    subst P (sym same) p

pub returns-clause-prerelease : goal.returns-clause-prerelease
returns-clause-prerelease c = λ v id base k is rises no_number.
    plain (λ answer. IsOkAnd answer (IsLeastVersion (IsAbove v))) v (codes "prerelease") id base is
    (prerelease_least v k rises no_number)

pub returns-clause-above : goal.returns-clause-above
returns-clause-above c = λ v w word id base none can e.
    (increment_rises v (unwrap_or id []) (unwrap_or base (Value 0)) ⊤ word w (λ _. none) (λ _. can) e).1 tt

pub returns-clause-build : goal.returns-clause-build
returns-clause-build c = λ v w word id base e.
    (increment_rises v (unwrap_or id []) (unwrap_or base (Value 0)) ⊥ word w (λ no. absurd no) (λ no. absurd no) e).0
