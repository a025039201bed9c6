-- For proofs and private contracts: which identifiers the next pre-release has.
use Rattle.std.specs.Prelude.{ℕ, List, ◌∷◌, ◌++◌, ◌+◌, Option, None, Some, drop, take}
use Rattle.semver_core.specs.Text.Identifiers.{Id, Numeric, AlphaNumeric}
use Rattle.semver_core.specs.declared.increment.next_ids.NextIds.TheInside.{Inside}

-- the identifiers of a list; a number stands in place of the one behind the first ones, or at the end where
-- there is none
abbrev pub numbered : List Id → Option ℕ → (before : ℕ) → List Id
numbered ids None before = ids
numbered ids (Some n) before = take before ids ++ Numeric n ∷ drop (before + 1) ids

-- the identifiers of the next pre-release
abbrev pub next_ids : Inside → List Id
next_ids v = elim v.asked [
  | None ↦ numbered v.ids v.number v.before
  | Some id ↦ AlphaNumeric id.now ∷ numbered v.ids v.number v.before
]
