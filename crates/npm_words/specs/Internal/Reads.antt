-- For proofs and private contracts. What the readers of node-semver's range texts find, by the
-- comparators.
use Rattle.std.specs.Prelude.{if◌then◌else◌, Bool, List, Option, Some, None}
use Rattle.std.specs.List.{list_all}
use Rattle.semver_core.specs.declared.TheConstants.{MAX_SAFE_INTEGER}
use Rattle.npm_words.specs.Alternatives.{is_valid}
use Rattle.npm_words.specs.Table.{Comparison}

-- an alternative whose comparators are valid
abbrev pub valid_one : Bool × List Comparison → Option (Bool × List Comparison)
valid_one a = if list_all (is_valid MAX_SAFE_INTEGER) a.1 then Some a else None
