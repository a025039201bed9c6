-- Statement: which dependencies may be absent.
use Rattle.std.specs.Prelude.{◌≡◌, ℕ, List, Bool, true, false, codes, option_map, unwrap_or}
use Rattle.serde_json.specs.Data.{Data}
use Rattle.lock_files.specs.Fields.{is_set, member_of}
use Rattle.lock_files.specs.declared.lock.Field.{Field}
use Rattle.lock_files.specs.declared.lock.Field.TheVariants.{Optional, Peer}

-- `peerDependenciesMeta` of a package has this name with `optional`, which is `true`
abbrev pub is_optional_peer : Data → List ℕ → Bool
is_optional_peer fields name =
    unwrap_or (option_map (is_set (codes "optional"))
    (member_of (codes "peerDependenciesMeta") name fields)) false

-- an optional one may, and a peer if the package says so; all others have to be there, workspaces
-- too
abbrev pub MayBeAbsent : Data → List ℕ → Field → Bool → Type 0
MayBeAbsent fields name Optional may = may ≡ true
MayBeAbsent fields name Peer may = may ≡ is_optional_peer fields name
MayBeAbsent fields name _ may = may ≡ false
