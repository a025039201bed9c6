-- Statement: what is found for a dependency of a lock file.
use Rattle.std.specs.Prelude.{◌≡◌, ◌≢◌, ℕ, true, false, List, [], ◌++◌, Option, Some, None}
use Rattle.std.specs.Prelude.{codes, length, slice_get}
use Rattle.serde_json.specs.View.{view}
use Rattle.lock_files.specs.Fields.{is_set}
use Rattle.lock_files.specs.Lookups.{IsBehind, IsInstalled}
use Rattle.lock_files.specs.Optional.{MayBeAbsent}
use Rattle.lock_check.specs.Outcomes.{IsJudged, Locked, base_of}
use Rattle.lock_check.specs.Standing.{AreEdges, IsAfter}
use Rattle.lock_files.specs.Specifiers.{IsName}
use Rattle.lock_files.specs.Wanted.{IsOtherThan}
use Rattle.lock_files.specs.Workspaces.{AreRead}
use Rattle.lock_check.specs.declared.finding.Finding.{Finding}
use Rattle.lock_check.specs.declared.finding.Outcome.{Outcome}
use Rattle.lock_check.specs.declared.finding.Outcome.TheVariants as outcome
use Rattle.lock_check.specs.declared.finding.Skip.TheVariants as skip
use Rattle.lock_files.specs.declared.edge.Edge.{Edge}
use Rattle.lock_files.specs.declared.lock.Dependency.{Dependency}
use Rattle.lock_files.specs.declared.lock.Field.TheVariants as field
use Rattle.lock_files.specs.declared.lock.Lock.{Lock}
use Rattle.lock_files.specs.declared.lock.Package.{Package}
use Rattle.lock_files.specs.declared.lock.Wanted.{Wanted}

-- a peer that stands inside the installed package that wants it
pub record IsOwnPeer (d : Dependency) (locked : Package) : Type 0 where
  pub peer : d.field ≡ field.Peer
  pub installed : IsInstalled d.package.folder.now
  pub inside : (behind : List ℕ) × (locked.folder.now ≡ d.package.folder.now ++ behind)

-- a link that the root project does not want as a workspace, where a pattern that is not read may mean it
pub record IsLinkOfRoot (d : Dependency) (locked : Package) : Type 0 where
  pub link : is_set (codes "link") (view locked.fields.now) ≡ true
  pub root : d.package.folder.now ≡ []
  pub other : d.field ≢ field.Workspaces
  pub unread : ¬ (AreRead (view d.package.fields.now))

abbrev pub locked_as : Lock → Dependency → Package → Package → Locked
locked_as lock d entry behind = record {
  entry = view entry.fields.now;
  folder = behind.folder.now;
  behind = view behind.fields.now;
  is_nested = lock.is_nested;
  base = base_of d;
}

-- what is found of a package that is locked for a dependency, with that package behind it
pub data IsOutcomeBehind (lock : Lock) (d : Dependency) (locked behind : Package) : Outcome → Type 0 where
  own_peer : IsOwnPeer d locked → IsOutcomeBehind lock d locked behind (outcome.Skipped skip.OwnPeer)
  unnamed : ¬ (IsOwnPeer d locked) → ¬ (IsName d.name.now)
      → IsOutcomeBehind lock d locked behind outcome.Unnamed
  link : ¬ (IsOwnPeer d locked) → IsName d.name.now → IsLinkOfRoot d locked
      → IsOutcomeBehind lock d locked behind (outcome.Skipped skip.Link)
  judged : (found : Outcome) → ¬ (IsOwnPeer d locked) → IsName d.name.now → ¬ (IsLinkOfRoot d locked)
      → IsJudged d (locked_as lock d locked behind) found → IsOutcomeBehind lock d locked behind found

-- what is found of a package that is locked for a dependency; a link may have nothing behind it
pub data IsLockedOutcome (lock : Lock) (d : Dependency) (locked : Package) (found : Outcome) : Type 0 where
  no_folder : IsBehind lock locked None → found ≡ outcome.NoFolder → IsLockedOutcome lock d locked found
  behind : (p : Package) → IsBehind lock locked (Some p) → IsOutcomeBehind lock d locked p found
      → IsLockedOutcome lock d locked found

-- the rules change what the root project itself writes
abbrev pub IsConflict : Dependency → Wanted → Type 0
IsConflict d before = (d.package.folder.now ≡ []) × IsOtherThan d.wanted before

-- what is found for a dependency that wanted that before the overrides, and for which that is locked
pub data IsOutcome (lock : Lock) (d : Dependency) (before : Wanted) : Option Package → Outcome → Type 0 where
  conflict : (locked : Option Package) → IsConflict d before → IsOutcome lock d before locked outcome.Conflict
  absent : ¬ (IsConflict d before) → MayBeAbsent (view d.package.fields.now) d.name.now d.field true
      → IsOutcome lock d before None outcome.Absent
  missing : ¬ (IsConflict d before) → MayBeAbsent (view d.package.fields.now) d.name.now d.field false
      → IsOutcome lock d before None outcome.Missing
  locked : (p : Package) (found : Outcome) → ¬ (IsConflict d before) → IsLockedOutcome lock d p found
      → IsOutcome lock d before (Some p) found

abbrev pub as_wanted : Dependency → Option Wanted → Dependency
as_wanted d (Some w) = record d { wanted = w }
as_wanted d None = d

-- what is found for it if it wants that after the overrides
abbrev pub IsFoundFor : Lock → Edge → Option Wanted → Outcome → Type 0
IsFoundFor lock e None found = found ≡ outcome.NoReference
IsFoundFor lock e (Some w) found =
    IsOutcome lock (as_wanted e.dependency (Some w)) e.dependency.wanted e.locked found

-- the finding of the dependency of this number: what that wants after the overrides, and what is found for it
pub record IsFinding (lock : Lock) (edges : List Edge) (n : ℕ) (f : Finding) : Type 0 where
  pub e : Edge
  pub is : slice_get edges n ≡ Some e
  pub wanted : Option Wanted
  pub after : IsAfter lock edges n e wanted
  pub dependency : f.dependency ≡ as_wanted e.dependency wanted
  pub outcome : IsFoundFor lock e wanted f.outcome

abbrev pub AreFindingsOf : Lock → List Edge → List Finding → Type 0
AreFindingsOf lock edges found = (length found ≡ length edges)
    × ((n : ℕ) (f : Finding) → slice_get found n ≡ Some f → IsFinding lock edges n f)

-- each dependency has one finding, in the same order
pub record AreFindings (lock : Lock) (found : List Finding) : Type 0 where
  pub edges : List Edge
  pub are : AreEdges lock edges
  pub each : AreFindingsOf lock edges found
