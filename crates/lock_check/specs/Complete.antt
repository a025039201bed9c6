-- Statement: each dependency that a package of a lock file writes has one finding, and each workspace too.
use Rattle.std.specs.Prelude.{◌≡◌, ◌⊎◌, ℕ, List, [], Some, AllPairs, Contains}
use Rattle.serde_json.specs.Data.{Data}
use Rattle.serde_json.specs.Find.{get}
use Rattle.lock_check.specs.declared.finding.Finding.{Finding}
use Rattle.lock_files.specs.Dependencies.{IsOf, Writes}
use Rattle.lock_files.specs.Edges.{AreOfOne, IsLeftOut}
use Rattle.lock_files.specs.Lookups.{packages_of}
use Rattle.lock_files.specs.Workspaces.{IsWorkspace, IsWorkspaceName}
use Rattle.lock_files.specs.declared.lock.Field.{Field}
use Rattle.lock_files.specs.declared.lock.Field.TheVariants as field
use Rattle.lock_files.specs.declared.lock.Lock.{Lock}

-- there is a finding about the name
abbrev pub HasFinding : List Finding → List ℕ → Field → List ℕ → Type 0
HasFinding found folder f name = (g : Finding) × Contains found g × IsOf folder f name g.dependency

-- each name for which a package of the lock file writes a text has a finding, unless it is left out
abbrev pub AreAllJudged : Lock → List Finding → Type 0
AreAllJudged lock found = (folder : List ℕ) (fields : Data) (f : Field) (name : List ℕ)
    → get folder (packages_of lock) ≡ Some fields → Writes folder fields f name
    → HasFinding found folder f name ⊎ IsLeftOut lock folder fields f name

-- no name of a package has two findings
abbrev pub AreSingle : List Finding → Type 0
AreSingle found = AllPairs (λ f g. ¬ AreOfOne f.dependency g.dependency) found

-- each workspace of the root project has one about its name
abbrev pub AreWorkspacesJudged : Lock → List Finding → Type 0
AreWorkspacesJudged lock found = (root : Data) (folder : List ℕ) → get [] (packages_of lock) ≡ Some root
    → IsWorkspace root lock folder
    → (name : List ℕ) × IsWorkspaceName lock folder name × HasFinding found [] field.Workspaces name
