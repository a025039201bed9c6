-- Statement: how what is found is counted, which findings are printed, and the exit status.
use Rattle.std.specs.Prelude.{◌≡◌, not, ℕ, Bool, true, false, List, count_by}
use Rattle.lock_check.specs.declared.finding.Finding.{Finding}
use Rattle.lock_check.specs.declared.finding.Kind.{Kind}
use Rattle.lock_check.specs.declared.finding.Kind.TheVariants as kind
use Rattle.lock_check.specs.declared.finding.Outcome.{Outcome}
use Rattle.lock_check.specs.declared.finding.Outcome.TheVariants as outcome
use Rattle.lock_check.specs.declared.finding.Skip.{Skip}
use Rattle.lock_check.specs.declared.finding.Skip.TheVariants as skip
use Rattle.lock_check.specs.declared.finding.Skips.{Skips}

-- what is found is counted as this; all that is not named here is rejected
abbrev pub kind_of : Outcome → Kind
kind_of outcome.Satisfied = kind.Satisfied
kind_of outcome.Tagged = kind.Satisfied
kind_of outcome.Missing = kind.Missing
kind_of outcome.Absent = kind.Absent
kind_of (outcome.Skipped reason) = kind.Skipped
kind_of _ = kind.Rejected

-- findings that are told of; if it is quiet, none that is skipped
abbrev pub is_told : Bool → Kind → Bool
is_told is_quiet kind.Satisfied = false
is_told is_quiet kind.Absent = false
is_told is_quiet kind.Skipped = not is_quiet
is_told is_quiet _ = true

abbrev pub is_same : Kind → Kind → Bool
is_same kind.Satisfied kind.Satisfied = true
is_same kind.Rejected kind.Rejected = true
is_same kind.Missing kind.Missing = true
is_same kind.Absent kind.Absent = true
is_same kind.Skipped kind.Skipped = true
is_same kind.Malformed kind.Malformed = true
is_same _ _ = false

-- how many of the findings are counted as this
abbrev pub count_of : Kind → List Finding → ℕ
count_of k findings = count_by (λ f. is_same k (kind_of f.outcome)) findings

abbrev pub is_same_reason : Skip → Skip → Bool
is_same_reason skip.Unsure skip.Unsure = true
is_same_reason skip.Address skip.Address = true
is_same_reason skip.Link skip.Link = true
is_same_reason skip.Unlocked skip.Unlocked = true
is_same_reason skip.OwnPeer skip.OwnPeer = true
is_same_reason _ _ = false

-- it is skipped for this reason
abbrev pub is_skipped_for : Skip → Outcome → Bool
is_skipped_for s (outcome.Skipped reason) = is_same_reason s reason
is_skipped_for s _ = false

-- how many of the findings are skipped for this reason
abbrev pub skipped_for : Skip → List Finding → ℕ
skipped_for s findings = count_by (λ f. is_skipped_for s f.outcome) findings

-- how many of the findings are skipped for each reason
pub record AreSkips (findings : List Finding) (skips : Skips) : Type 0 where
  pub unsure : skips.unsure ≡ skipped_for skip.Unsure findings
  pub address : skips.address ≡ skipped_for skip.Address findings
  pub link : skips.link ≡ skipped_for skip.Link findings
  pub unlocked : skips.unlocked ≡ skipped_for skip.Unlocked findings
  pub own_peer : skips.own_peer ≡ skipped_for skip.OwnPeer findings
