-- Statement: what is told of a finding, in whichever format.
use Rattle.std.specs.Prelude.{ℕ, List, Option, Some, None, option_map}
use Rattle.lock_check.specs.Findings.{kind_of}
use Rattle.lock_files.specs.Faults.{fault_folder, fault_name}
use Rattle.lock_files.specs.Wanted.{wanted_text}
use Rattle.lock_files.specs.declared.fault.Fault.{Fault}
use Rattle.lock_check.specs.declared.finding.Finding.{Finding}
use Rattle.lock_check.specs.declared.finding.Kind.{Kind}
use Rattle.lock_check.specs.declared.finding.Kind.TheVariants.{Malformed}
use Rattle.lock_check.specs.declared.finding.Outcome.{Outcome}
use Rattle.lock_check.specs.declared.finding.Outcome.TheVariants as outcome
use Rattle.lock_check.specs.declared.row.Row.{Row}

-- how a finding is counted, the folder of the package that has the dependency, the name of that,
-- what is wanted of it, and the locked version that is rejected
pub record Told : Type 0 where
  pub kind : Kind
  pub folder : List ℕ
  pub name : Option (List ℕ)
  pub need : Option (List ℕ)
  pub found : Option (List ℕ)

abbrev pub rejected_version : Outcome → Option (List ℕ)
rejected_version (outcome.Rejected version smallest) = Some version.now
rejected_version (outcome.NoVersion version) = Some version.now
rejected_version _ = None

abbrev pub told_finding : Finding → Told
told_finding f = record {
  kind = kind_of f.outcome;
  folder = f.dependency.package.folder.now;
  name = Some f.dependency.name.now;
  need = Some (wanted_text f.dependency.wanted);
  found = rejected_version f.outcome;
}

abbrev pub told_fault : Fault → Told
told_fault f = record {
  kind = Malformed;
  folder = fault_folder f;
  name = fault_name f;
  need = None;
  found = None;
}

abbrev pub told_row : Row → Told
told_row r = record {
  kind = r.kind;
  folder = r.folder.now;
  name = option_map (λ t. t.now) r.name;
  need = option_map (λ t. t.now) r.need;
  found = option_map (λ t. t.now) r.found;
}
