-- Statement: the whole report on a lock file and the `package.json` beside it.
use Rattle.std.specs.Prelude.{◌≡◌, ◌<◌, ◌++◌, ℕ, Bool, true, false, List, [], Option, filter, length}
use Rattle.std.specs.Prelude.{if◌then◌else◌, map, string_bytes}
use Rattle.std.specs.BTreeMap.{btree_map_len}
use Rattle.std.specs.List.{flat_map}
use Rattle.serde_json.specs.Data.{Data}
use Rattle.lock_files.specs.Documents.{AreOf}
use Rattle.lock_check.specs.Complete.{AreAllJudged, AreSingle, AreWorkspacesJudged}
use Rattle.lock_check.specs.Findings.{AreSkips, count_of, is_told, kind_of}
use Rattle.lock_check.specs.Judged.{AreFindings}
use Rattle.lock_check.specs.Malformed.{AreAllTold}
use Rattle.lock_check.specs.Reports.{row_text}
use Rattle.lock_check.specs.Rows.{told_fault, told_finding, told_row}
use Rattle.lock_check.specs.Summary.{summary}
use Rattle.lock_files.specs.declared.fault.Fault.{Fault}
use Rattle.lock_check.specs.declared.finding.Counts.{Counts}
use Rattle.lock_check.specs.declared.finding.Finding.{Finding}
use Rattle.lock_check.specs.declared.finding.Kind.TheVariants as kind
use Rattle.lock_files.specs.declared.lock.Lock.{Lock}
use Rattle.lock_check.specs.declared.options.Format.{Format}
use Rattle.lock_check.specs.declared.options.Format.TheVariants as format
use Rattle.lock_check.specs.declared.report.Report.{Report}
use Rattle.lock_check.specs.declared.row.Row.{Row}

-- the counts are those of the packages, the findings and the malformed fields
pub record AreCounts (lock : Lock) (findings : List Finding) (faults : List Fault) (c : Counts) : Type 0 where
  pub packages : c.packages ≡ btree_map_len lock.packages.now
  pub dependencies : c.dependencies ≡ length findings
  pub satisfied : c.satisfied ≡ count_of kind.Satisfied findings
  pub rejected : c.rejected ≡ count_of kind.Rejected findings
  pub missing : c.missing ≡ count_of kind.Missing findings
  pub absent : c.absent ≡ count_of kind.Absent findings
  pub skipped : c.skipped ≡ count_of kind.Skipped findings
  pub skips : AreSkips findings c.skips
  pub malformed : c.malformed ≡ length faults

-- 2 if something is malformed, else 1 if a dependency is rejected or missing, and else 0
pub record IsStatus (c : Counts) (status : ℕ) : Type 0 where
  pub trouble : 0 < c.malformed → status ≡ 2
  pub rejected : c.malformed ≡ 0 → 0 < c.rejected → status ≡ 1
  pub missing : c.malformed ≡ 0 → 0 < c.missing → status ≡ 1
  pub clean : c.malformed ≡ 0 → c.rejected ≡ 0 → c.missing ≡ 0 → status ≡ 0

abbrev pub is_json : Format → Bool
is_json format.Json = true
is_json _ = false

-- each dependency is judged once, and what is malformed is told; each finding that is told of has a row, in
-- order, behind those of malformed fields; the rows are printed, and the counts unless it is quiet
pub record IsReport (lock : Lock) (file : List ℕ) (f : Format) (is_quiet : Bool) (r : Report) : Type 0 where
  pub findings : List Finding
  pub faults : List Fault
  pub rows : List Row
  pub counts : Counts
  pub each : AreFindings lock findings
  pub all : AreAllJudged lock findings
  pub single : AreSingle findings
  pub workspaces : AreWorkspacesJudged lock findings
  pub malformed : AreAllTold lock faults
  pub told : map told_row rows ≡ map told_fault faults
      ++ map told_finding (filter (λ g. is_told is_quiet (kind_of g.outcome)) findings)
  pub counted : AreCounts lock findings faults counts
  pub printed : string_bytes r.output
      ≡ flat_map (row_text f file) rows ++ (if is_quiet then [] else summary (is_json f) counts)
  pub status : IsStatus counts r.status

-- the report on the packages of both files
abbrev pub IsReportOf : (file : Data) (manifest : Option Data) (name : List ℕ) → Format → Bool → Report
    → Type 0
IsReportOf file manifest name f is_quiet r =
    (lock : Lock) × AreOf file manifest lock × IsReport lock name f is_quiet r
