-- The objects that are written have no float.
use Rattle.std.proofs.Common.{◌≡◌, List, None, Option, Some, ℕ, false, refl}
use Rattle.serde_json.specs.Written.{has_float}
use Rattle.lock_check.specs.Outlooks.{outlook_data}
use Rattle.lock_check.specs.Reports.{row_data, text_or_null}
use Rattle.lock_check.specs.Summary.{counts_data, skips_data}
use Rattle.lock_check.specs.declared.finding.Counts.{Counts}
use Rattle.lock_check.specs.declared.outlook_row.OutlookRow.{OutlookRow}
use Rattle.lock_check.specs.declared.row.Row.{Row}

pub no_float-text : (text : Option (List ℕ)) → has_float (text_or_null text) ≡ false
no_float-text None = refl
no_float-text (Some text) = refl

pub no_float-row : (r : Row) → has_float (row_data r) ≡ false
unfolding row_data
no_float-row r = simp no_float-text

pub no_float-outlook : (r : OutlookRow) → has_float (outlook_data r) ≡ false
unfolding outlook_data
no_float-outlook r = simp no_float-text

pub no_float-counts : (c : Counts) → has_float (counts_data c) ≡ false
unfolding counts_data skips_data
no_float-counts c = refl
