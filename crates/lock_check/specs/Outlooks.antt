-- Statement: how the dependencies of a lock file are counted by what an index has of them, which of
-- them are told of, and what is told.
use Rattle.std.specs.Prelude.{not, ◌||◌, cond, ℕ, Bool, true, false, List, [], ◌∷◌, ◌++◌, codes, count_by}
use Rattle.std.specs.Prelude.{Option, None, option_map, is_some, string_bytes}
use Rattle.std.specs.Option.{option_copied}
use Rattle.std.specs.Fmt.{decimal}
use Rattle.serde_json.specs.Data.{Data, member, no_members, number, object, string, unsigned}
use Rattle.serde_json.specs.Written.{compact_text}
use Rattle.nodejs_semver.specs.Versions.{VersionValue}
use Rattle.semver_core.specs.Printing.Text.{version_text}
use Rattle.lock_check.specs.Reports.{json_line, text_or_null}
use Rattle.lock_files.specs.Wanted.{wanted_text}
use Rattle.lock_check.specs.declared.outlook.Class.{Class}
use Rattle.lock_check.specs.declared.outlook.Class.TheVariants as class
use Rattle.lock_check.specs.declared.outlook.Outlook.{Outlook}
use Rattle.lock_check.specs.declared.outlook.Standing.{Standing}
use Rattle.lock_check.specs.declared.outlook.Standing.TheVariants as standing
use Rattle.lock_check.specs.declared.outlook_row.OutlookRow.{OutlookRow}
use Rattle.lock_check.specs.declared.raises.Latest.{Latest}
use Rattle.lock_check.specs.declared.raises.Reason.{Reason}
use Rattle.lock_check.specs.declared.raises.Reason.TheVariants as reason

-- a dependency is outdated if its version may be raised, or if there is a newer one that its range does
-- not accept
abbrev pub class_of : Standing → Class
class_of (standing.Listed raise) =
    cond (is_some raise.wanted || is_some raise.latest) class.Outdated class.Current
class_of standing.Unlisted = class.Unlisted
class_of (standing.Skipped omission) = class.Skipped

abbrev pub is_same_class : Class → Class → Bool
is_same_class class.Outdated class.Outdated = true
is_same_class class.Current class.Current = true
is_same_class class.Unlisted class.Unlisted = true
is_same_class class.Skipped class.Skipped = true
is_same_class _ _ = false

-- how many of the dependencies are of this class
abbrev pub count_in : Class → List Outlook → ℕ
count_in c outlooks = count_by (λ o. is_same_class c (class_of o.standing)) outlooks

-- dependencies that are told of; if it is quiet, none that is not outdated
abbrev pub is_shown : Bool → Class → Bool
is_shown is_quiet class.Outdated = true
is_shown is_quiet class.Current = false
is_shown is_quiet _ = not is_quiet

abbrev pub class_word : Class → List ℕ
class_word class.Outdated = codes "outdated"
class_word class.Current = codes "current"
class_word class.Unlisted = codes "unlisted"
class_word class.Skipped = codes "skipped"

abbrev pub reason_words : Reason → List ℕ
reason_words reason.PreRelease = codes "a pre-release"
reason_words reason.Above = codes "above the range"
reason_words reason.Below = codes "below the range"
reason_words reason.Between = codes "between parts of the range"

-- what is told of a dependency: how it is counted, the folder of the package that has it, its name,
-- what is wanted of it, the package that a registry is asked for, the locked version, the version to
-- which that may be raised, the newest one if the range does not accept it, and why it does not
pub record ToldOutlook : Type 0 where
  pub class : Class
  pub folder : List ℕ
  pub name : List ℕ
  pub need : List ℕ
  pub asked : List ℕ
  pub locked : Option (List ℕ)
  pub wanted : Option (List ℕ)
  pub latest : Option (List ℕ)
  pub reason : Option (List ℕ)

abbrev pub wanted_in : Standing → Option VersionValue
wanted_in (standing.Listed raise) = option_copied raise.wanted
wanted_in _ = None

abbrev pub latest_in : Standing → Option Latest
latest_in (standing.Listed raise) = raise.latest
latest_in _ = None

abbrev pub told_outlook : Outlook → ToldOutlook
told_outlook o = record {
  class = class_of o.standing;
  folder = o.dependency.package.folder.now;
  name = o.dependency.name.now;
  need = wanted_text o.dependency.wanted;
  asked = o.package.now;
  locked = option_map (λ t. t.now) o.locked;
  wanted = option_map version_text (wanted_in o.standing);
  latest = option_map (λ l. version_text l.version.now) (latest_in o.standing);
  reason = option_map (λ l. reason_words l.reason) (latest_in o.standing);
}

abbrev pub told_outlook_row : OutlookRow → ToldOutlook
told_outlook_row r = record {
  class = r.class;
  folder = r.folder.now;
  name = r.name.now;
  need = r.need.now;
  asked = r.package.now;
  locked = option_map (λ t. t.now) r.locked;
  wanted = option_map string_bytes r.wanted;
  latest = option_map string_bytes r.latest;
  reason = option_map (λ t. t.now) r.reason;
}

-- the object of a row, with its members in the order of their names
unfoldable pub outlook_data : OutlookRow → Data
outlook_data r = object
    (member (codes "dependency") (string r.name.now)
    (member (codes "folder") (string r.folder.now)
    (member (codes "kind") (string (class_word r.class))
    (member (codes "latest") (text_or_null (option_map string_bytes r.latest))
    (member (codes "line") (number (unsigned r.line))
    (member (codes "locked") (text_or_null (option_map (λ t. t.now) r.locked))
    (member (codes "message") (string (string_bytes r.message))
    (member (codes "need") (string r.need.now)
    (member (codes "package") (string r.package.now)
    (member (codes "reason") (text_or_null (option_map (λ t. t.now) r.reason))
    (member (codes "wanted") (text_or_null (option_map string_bytes r.wanted)) no_members)))))))))))

abbrev pub outlook_json : OutlookRow → List ℕ
outlook_json r = json_line (compact_text (outlook_data r))

-- the file, the line and the message
abbrev pub outlook_line : List ℕ → OutlookRow → List ℕ
outlook_line file r = file ++ (58 ∷ (decimal r.line ++ (58 ∷ 32 ∷ (string_bytes r.message ++ 10 ∷ []))))

abbrev pub outlook_text : Bool → List ℕ → OutlookRow → List ℕ
outlook_text true file r = outlook_json r
outlook_text false file r = outlook_line file r
