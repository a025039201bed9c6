-- Statement. Versions in the memory of the caller.
use Rattle.std.specs.Prelude.{◌≡◌, ◌<◌, ◌≤◌, ◌^◌, ◌++◌, ◌⊎◌, ℕ, List, [], length, true, false}
use Rattle.semver_core.specs.Printing.Text.{marked_list}
use Rattle.semver_core.specs.Text.Identifiers.{Id, is_listed, listed}
use Rattle.semver_core.specs.Values.Versions.{VersionValue}
use Rattle.nodejs_semver_c.specs.Answers.{Puts}
use Rattle.nodejs_semver_c.specs.declared.kept.Parts.{Parts}
use Rattle.nodejs_semver_c.specs.declared.kept.Version.{Version}
use Rattle.nodejs_semver_c.specs.declared.TheConstants.{BAD_VERSION, TOO_LONG}

-- the version of these numbers, and of the identifiers of the two texts. Any text is cut at its dots: a piece
-- of digits is a number, one of nothing is 0, and any other is its bytes.
abbrev pub kept_value : Version → VersionValue
kept_value p = record {
  major = p.major;
  minor = p.minor;
  patch = p.patch;
  pre_release = listed p.pre_release.now;
  build = listed p.build.now;
}

-- both texts spell identifiers, or none, and this is the version
abbrev pub IsKept : Version → VersionValue → Type 0
IsKept p v = (is_listed p.pre_release.now ≡ true) × (is_listed p.build.now ≡ true) × (v ≡ kept_value p)

-- a text is rejected with this status: it is longer than memory, or spells no identifiers
abbrev pub RefusesList : List ℕ → ℕ → Type 0
RefusesList text status = ((status ≡ TOO_LONG) × (2 ^ 63 ≤ length text))
    ⊎ ((status ≡ BAD_VERSION) × (length text < 2 ^ 63) × (is_listed text ≡ false))

abbrev pub RefusesKept : Version → ℕ → Type 0
RefusesKept p status = RefusesList p.pre_release.now status ⊎ RefusesList p.build.now status

-- an answer about the version that is kept, or a text of it is rejected and all is as it was
abbrev pub OnKept : Version → ℕ → Type 0 → (VersionValue → Type 0) → Type 0
OnKept p status Same Answer = ((v : VersionValue) × IsKept p v × Answer v) ⊎ (RefusesKept p status × Same)

-- the identifiers joined by dots; and those of a version, the build behind the pre-release
abbrev pub list_text : List Id → List ℕ
list_text ids = marked_list [] ids

abbrev pub kept_texts : VersionValue → List ℕ
kept_texts v = list_text v.pre_release ++ list_text v.build

-- the numbers of a version, and how long its texts are
abbrev pub parts_of : VersionValue → Parts
parts_of v = record {
  major = v.major;
  minor = v.minor;
  patch = v.patch;
  pre_release_len = length (list_text v.pre_release);
  build_len = length (list_text v.build);
}

-- a version that is kept by these numbers and texts is this one
abbrev pub ComesBack : VersionValue → Type 0
ComesBack v = (is_listed (list_text v.pre_release) ≡ true)
    × (listed (list_text v.pre_release) ≡ v.pre_release)
    × (is_listed (list_text v.build) ≡ true) × (listed (list_text v.build) ≡ v.build)

-- the parts are told, and the texts put in front of a buffer if it has room for them; or they are
-- longer than memory, and all is as it was
abbrev pub PutsVersion : VersionValue → (told_old told_new : Parts) → (old new : List ℕ) → ℕ → Type 0
PutsVersion v told_old told_new old new status =
    ((told_new ≡ parts_of v) × Puts (kept_texts v) old new (length (kept_texts v)) status)
    ⊎ ((status ≡ TOO_LONG) × (2 ^ 63 ≤ length (kept_texts v)) × (told_new ≡ told_old) × (new ≡ old))

-- and they lead back to the version
abbrev pub TellsVersion : VersionValue → (told_old told_new : Parts) → (old new : List ℕ) → ℕ → Type 0
TellsVersion v told_old told_new old new status =
    ComesBack v × PutsVersion v told_old told_new old new status
