-- For proofs and private contracts. The version that node-semver finds in a text, strictly or
-- loosely, as functions.
use Rattle.std.specs.Prelude.{◌&&◌, ◌||◌, ◌-◌, ℕ, Bool, List, Option, Some, None, if◌then◌else◌, drop, false}
use Rattle.std.specs.Prelude.{take}
use Rattle.std.specs.Char.{is_ascii_digit}
use Rattle.std.specs.List.{prefix_len}
use Rattle.semver_core.specs.Internal.Reading.{◌>>?◌}
use Rattle.semver_core.specs.Lists.{is_empty}
use Rattle.semver_core.specs.Text.Identifiers.{listed}
use Rattle.semver_core.specs.Values.Versions.{VersionValue}
use Rattle.semver_core.specs.Internal.Fronts.{Front, after_byte, begins_byte, build_front, drop_v, number_of}
use Rattle.semver_core.specs.Internal.Fronts.{number_with}
use Rattle.npm_words.specs.Internal.Words.{drop_ends, pre_front}
use Rattle.npm_words.specs.Grammar.{is_strict_list}

-- the text without the marks that may stand at its front
abbrev pub unmarked : Bool → List ℕ → List ℕ
unmarked loose text = if loose then drop_ends text else drop_v text

-- how many digits a patch number has that leaves the last one before a dot
abbrev pub patch_len : List ℕ → ℕ
patch_len text = let digits = prefix_len is_ascii_digit text in
    if begins_byte 46 (drop digits text) then digits - 1 else digits

-- the patch number: loosely the last digit before a dot begins a pre-release
unfoldable pub patch_front : Bool → ℕ → List ℕ → Front ℕ
patch_front loose limit text = if loose
    then (number_of limit (take (patch_len text) text) >>? λ n. Some (n, drop (patch_len text) text))
    else number_with false limit text

-- loosely a pre-release has any identifiers
abbrev pub fits : Bool → List ℕ → Bool
fits loose ids = loose || is_strict_list ids

-- the version of three numbers, with these texts of its pre-release and of its build, if nothing
-- follows
abbrev pub ended_version : Bool → ℕ → ℕ → ℕ → List ℕ → List ℕ × List ℕ → Option VersionValue
ended_version loose major minor patch pre build = if is_empty build.1 && fits loose pre
    then Some (record {
      major = major;
      minor = minor;
      patch = patch;
      pre_release = listed pre;
      build = listed build.0;
    })
    else None

unfoldable pub qualified_version : Bool → ℕ → ℕ → ℕ → List ℕ → Option VersionValue
qualified_version loose major minor patch text =
    ended_version loose major minor patch (pre_front loose false text).0
    (build_front (pre_front loose false text).1)

-- the version that the whole text is
unfoldable pub whole_version : Bool → ℕ → List ℕ → Option VersionValue
whole_version loose limit text =
    number_with loose limit (unmarked loose text) >>? λ a. after_byte 46 a.1 >>? λ s.
    number_with loose limit s >>? λ b. after_byte 46 b.1 >>? λ t.
    patch_front loose limit t >>? λ c. qualified_version loose a.0 b.0 c.0 c.1
