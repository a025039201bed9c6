-- Statement: what kind of difference there is between two versions.
use Rattle.std.specs.Prelude.{◌==◌, ◌&&◌, not, ℕ, if◌then◌else◌, List, codes, Option, Some, None}
use Rattle.std.specs.declared.cmp.Ordering.TheVariants.{Less, Equal}
use Rattle.semver_core.specs.Values.Order.{precedence}
use Rattle.semver_core.specs.Values.Versions.{VersionValue, is_release}
use Rattle.semver_core.specs.declared.difference.VersionDiff.{VersionDiff}
use Rattle.semver_core.specs.declared.difference.VersionDiff.TheVariants.{Major, Minor, Patch, PreMajor}
use Rattle.semver_core.specs.declared.difference.VersionDiff.TheVariants.{PreMinor, PrePatch, PreRelease}

-- the kind, by the lower and the higher of two versions
abbrev pub kind_up : VersionValue → VersionValue → VersionDiff
kind_up low high = if not (is_release low) && is_release high then
    (if low.minor == 0 && low.patch == 0 then Major
    else if not (high.patch == 0) then Patch else if not (high.minor == 0) then Minor else Major)
    else if not (low.major == high.major) then (if is_release high then Major else PreMajor)
    else if not (low.minor == high.minor) then (if is_release high then Minor else PreMinor)
    else if not (low.patch == high.patch) then (if is_release high then Patch else PrePatch) else PreRelease

-- none between equal versions
abbrev pub kind_between : VersionValue → VersionValue → Option VersionDiff
kind_between v w = elim (precedence v w) [ Less ↦ Some (kind_up v w) | Equal ↦ None | _ ↦ Some (kind_up w v) ]

-- the word of a kind
abbrev pub kind_word : VersionDiff → List ℕ
kind_word Major = codes "major"
kind_word Minor = codes "minor"
kind_word Patch = codes "patch"
kind_word PreMajor = codes "premajor"
kind_word PreMinor = codes "preminor"
kind_word PrePatch = codes "prepatch"
kind_word PreRelease = codes "prerelease"
