-- Statement: what a version is to its callers: three numbers and two lists of identifiers.
use Rattle.std.specs.Prelude.{◌⊎◌, ◌<◌, ◌^◌, ℕ, Bool, List, [], ◌∷◌, All, IsUtf8, length}
use Rattle.semver_core.specs.Lists.{is_empty}
use Rattle.semver_core.specs.Text.Identifiers.{Id, Numeric, AlphaNumeric}

pub record VersionValue : Type 0 where
  pub major : ℕ
  pub minor : ℕ
  pub patch : ℕ
  pub pre_release : List Id
  pub build : List Id

-- a number of 64 bits, or any text
abbrev pub IsId : Id → Type 0
IsId (Numeric n) = n < 2 ^ 64
IsId (AlphaNumeric text) = IsUtf8 text

-- every version: its numbers fit 64 bits, and so do those of its identifiers
pub record IsVersion (v : VersionValue) : Type 0 where
  pub major : v.major < 2 ^ 64
  pub minor : v.minor < 2 ^ 64
  pub patch : v.patch < 2 ^ 64
  pub pre_release : All IsId v.pre_release
  pub build : All IsId v.build

-- a version without a pre-release
abbrev pub is_release : VersionValue → Bool
is_release v = is_empty v.pre_release

-- the version has a pre-release or a build
abbrev pub HasIdentifiers : VersionValue → Type 0
HasIdentifiers v = (0 < length v.pre_release) ⊎ (0 < length v.build)

-- `M.m.p` without a pre-release and without build metadata
abbrev pub release_value : ℕ → ℕ → ℕ → VersionValue
release_value M m p = record { major = M; minor = m; patch = p; pre_release = []; build = [] }

-- `M.m.p-0`, the least of the versions with these three numbers
abbrev pub lowest : ℕ → ℕ → ℕ → VersionValue
lowest M m p = record (release_value M m p) { pre_release = Numeric 0 ∷ [] }
