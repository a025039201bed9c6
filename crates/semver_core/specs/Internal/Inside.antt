-- For proofs and private contracts: what the fields of a version hold.
use Rattle.std.specs.Prelude.{◌≡◌, ◌≤◌, ⊤, List, [], ◌∷◌, drop, length, take}
use Rattle.semver_core.specs.Text.Identifiers.{Id}
use Rattle.semver_core.specs.Values.Versions.{VersionValue, IsVersion}
use Rattle.semver_core.specs.Values.Views.{id_view, ids_view}
use Rattle.semver_core.specs.declared.version.Version.TheInside.{Inside}
use Rattle.semver_core.specs.declared.version.lists.Lists.{Lists}
use Rattle.semver_core.specs.declared.version.lists.Qualifier.{Qualifier}
use Rattle.semver_core.specs.declared.version.lists.Qualifier.TheVariants as variant

-- the identifiers are those of this pre-release, and behind them those of this build metadata
pub record AreLists (lists : Lists) (front rest : List Id) : Type 0 where
  pub fits : lists.pre_len ≤ length lists.ids.items
  pub pre_release : take lists.pre_len (ids_view lists.ids.items) ≡ front
  pub build : drop lists.pre_len (ids_view lists.ids.items) ≡ rest

-- the pre-release and the build metadata
abbrev pub pre_release_of : Qualifier → List Id
pre_release_of variant.Absent = []
pre_release_of (variant.One id) = id_view id ∷ []
pre_release_of (variant.Lists lists) = take lists.pre_len (ids_view lists.ids.items)

abbrev pub build_of : Qualifier → List Id
build_of (variant.Lists lists) = drop lists.pre_len (ids_view lists.ids.items)
build_of _ = []

-- the pre-release is a front of the identifiers
abbrev pub IsFull : Qualifier → Type 0
IsFull (variant.Lists lists) = lists.pre_len ≤ length lists.ids.items
IsFull _ = ⊤

-- the five values of a version
abbrev pub value_of : Inside → VersionValue
value_of v = record { major = v.major; minor = v.minor; patch = v.patch; pre_release = pre_release_of v.qualifier; build = build_of v.qualifier }

-- they are those of a version
abbrev pub IsValid : Inside → Type 0
IsValid v = IsVersion (value_of v) × IsFull v.qualifier
