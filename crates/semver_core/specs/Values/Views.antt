-- Statement: what a contract sees of identifiers and of the parts of a version.
use Rattle.std.specs.Prelude.{List, map, string_bytes}
use Rattle.semver_core.specs.Text.Identifiers.{Id, Numeric, AlphaNumeric}
use Rattle.semver_core.specs.Values.Versions.{VersionValue, release_value}
use Rattle.semver_core.specs.declared.identifier.Identifier.{Identifier}
use Rattle.semver_core.specs.declared.identifier.Identifier.TheVariants as variant
use Rattle.semver_core.specs.declared.borrowed.identifier.IdentifierRef.{IdentifierRef}
use Rattle.semver_core.specs.declared.borrowed.identifier.IdentifierRef.TheVariants as lent
use Rattle.semver_core.specs.declared.version.parts.VersionParts.{VersionParts}

abbrev pub id_view : Identifier → Id
id_view (variant.Numeric n) = Numeric n
id_view (variant.AlphaNumeric text) = AlphaNumeric (string_bytes text)

abbrev pub lent_id_view : IdentifierRef → Id
lent_id_view (lent.Numeric n) = Numeric n
lent_id_view (lent.AlphaNumeric text) = AlphaNumeric text.now

abbrev pub ids_view : List Identifier → List Id
ids_view list = map id_view list

-- the version that parts make
abbrev pub parts_value : VersionParts → VersionValue
parts_value p = record (release_value p.major p.minor p.patch)
    { pre_release = ids_view p.pre_release.items; build = ids_view p.build.items }
