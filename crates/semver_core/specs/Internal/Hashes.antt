-- For proofs: what the hash of an identifier and of a version reads. Build metadata is not hashed.
use Rattle.std.specs.Prelude.{◌++◌}
use Rattle.std.specs.Hash as fed
use Rattle.std.specs.Hash.{HashWrites}
use Rattle.semver_core.specs.Text.Identifiers.{Id, Numeric, AlphaNumeric}
use Rattle.semver_core.specs.Values.Versions.{VersionValue}

abbrev pub id_writes : Id → HashWrites
id_writes (Numeric n) = fed.u8 0 ++ fed.u64 n
id_writes (AlphaNumeric text) = fed.u8 1 ++ fed.str text

abbrev pub version_writes : VersionValue → HashWrites
version_writes v = fed.u64 v.major ++ (fed.u64 v.minor ++ (fed.u64 v.patch ++ fed.slice id_writes v.pre_release))
