-- For proofs and private contracts: what the fields of a borrowed version hold.
use Rattle.std.specs.Prelude.{◌≡◌, ⊤, true, IsUtf8}
use Rattle.semver_core.specs.Text.Identifiers.{Id, Numeric, AlphaNumeric, is_listed, listed}
use Rattle.semver_core.specs.Values.Versions.{IsVersion, VersionValue}
use Rattle.semver_core.specs.declared.borrowed.VersionRef.TheInside.{Inside}
use Rattle.semver_core.specs.declared.borrowed.dotted.IdRef.{IdRef}
use Rattle.semver_core.specs.declared.borrowed.dotted.IdRef.TheVariants as variant

-- the five values of the version
abbrev pub borrowed_value : Inside → VersionValue
borrowed_value v = record {
  major = v.major;
  minor = v.minor;
  patch = v.patch;
  pre_release = listed v.pre_release.now;
  build = listed v.build.now;
}

-- both texts spell lists of identifiers, so that the values are those of a version
pub record IsListed (v : Inside) : Type 0 where
  pub pre_release : is_listed v.pre_release.now ≡ true
  pub build : is_listed v.build.now ≡ true
  pub valid : IsVersion (borrowed_value v)

abbrev pub id_ref_view : IdRef → Id
id_ref_view (variant.Numeric n) = Numeric n
id_ref_view (variant.AlphaNumeric text) = AlphaNumeric text.now

-- the text of the identifier is UTF-8
abbrev pub HasText : IdRef → Type 0
HasText (variant.Numeric n) = ⊤
HasText (variant.AlphaNumeric text) = IsUtf8 text.now
