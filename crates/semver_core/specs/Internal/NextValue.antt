-- For proofs and private contracts: what the fields of the next version hold.
use Rattle.semver_core.specs.Values.Versions.{VersionValue}
use Rattle.semver_core.specs.declared.increment.next.NextVersion.TheInside.{Inside}

-- the five values of the version
abbrev pub next_value : Inside → VersionValue
next_value v = record {
  major = v.major;
  minor = v.minor;
  patch = v.patch;
  pre_release = v.pre_release;
  build = v.build;
}
