-- For proofs and private contracts: when a bound names a pre-release of the same three numbers.
use Rattle.std.specs.Prelude.{◌==◌, ◌&&◌, not, Bool}
use Rattle.semver_core.specs.Cuts.{passes}
use Rattle.semver_core.specs.Values.Versions.{VersionValue, is_release}
use Rattle.semver_core.specs.declared.cuts.bound.Bound.{Bound}

-- the version of the bound is a pre-release of the same three numbers as v
abbrev pub names : Bound VersionValue → VersionValue → Bool
names b v = passes (λ w. not (is_release w)
    && ((w.major == v.major) && ((w.minor == v.minor) && (w.patch == v.patch)))) b

-- the versions have the same three numbers
abbrev pub same_triple : VersionValue → VersionValue → Bool
same_triple v w = (v.major == w.major) && ((v.minor == w.minor) && (v.patch == w.patch))
