-- Statement: the order of versions (SemVer 2.0.0, item 11), in which, as in equality and hash, build metadata
-- does not count; and an order that counts it.
use Rattle.std.specs.Prelude.{Bool, List, [], ◌∷◌}
use Rattle.std.specs.Cmp.Lexicographic.{slice_cmp}
use Rattle.std.specs.Ordering.{eq_by_cmp, nat_cmp, on, then_cmp}
use Rattle.std.specs.declared.cmp.Ordering.{Ordering}
use Rattle.std.specs.declared.cmp.Ordering.TheVariants.{Less, Greater}
use Rattle.semver_core.specs.Text.Identifiers.{Id, Numeric, AlphaNumeric}
use Rattle.semver_core.specs.Values.Versions.{VersionValue}

-- numbers by value and below texts, texts by their bytes
abbrev pub id_cmp : Id → Id → Ordering
id_cmp (Numeric m) (Numeric n) = nat_cmp m n
id_cmp (Numeric m) (AlphaNumeric t) = Less
id_cmp (AlphaNumeric s) (Numeric n) = Greater
id_cmp (AlphaNumeric s) (AlphaNumeric t) = slice_cmp nat_cmp s t

-- a pre-release is below its release, whose list is empty; two lists go identifier by identifier
abbrev pub pre_cmp : List Id → List Id → Ordering
pre_cmp [] (y ∷ ys) = Greater
pre_cmp (x ∷ xs) [] = Less
pre_cmp xs ys = slice_cmp id_cmp xs ys

-- major, minor and patch as numbers, and then the pre-release
abbrev pub precedence : VersionValue → VersionValue → Ordering
precedence = then_cmp (on (λ v. v.major) nat_cmp) (then_cmp (on (λ v. v.minor) nat_cmp)
    (then_cmp (on (λ v. v.patch) nat_cmp) (on (λ v. v.pre_release) pre_cmp)))

-- precedence, and then the builds identifier by identifier: none is below some, numbers go by value and below
-- texts
abbrev pub build_order : VersionValue → VersionValue → Ordering
build_order = then_cmp precedence (on (λ v. v.build) (slice_cmp id_cmp))

-- the versions have the same place in the order, whatever their builds
abbrev pub version_eq : VersionValue → VersionValue → Bool
version_eq = eq_by_cmp precedence
