-- The version after a pre-release, and after a release.
use Rattle.semver_core.proofs.Common.{Id, Numeric, VersionValue, IsId, List, [], ap, arith, length, refl, sym, true, ◌++◌, ◌+◌}
use Rattle.semver_core.proofs.Common.{◌<◌, ◌∙◌, ◌∷◌, ◌≡◌, All, is_le, Less, IsLeastVersion, Below, above_patch, above_pre}
use Rattle.semver_core.proofs.Common.{below_cases, below_more, by_major, by_minor, by_patch, by_pre, empty_not_below, upto_patch}
use Rattle.semver_core.proofs.Common.{zero_least, pre_cmp, precedence, IsVersion, release_value, All-cons, All-nil}
use Rattle.{semver_core.specs.Internal.Successors.{next_least, upto_major, upto_minor}, std.proofs.Common.lit<}
use Rattle.std.proofs.lemmas.List.Elements.{All-append}

-- w is above v
abbrev pub IsAbove : VersionValue → VersionValue → Type 0
IsAbove v w = precedence v w ≡ Less

pub first_of_all : (v : VersionValue) → is_le (precedence (record (release_value 0 0 0) { pre_release = Numeric 0 ∷ [] }) v) ≡ true
first_of_all v = upto_patch (record (release_value 0 0 0) { pre_release = Numeric 0 ∷ [] }) v (omega arith) (omega arith) (omega arith) (zero_least v.pre_release)

-- the number 0, alone or behind other identifiers
zero_alone : All IsId (Numeric 0 ∷ [])
zero_alone = All-cons IsId (Numeric 0) [] (lit< tt) (All-nil IsId)

more_above : (xs : List Id) → 0 < length xs → pre_cmp xs (xs ++ Numeric 0 ∷ []) ≡ Less
more_above xs h = grind (arith, below_more xs)

more_least : (xs ys : List Id) → 0 < length xs → pre_cmp xs ys ≡ Less → is_le (pre_cmp (xs ++ Numeric 0 ∷ []) ys) ≡ true
more_least [] ys h k = absurd (omega arith)
more_least (x ∷ xs) [] h k = refl
more_least (x ∷ xs) (y ∷ ys) h k = next_least (x ∷ xs) (y ∷ ys) k

-- nothing lies between a version and the next, whatever their builds
pub least_after_pre_release : (v u : VersionValue) → 0 < length v.pre_release → precedence v u ≡ Less
    → is_le (precedence (record v { pre_release = v.pre_release ++ Numeric 0 ∷ [] }) u) ≡ true
least_after_pre_release v u some h = upto (below_cases v u h)
  where
    next : VersionValue
    next = record v { pre_release = v.pre_release ++ Numeric 0 ∷ [] }

    upto : Below v u → is_le (precedence (record v { pre_release = v.pre_release ++ Numeric 0 ∷ [] }) u) ≡ true
    upto (by_major a) = upto_major next u a
    upto (by_minor a b) = upto_minor next u a b
    upto (by_patch a b c) = ap is_le (above_patch next u a b c)
    upto (by_pre a b c d) =
        upto_patch next u (omega arith) (omega arith) (omega arith) (more_least v.pre_release u.pre_release some d)

pub least_after_release : (v u : VersionValue) → v.pre_release ≡ [] → precedence v u ≡ Less
    → is_le (precedence (record v { patch = v.patch + 1; pre_release = Numeric 0 ∷ [] }) u) ≡ true
least_after_release v u none h = upto (below_cases v u h)
  where
    next : VersionValue
    next = record v { patch = v.patch + 1; pre_release = Numeric 0 ∷ [] }

    upto : Below v u → is_le (precedence (record v { patch = v.patch + 1; pre_release = Numeric 0 ∷ [] }) u) ≡ true
    upto (by_major a) = upto_major next u a
    upto (by_minor a b) = upto_minor next u a b
    upto (by_patch a b c) = upto_patch next u (omega arith) (omega arith) (omega arith) (zero_least u.pre_release)
    upto (by_pre a b c d) = absurd (empty_not_below u.pre_release (ap (λ xs. pre_cmp xs u.pre_release) (sym none) ∙ d))

pub next_of_pre_release : (v : VersionValue) → IsVersion v → 0 < length v.pre_release
    → IsLeastVersion (IsAbove v) (record v { pre_release = v.pre_release ++ Numeric 0 ∷ [] })
next_of_pre_release v is_version some = (
  record {
    major = is_version.major;
    minor = is_version.minor;
    patch = is_version.patch;
    pre_release = All-append IsId v.pre_release (Numeric 0 ∷ []) is_version.pre_release zero_alone;
    build = is_version.build;
  },
  (
    above_pre v (record v { pre_release = v.pre_release ++ Numeric 0 ∷ [] }) refl refl refl (more_above v.pre_release some),
    λ u h. least_after_pre_release v u some h,
  ),
)
