-- Worked rows, computed: which versions a list of intervals accepts, and what the set algebra makes of two lists.
use Rattle.nodejs_semver.proofs.Common.{After, AlphaNumeric, Before, Bound, List, None, Numeric, Some, Span, Unbounded}
use Rattle.nodejs_semver.proofs.Common.{VersionValue, [], accepts, any_version, covers_one, difference, false, intersection}
use Rattle.nodejs_semver.proofs.Common.{is_some, least_build, refl, release_value, true, ℕ, ◌++◌, ◌∷◌, ◌≡◌}

-- `1.2.3-a` with one letter, `1.2.3-0` and `1.2.3+a`
abbrev lettered : ℕ → ℕ → ℕ → ℕ → VersionValue
lettered major minor patch letter = record (release_value major minor patch) { pre_release = AlphaNumeric (letter ∷ []) ∷ [] }

abbrev zeroth : ℕ → ℕ → ℕ → VersionValue
zeroth major minor patch = record (release_value major minor patch) { pre_release = Numeric 0 ∷ [] }

abbrev built : ℕ → ℕ → ℕ → ℕ → VersionValue
built major minor patch letter = record (release_value major minor patch) { build = AlphaNumeric (letter ∷ []) ∷ [] }

-- the range of one interval
abbrev between : Bound VersionValue → Bound VersionValue → List (Span VersionValue)
between lower upper = record { lower = lower; upper = upper } ∷ []

abbrev from : VersionValue → List (Span VersionValue)
from v = between (Before v) Unbounded

abbrev exactly : VersionValue → List (Span VersionValue)
exactly v = between (Before v) (After v)

rows-accepts :
    -- `>=1.2.3-a` accepts `1.2.3-b`, and `1.2.4-b` only where pre-releases are included
    (accepts (from (lettered 1 2 3 97)) (lettered 1 2 3 98) false ≡ true)
    × (accepts (from (lettered 1 2 3 97)) (lettered 1 2 4 98) false ≡ false)
    × (accepts (from (lettered 1 2 3 97)) (lettered 1 2 4 98) true ≡ true)
    -- `<=1.2.3-a || >=1.0.0 <2.0.0` does not accept `1.2.3-b`: the interval that holds it does not name its three numbers
    × (accepts (between Unbounded (After (lettered 1 2 3 97)) ++ between (Before (release_value 1 0 0)) (Before (release_value 2 0 0))) (lettered 1 2 3 98) false ≡ false)
    -- the range without bounds accepts no pre-release unless they are included
    × (accepts any_version (lettered 5 0 0 97) false ≡ false)
    × (accepts any_version (lettered 5 0 0 97) true ≡ true)
rows-accepts = (refl, refl, refl, refl, refl, refl)

rows-intersection :
    -- `>=1.2.3+a` and `>=1.2.3+b` have `>=1.2.3+b` in common, `<=1.2.3+a` and `<=1.2.3+b` have `<=1.2.3+a`
    (intersection (from (built 1 2 3 97)) (from (built 1 2 3 98)) ≡ Some (from (built 1 2 3 98)))
    × (intersection (between Unbounded (After (built 1 2 3 97))) (between Unbounded (After (built 1 2 3 98))) ≡ Some (between Unbounded (After (built 1 2 3 97))))
    -- `1.2.3` and `2.0.0` have nothing in common, nor have `>1.2.3` and `<=1.2.3`
    × (intersection (exactly (release_value 1 2 3)) (exactly (release_value 2 0 0)) ≡ None)
    × (intersection (between (After (release_value 1 2 3)) Unbounded) (between Unbounded (After (release_value 1 2 3))) ≡ None)
    -- `>1.0.0` and `<1.0.1-0` have an interval in common, although no version lies in it
    × (intersection (between (After (release_value 1 0 0)) Unbounded) (between Unbounded (Before (zeroth 1 0 1))) ≡ Some (between (After (release_value 1 0 0)) (Before (zeroth 1 0 1))))
    -- `<1 || 3 - 4` and `0.5 - 3.5.0` have `>=0.5.0 <1.0.0 || >=3.0.0 <=3.5.0` in common
    × (intersection (between Unbounded (Before (release_value 1 0 0)) ++ between (Before (release_value 3 0 0)) (Before (zeroth 5 0 0))) (between (Before (release_value 0 5 0)) (After (release_value 3 5 0))) ≡ Some (between (Before (release_value 0 5 0)) (Before (release_value 1 0 0)) ++ between (Before (release_value 3 0 0)) (After (release_value 3 5 0))))
rows-intersection = (refl, refl, refl, refl, refl, refl)

rows-difference :
    -- `<1 || 3 - 4` less `0.5 - 3.5.0` is `<0.5.0 || >3.5.0 <5.0.0-0`
    (difference (between Unbounded (Before (release_value 1 0 0)) ++ between (Before (release_value 3 0 0)) (Before (zeroth 5 0 0))) (between (Before (release_value 0 5 0)) (After (release_value 3 5 0))) ≡ Some (between Unbounded (Before (release_value 0 5 0)) ++ between (After (release_value 3 5 0)) (Before (zeroth 5 0 0))))
    -- `>=1.2.3` less `1.2.3 || 2.0.0` is `>1.2.3 <2.0.0 || >2.0.0`, which does not hold 1.2.3
    × (difference (from (release_value 1 2 3)) (exactly (release_value 1 2 3) ++ exactly (release_value 2 0 0)) ≡ Some (between (After (release_value 1 2 3)) (Before (release_value 2 0 0)) ++ between (After (release_value 2 0 0)) Unbounded))
    -- `>=1.0.0` less `^1 || ^2` is `>=2.0.0-0 <2.0.0 || >=3.0.0-0`
    × (difference (from (release_value 1 0 0)) (between (Before (release_value 1 0 0)) (Before (zeroth 2 0 0)) ++ between (Before (release_value 2 0 0)) (Before (zeroth 3 0 0))) ≡ Some (between (Before (zeroth 2 0 0)) (Before (release_value 2 0 0)) ++ between (Before (zeroth 3 0 0)) Unbounded))
    -- `<1.2.3` less `>1.0.0` is `<=1.0.0`, `>=1.2.3` less `>1.2.3` is `1.2.3`, and `1.2.3` less `>=1.0.0` is nothing
    × (difference (between Unbounded (Before (release_value 1 2 3))) (between (After (release_value 1 0 0)) Unbounded) ≡ Some (between Unbounded (After (release_value 1 0 0))))
    × (difference (from (release_value 1 2 3)) (between (After (release_value 1 2 3)) Unbounded) ≡ Some (exactly (release_value 1 2 3)))
    × (difference (exactly (release_value 1 2 3)) (from (release_value 1 0 0)) ≡ None)
rows-difference = (refl, refl, refl, refl, refl, refl)

rows-covers :
    -- `2 - 8` covers `4 - 5`, and neither `1 - 4` nor `5 - 9`
    (covers_one (between (Before (release_value 2 0 0)) (Before (zeroth 9 0 0))) (between (Before (release_value 4 0 0)) (Before (zeroth 6 0 0))) ≡ true)
    × (covers_one (between (Before (release_value 2 0 0)) (Before (zeroth 9 0 0))) (between (Before (release_value 1 0 0)) (Before (zeroth 5 0 0))) ≡ false)
    × (covers_one (between (Before (release_value 2 0 0)) (Before (zeroth 9 0 0))) (between (Before (release_value 5 0 0)) (Before (zeroth 10 0 0))) ≡ false)
    -- `>=1.2.3` covers one interval of `0.1 || 1.4`, and none of `0.1 || <1.2.0`
    × (covers_one (from (release_value 1 2 3)) (between (Before (release_value 0 1 0)) (Before (zeroth 0 2 0)) ++ between (Before (release_value 1 4 0)) (Before (zeroth 1 5 0))) ≡ true)
    × (covers_one (from (release_value 1 2 3)) (between (Before (release_value 0 1 0)) (Before (zeroth 0 2 0)) ++ between Unbounded (Before (release_value 1 2 0))) ≡ false)
    -- `1.2.3 || >4` meets `>3`, and not `1.9.4 || 2 - 3`
    × (is_some (intersection (exactly (release_value 1 2 3) ++ between (Before (release_value 5 0 0)) Unbounded) (from (release_value 4 0 0))) ≡ true)
    × (intersection (exactly (release_value 1 2 3) ++ between (Before (release_value 5 0 0)) Unbounded) (exactly (release_value 1 9 4) ++ between (Before (release_value 2 0 0)) (Before (zeroth 4 0 0))) ≡ None)
rows-covers = (refl, refl, refl, refl, refl, refl, refl)

rows-build :
    -- `1.2.3` comes from `>=1.2.3+a`, `1.2.4` from `>1.2.3+a`, and `1.2.3-a.0` from `>1.2.3-a+b`
    (least_build (from (built 1 2 3 97)) (release_value 1 2 3) ≡ AlphaNumeric (97 ∷ []) ∷ [])
    × (least_build (between (After (built 1 2 3 97)) Unbounded) (release_value 1 2 4) ≡ AlphaNumeric (97 ∷ []) ∷ [])
    × (least_build (between (After (record (lettered 1 2 3 97) { build = AlphaNumeric (98 ∷ []) ∷ [] })) Unbounded) (record (release_value 1 2 3) { pre_release = AlphaNumeric (97 ∷ []) ∷ Numeric 0 ∷ [] }) ≡ AlphaNumeric (98 ∷ []) ∷ [])
    -- `1.0.1-0` of `>1.0.0+a <1.0.1-5` comes from no lower bound, nor does `0.0.0` of `<=1.0.0 || >=0.0.0+a`
    × (least_build (between (After (built 1 0 0 97)) (Before (record (release_value 1 0 1) { pre_release = Numeric 5 ∷ [] }))) (zeroth 1 0 1) ≡ [])
    × (least_build (between Unbounded (After (release_value 1 0 0)) ++ from (built 0 0 0 97)) (release_value 0 0 0) ≡ [])
rows-build = (refl, refl, refl, refl, refl)
