-- Statement: the best of the versions of a list that are in a set.
use Rattle.std.specs.Prelude.{◌≡◌, Bool, true, ◌&&◌, ◌||◌, not, List, ◌∷◌, ◌++◌, Option, Some, None}
use Rattle.std.specs.List.{list_all}
use Rattle.std.specs.Ordering.{is_le, is_lt}
use Rattle.semver_core.specs.Values.Order.{precedence}
use Rattle.semver_core.specs.Values.Versions.{VersionValue}

-- a version of the set that has a place in the list such that each version of the set in front of it, and
-- each behind it, has this relation to it; and None exactly where no version of the list is in the set
abbrev pub IsBest : {V : Type 0} → (in_front behind : V → V → Bool) → (V → Bool) → List V → Option V → Type 0
IsBest in_front behind set list None = list_all (λ w. not (set w)) list ≡ true
IsBest {V} in_front behind set list (Some v) = (set v ≡ true) × (front back : List V)
    × (list ≡ front ++ v ∷ back) × (list_all (λ w. not (set w) || in_front w v) front ≡ true)
    × (list_all (λ w. not (set w) || behind w v) back ≡ true)

-- a version takes the place of the best so far: it is in the set, and the best, if there is one, has this
-- relation to it
abbrev pub replaces : {V : Type 0} → (V → V → Bool) → (V → Bool) → Option V → V → Bool
replaces beaten set None v = set v
replaces beaten set (Some best) v = beaten best v && set v

-- the last of the greatest elements by the versions that they have: none in front of it is above it, and all
-- behind it are below
abbrev pub IsMaxOf : {W : Type 0} → (W → VersionValue) → (VersionValue → Bool) → List W → Option W → Type 0
IsMaxOf value set = IsBest (λ w v. is_le (precedence (value w) (value v)))
    (λ w v. is_lt (precedence (value w) (value v))) (λ w. set (value w))

-- the first of the least elements: all in front of it are above it, and none behind it is below
abbrev pub IsMinOf : {W : Type 0} → (W → VersionValue) → (VersionValue → Bool) → List W → Option W → Type 0
IsMinOf value set = IsBest (λ w v. is_lt (precedence (value v) (value w)))
    (λ w v. is_le (precedence (value v) (value w))) (λ w. set (value w))

-- the same of versions
abbrev pub IsMax : (VersionValue → Bool) → List VersionValue → Option VersionValue → Type 0
IsMax = IsMaxOf (λ v. v)

abbrev pub IsMin : (VersionValue → Bool) → List VersionValue → Option VersionValue → Type 0
IsMin = IsMinOf (λ v. v)
