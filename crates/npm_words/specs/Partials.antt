-- Statement: how node-semver's readings have partial versions written. In parentheses stand the
-- names of the grammar that node-semver publishes.
use Rattle.std.specs.Prelude.{◌≡◌, ◌==◌, ◌+◌, ◌&&◌, ◌||◌, not, nat_le, ℕ, Bool, true, List, [], ◌∷◌, ◌++◌}
use Rattle.std.specs.Prelude.{length, drop, Option, Some, None, codes, is_none}
use Rattle.std.specs.Char.{is_ascii_digit}
use Rattle.std.specs.List.{list_all, prefix_len}
use Rattle.semver_core.specs.Text.Identifiers.{Id, pieces}
use Rattle.semver_core.specs.Text.Numbers.{IsNumber}
use Rattle.npm_words.specs.Grammar.{IsPreRelease, IsStrictBuild, has_leading_zero, is_strict_list}
use Rattle.npm_words.specs.Table.{Partial, major, minor, whole, wildcard}

-- node-semver's regular expressions count: numbers, the digits at the front of an identifier, and
-- what follows these
abbrev pub is_short_identifier : List ℕ → Bool
is_short_identifier text = let n = prefix_len is_ascii_digit text
    in nat_le (length text) n && nat_le n 257 || nat_le n 256 && nat_le (length text) (n + 251)

-- a place (xr): `x`, `X`, `*`, or a number of any value without leading zeros (nr); loosely it may
-- have some
pub data IsPlace (loose : Bool) : List ℕ → Option ℕ → Type 0 where
  any : (b : ℕ) → (b == 120 || b == 88 || b == 42) ≡ true → IsPlace loose (b ∷ []) None
  number : (run : List ℕ) (n : ℕ) → IsNumber n run n → (not (has_leading_zero run) || loose) ≡ true
      → (loose || nat_le (length run) 257) ≡ true → IsPlace loose run (Some n)

-- the partial of its places
abbrev pub partial_of : Option ℕ → Option ℕ → Option ℕ → List Id → List Id → Partial
partial_of None b c i j = wildcard
partial_of (Some M) None c i j = major M
partial_of (Some M) (Some m) c i j = elim c [
  | None ↦ minor M m
  | Some p ↦ whole (record { major = M; minor = m; patch = p; pre_release = i; build = j })
]

-- one to three places joined by dots (partial), and behind the third a pre-release and build
-- metadata (qualifier), or nothing. `fits` and `goes` say which texts of identifiers may stand in
-- these.
pub data ArePlaces (loose : Bool) (fits goes : List ℕ → Bool) : List ℕ → Partial → Type 0 where
  one : (x : List ℕ) (a : Option ℕ) → IsPlace loose x a
      → ArePlaces loose fits goes x (partial_of a None None [] [])
  two : (x y : List ℕ) (a b : Option ℕ) → IsPlace loose x a → IsPlace loose y b
      → ArePlaces loose fits goes (x ++ (codes "." ++ y)) (partial_of a b None [] [])
  three : (x y z pre build : List ℕ) (a b c : Option ℕ) (ids builds : List Id) → IsPlace loose x a
      → IsPlace loose y b → IsPlace loose z c
      → IsPreRelease loose (is_none c) fits pre ids → IsStrictBuild build builds → goes (drop 1 build) ≡ true
      → ArePlaces loose fits goes (x ++ (codes "." ++ (y ++ (codes "." ++ (z ++ (pre ++ build))))))
      (partial_of a b c ids builds)

-- a partial of a range text
abbrev pub IsPlaces : Bool → List ℕ → Partial → Type 0
IsPlaces loose = ArePlaces loose
    (λ ids. loose || is_strict_list ids && list_all is_short_identifier (pieces ids))
    (λ ids. list_all (λ id. nat_le (length id) 250) (pieces ids))
