-- The front of an array, filled as far as there is room.
use Rattle.std.proofs.Common.{◌≡◌, ◌<◌, ◌≤◌, ◌-◌, ◌^◌, ◌∷◌, ◌++◌, ℕ, List, [], arith, drop, length}
use Rattle.std.proofs.Common.{length-append, length-drop, length-take, map, min, set, take_all}
use Rattle.std.proofs.lemmas.List.{length-map, map-append}
use Rattle.nodejs_semver_c.specs.Words.{fitted}
use Rattle.nodejs_semver_c.proofs.Places.{filled}

module _ {A B : Type 0} (f : A → B) (front : List A) (old : List B) where
  fitted_whole : length front ≤ length old → fitted f front old ≡ map f front ++ drop (length front) old
  fitted_whole le = grind (arith, take_all, length-map, le)

  fitted_length : length (fitted f front old) ≡ length old
  fitted_length = grind (arith, length-append, length-map, length-take, length-drop)

-- one more is told, if there is room
pub fitted_more : {A B : Type 0} (f : A → B) (front : List A) (x : A) (old now : List B) (at : ℕ) (d : B)
    → at ≡ min (length front) (2 ^ 64 - 1) → at < length now → length now < 2 ^ 64 → now ≡ fitted f front old
    → set now at (f x) ≡ fitted f (front ++ x ∷ []) old
fitted_more f front x old now at d counted lt short told =
    let same : length now ≡ length old = rw told (fitted_length f front old) in
    let place : at ≡ length front = grind (arith, counted, lt, short) in
    let le : length (front ++ x ∷ []) ≤ length old = omega (arith, length-append front (x ∷ []), place, lt, same) in
    grind (
      arith,
      told,
      place,
      fitted_whole f front old,
      fitted_whole f (front ++ x ∷ []) old le,
      map-append,
      length-append,
      filled (map f front) old (f x) d at,
      length-map,
      lt,
      same,
    )
