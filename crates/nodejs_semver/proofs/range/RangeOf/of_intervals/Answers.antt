use Rattle.nodejs_semver.proofs.{Common.{List, Some, [], false, if_any, length, map, refl, ◌==◌, ◌∷◌, ◌≡◌}, Values.{map-none, map-some}}
use Rattle.nodejs_semver.proofs.range.RangeOf.of_intervals.Goals as goal

some_made : {A B : Type 0} (f : A → B) (xs : List A) → false ≡ (length xs == 0) → Some (map f xs) ≡ if_any (map f xs)
some_made f [] e = cc e
some_made f (x ∷ xs) e = refl

pub invariant_of-result : goal.invariant_of-result
invariant_of-result g c = record { some = map-some _ c.args.intervals.items c.if-is_empty.ensures; each = c.requires }

pub returns-then-is_empty : goal.returns-then-is_empty
returns-then-is_empty g c = rw (map-none _ c.args.intervals.items c.if-is_empty.ensures) refl

pub returns-else-is_empty : goal.returns-else-is_empty
returns-else-is_empty g c = some_made _ c.args.intervals.items c.if-is_empty.ensures
