-- For proofs and private contracts: sets of points on a line, as lists of half-open stretches. R is the order
-- of the line.
use Rattle.std.specs.Prelude.{Bool, true, ◌&&◌, if◌then◌else◌, List, [], ◌∷◌}
use Rattle.std.specs.declared.cmp.Ordering.{Ordering}
use Rattle.std.specs.List.{list_any}
use Rattle.std.specs.Ordering.{is_le, is_lt}

pub record Stretch (A : Type 0) : Type 0 where
  pub start : A
  pub stop : A

-- the point is not before the start, and it is before the stop
abbrev pub holds : {A : Type 0} → (A → A → Ordering) → Stretch A → A → Bool
holds R s k = is_le (R s.start k) && is_lt (R k s.stop)

-- one of the stretches holds the point
abbrev pub has : {A : Type 0} → (A → A → Ordering) → List (Stretch A) → A → Bool
has R ss k = list_any (λ s. holds R s k) ss

-- none is empty, and none begins before or where the one before it stops; the first begins past p
abbrev pub is_past : {A : Type 0} → (A → A → Ordering) → A → List (Stretch A) → Bool
is_past R p [] = true
is_past R p (s ∷ ss) = is_lt (R p s.start) && (is_lt (R s.start s.stop) && is_past R s.stop ss)

abbrev pub is_canonical : {A : Type 0} → (A → A → Ordering) → List (Stretch A) → Bool
is_canonical R [] = true
is_canonical R (s ∷ ss) = is_lt (R s.start s.stop) && is_past R s.stop ss

-- the stretch alone, if it is not empty
abbrev pub alone : {A : Type 0} → (A → A → Ordering) → Stretch A → List (Stretch A)
alone R s = if is_lt (R s.start s.stop) then s ∷ [] else []

-- the later of two places, the first of equal ones
abbrev pub later : {A : Type 0} → (A → A → Ordering) → A → A → A
later R a b = if is_lt (R a b) then b else a

-- the last stretch and the next one, which are joined unless the next one begins past the stop
abbrev pub pair : {A : Type 0} → (A → A → Ordering) → (last next : Stretch A) → List (Stretch A)
pair R c s = if is_lt (R c.stop s.start) then c ∷ alone R s
    else record { start = c.start; stop = later R c.stop s.stop } ∷ []

-- a stretch behind others, which begin no later
abbrev pub joined : {A : Type 0} → (A → A → Ordering) → List (Stretch A) → Stretch A → List (Stretch A)
joined R [] s = alone R s
joined R (c ∷ []) s = pair R c s
joined R (c ∷ d ∷ cs) s = c ∷ joined R (d ∷ cs) s
