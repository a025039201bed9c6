-- For proofs and private contracts: two sets of points, swept from end to end.
use Rattle.std.specs.Prelude.{◌≡◌, ◌≤◌, ◌+◌, ◌&&◌, ◌||◌, Bool, true, false, not, if◌then◌else◌, List, [], ◌∷◌, ◌++◌, length}
use Rattle.std.specs.Prelude.{All, Contains, None, Option, Some}
use Rattle.std.specs.declared.cmp.Ordering.{Ordering}
use Rattle.std.specs.Ordering.{is_eq, is_lt}
use Rattle.std.specs.List.{list_all}
use Rattle.key_spans.specs.Internal.Sets.{Stretch, has, is_canonical}
use Rattle.key_spans.specs.Spans.{is_sorted}
use Rattle.key_spans.specs.declared.KeySpan.{KeySpan}
use Rattle.key_spans.specs.declared.sets.Operation.{Operation}
use Rattle.key_spans.specs.declared.sets.Operation.TheVariants as operation

-- a point is kept, by whether it is in each set
abbrev pub keeps : Operation → Bool → Bool → Bool
keeps operation.Union x y = x || y
keeps operation.Intersection x y = x && y
keeps operation.Difference x y = x && not y

-- the starts and stops of stretches, in their order
abbrev pub ends : {A : Type 0} → List (Stretch A) → List A
ends [] = []
ends (s ∷ ss) = s.start ∷ s.stop ∷ ends ss

-- those to come, where the start of the first one was passed, or not
abbrev pub ends_left : {A : Type 0} → Bool → List (Stretch A) → List A
ends_left false ss = ends ss
ends_left true [] = []
ends_left true (s ∷ ss) = s.stop ∷ ends ss

abbrev pub is_odd : {A : Type 0} → List A → Bool
is_odd [] = false
is_odd (x ∷ xs) = not (is_odd xs)

abbrev pub first_end : {A : Type 0} → List A → Option A
first_end [] = None
first_end (x ∷ xs) = Some x

-- the lesser of two places, the first of equal ones
abbrev pub least : {A : Type 0} → (A → A → Ordering) → Option A → Option A → Option A
least R None o = o
least R (Some a) None = Some a
least R (Some a) (Some b) = Some (if is_lt (R b a) then b else a)

-- without the first end, if it is that place
abbrev pub after : {A : Type 0} → (A → A → Ordering) → A → List A → List A
after R p [] = []
after R p (q ∷ qs) = if is_eq (R q p) then qs else q ∷ qs

-- the ends of a set that from a place on is to hold points, or none
abbrev pub turned : {A : Type 0} → Bool → A → List A → List A
turned true p es = if is_odd es then es else es ++ p ∷ []
turned false p es = if is_odd es then es ++ p ∷ [] else es

-- spans cut in two: if they are sorted, those of releases come first
pub record IsByKind (spans releases others : List KeySpan) : Type 0 where
  pub whole : spans ≡ releases ++ others
  pub releases_first : is_sorted spans ≡ true → list_all (λ s. s.releases_only) releases ≡ true
  pub others_behind : is_sorted spans ≡ true → list_all (λ s. not s.releases_only) others ≡ true

-- the points that are kept of two sets
pub record IsSwept {A : Type 0} (R : A → A → Ordering) (keeps : Bool → Bool → Bool) (xs ys zs : List (Stretch A)) : Type 0 where
  pub canonical : is_canonical R xs ≡ true → is_canonical R ys ≡ true → is_canonical R zs ≡ true
  pub same : is_canonical R xs ≡ true → is_canonical R ys ≡ true → (k : A) → has R zs k ≡ keeps (has R xs k) (has R ys k)
  pub ends_of_them : All (Contains (ends xs ++ ends ys)) (ends zs)
  pub few : length zs ≤ length xs + length ys
