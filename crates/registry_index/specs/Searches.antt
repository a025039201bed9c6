-- Statement: what is found of a package in the spans of a range.
use Rattle.std.specs.Prelude.{⊤, ◌≡◌, ◌∷◌, ◌++◌, [], List, ℕ, ℤ, None, Option, Some, map, option_map, pos}
use Rattle.std.specs.Prelude.{slice_get, string_bytes, take}
use Rattle.std.specs.Cmp.Lexicographic.{slice_cmp}
use Rattle.std.specs.List.Sorted.{IsPermutation, IsSorted}
use Rattle.std.specs.Ordering.{nat_cmp, ordering_then}
use Rattle.std.specs.declared.cmp.Ordering.{Ordering}
use Rattle.key_spans.specs.declared.KeySpan.{KeySpan}
use Rattle.sqlite.specs.State.{Shown, State}
use Rattle.sqlite_value.specs.Order.{Row, column}
use Rattle.sqlite_value.specs.declared.value.Value.TheVariants.{Blob, Int, Text}
use Rattle.registry_index.specs.Bound.{asked}
use Rattle.registry_index.specs.Queries.{all_query, best_query, newer_query, newest_query}
use Rattle.registry_index.specs.declared.request.Answer.{Answer}
use Rattle.registry_index.specs.declared.request.Answer.TheVariants as answer
use Rattle.registry_index.specs.declared.request.Request.{Request}
use Rattle.registry_index.specs.declared.request.Request.TheVariants as request
use Rattle.registry_index.specs.declared.search.Found.{Found}

-- a row tells a version: its key, its text and what belongs to it
abbrev pub row_of : Found → Row
row_of f = Blob f.key.items ∷ Text (string_bytes f.version) ∷ Text (string_bytes f.rest) ∷ []

-- each of the spans was asked, one after the other, and the rows of all answers tell these versions. A
-- connection shows a state of the database
pub data AreTold {C : Type 0} (shows : C → State) (query name : List ℕ) (from : C)
    : List KeySpan → C → List Found → Type 0 where
  none : AreTold shows query name from [] from []
  next : (spans : List KeySpan) (span : KeySpan) (before after : C) (found all : List Found) (rows : List Row)
      → AreTold shows query name from spans before found
      → Shown query (asked name span) (shows before) (shows after) rows
      → map row_of all ≡ map row_of found ++ map (take 3) rows
      → AreTold shows query name from (spans ++ span ∷ []) after all

-- in the order of the keys; of one key in the order of the texts, and then of what belongs to them
abbrev pub found_cmp : Found → Found → Ordering
found_cmp f g = ordering_then (slice_cmp nat_cmp f.key.items g.key.items)
    (ordering_then (slice_cmp nat_cmp (string_bytes f.version) (string_bytes g.version))
    (slice_cmp nat_cmp (string_bytes f.rest) (string_bytes g.rest)))

-- all that is told of the spans, in order
pub record AreFound {C : Type 0} (shows : C → State) (query name : List ℕ) (spans : List KeySpan)
    (before after : C) (found : List Found) : Type 0 where
  pub told : List Found
  pub asked : AreTold shows query name before spans after told
  pub all : IsPermutation told found
  pub sorted : IsSorted found_cmp found

-- the number in the first row that the database shows, or 0 if it shows none
abbrev pub counted : List Row → ℤ → Type 0
counted [] n = n ≡ pos 0
counted (row ∷ more) n = column row 0 ≡ Int n

abbrev pub IsCount : (query : List ℕ) → Row → State → State → ℤ → Type 0
IsCount query bound before after n = (rows : List Row) × Shown query bound before after rows × counted rows n

-- what the first row tells, or nothing if there is none
abbrev pub first_told : List Row → Option Found → Type 0
first_told rows found = option_map row_of found ≡ option_map (take 3) (slice_get rows 0)

abbrev pub IsFirst : (query : List ℕ) → Row → State → State → Option Found → Type 0
IsFirst query bound before after found =
    (rows : List Row) × Shown query bound before after rows × first_told rows found

-- the greatest is the last, if there is one
abbrev pub IsLast : List Found → Option Found → Type 0
IsLast all (Some best) = (less : List Found) × (all ≡ less ++ best ∷ [])
IsLast all None = all ≡ []

-- what is answered to a request
abbrev pub IsAnswer : {C : Type 0} → (C → State) → Request → C → C → Answer → Type 0
IsAnswer shows (request.Best name spans) before after (answer.Best best) =
    (all : List Found) × AreFound shows best_query name.now spans.now before after all × IsLast all best
IsAnswer shows (request.All name spans) before after (answer.All all) =
    AreFound shows all_query name.now spans.now before after all.items
IsAnswer {C} shows (request.Behind name above) before after (answer.Behind n newest) = (between : C)
    × IsCount newer_query (Text name.now ∷ Blob above.now ∷ []) (shows before) (shows between) n
    × IsFirst newest_query (Text name.now ∷ []) (shows between) (shows after) newest
-- what a load changes is not said here
IsAnswer shows (request.Load lines) before after answer.Loaded = ⊤
IsAnswer shows _ before after _ = ⊥
