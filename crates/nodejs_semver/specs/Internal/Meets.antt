-- For proofs and private contracts. What the reader of a part computes: one interval after another.
use Rattle.std.specs.Prelude.{ℕ, List, [], ◌∷◌, Option, Some, None}
use Rattle.std.specs.declared.cmp.Ordering.{Ordering}
use Rattle.semver_core.specs.Cuts.{Span, meet}
use Rattle.semver_core.specs.Values.Versions.{VersionValue}
use Rattle.semver_core.specs.Internal.Spaces.{drop_spaces}
use Rattle.nodejs_semver.specs.Text.Table.{table}
use Rattle.nodejs_semver.specs.Internal.Words.{word_at}

-- the running interval meets each next one, while that leaves an interval
unfoldable pub joined_from : {V : Type 0} → (V → V → Ordering) → Span V → List (Span V) → List (Span V)
joined_from R s [] = s ∷ []
joined_from R s (t ∷ rest) = elim (meet R s t) [ Some m ↦ joined_from R m rest | None ↦ s ∷ joined_from R t rest ]

-- the same where there may be none yet
abbrev pub joined : {V : Type 0} → (V → V → Ordering) → Option (Span V) → List (Span V) → List (Span V)
joined R None [] = []
joined R None (t ∷ rest) = joined_from R t rest
joined R (Some s) spans = joined_from R s spans

-- the bounds of the word at the front, where it has some, and the text behind that word and its whitespace
abbrev pub next_at : ℕ → List ℕ → Option (Span VersionValue) × List ℕ
next_at limit text = (table limit (word_at limit text).0, drop_spaces (word_at limit text).1)
