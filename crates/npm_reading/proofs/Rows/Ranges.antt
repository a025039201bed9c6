-- Worked rows: the intervals of alternatives, and the range of a text.
use Rattle.nodejs_semver.proofs.Common.{After, Before, List, VersionValue, [], codes, false, refl, release_value, true, ℕ, ◌∷◌, ◌≡◌}
use Rattle.nodejs_semver.specs.Ranges.View.{any_version}
use Rattle.{npm_reading.specs.Ranges.intervals_in, npm_words.proofs.Common.{Comparison, above, at_least, at_most, below, equal, from}}
use Rattle.{npm_words.{proofs.Common.under, specs.Table.{lowest, unbuilt}}, semver_core.specs.Text.{Comparators.Comparator, Identifiers.AlphaNumeric}}
use Rattle.std.specs.Fmt.{digits}
use Rattle.semver_core.specs.Values.Spans as Spans

abbrev bare : ℕ → VersionValue
bare M = release_value M 0 0

abbrev built : List ℕ → VersionValue
built id = record (bare 1) { build = AlphaNumeric id ∷ [] }

abbrev by : Comparator → VersionValue → Comparison
by = unbuilt

-- `1 || *`, of which `*` leaves the other out
row-star : intervals_in false ((from false (1, 0, 0) ∷ (under (2, 0, 0) ∷ [])) ∷ ([] ∷ [])) ≡ any_version
unfolding digits
row-star = refl

-- `2 || 1 || 2`: each is kept, in the order of the text
row-order : intervals_in true ((from true (2, 0, 0) ∷ (under (3, 0, 0) ∷ []))
    ∷ ((from true (1, 0, 0) ∷ (under (2, 0, 0) ∷ [])) ∷ ((from true (2, 0, 0) ∷ (under (3, 0, 0) ∷ [])) ∷ [])))
    ≡ record { lower = Before (lowest (2, 0, 0)); upper = Before (lowest (3, 0, 0)) }
    ∷ (record { lower = Before (lowest (1, 0, 0)); upper = Before (lowest (2, 0, 0)) }
    ∷ (record { lower = Before (lowest (2, 0, 0)); upper = Before (lowest (3, 0, 0)) } ∷ []))
row-order = refl

-- `>2.0.0 <1.0.0 || =1.0.0`, whose first alternative has no interval
row-part : intervals_in true ((by above (bare 2) ∷ (by below (bare 1) ∷ [])) ∷ ((by equal (bare 1) ∷ []) ∷ []))
    ≡ record { lower = Before (bare 1); upper = After (bare 1) } ∷ []
row-part = refl

-- `>2.0.0 <1.0.0` alone is `<0.0.0-0`
row-nothing : intervals_in true ((by above (bare 2) ∷ (by below (bare 1) ∷ [])) ∷ []) ≡ Spans.< (lowest (0, 0, 0)) ∷ []
row-nothing = refl

-- of equal bounds, `>=1.0.0+a >=1.0.0+b <=1.0.0+a <=1.0.0+b`, the last lower one is kept and the first upper one
row-builds : intervals_in true ((by at_least (built (codes "a")) ∷ (by at_least (built (codes "b"))
    ∷ (by at_most (built (codes "a")) ∷ (by at_most (built (codes "b")) ∷ [])))) ∷ [])
    ≡ record { lower = Before (built (codes "b")); upper = After (built (codes "a")) } ∷ []
row-builds = refl

-- `>=0.0.0` does not count unless pre-releases are included
row-uncounted : intervals_in false ((by at_least (bare 0) ∷ []) ∷ []) ≡ any_version
unfolding digits
row-uncounted = refl

row-counted : intervals_in true ((by at_least (bare 0) ∷ []) ∷ []) ≡ Spans.>= (bare 0) ∷ []
row-counted = refl
