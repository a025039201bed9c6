-- Statement. The set of versions that a range text writes, by plain comparisons of versions.
use Rattle.std.specs.Prelude.{◌≡◌, ◌⊎◌, ℕ, ◌&&◌, not, Bool, true, List, ◌∷◌}
use Rattle.std.specs.List.{Any, list_all, list_any}
use Rattle.std.specs.Ordering.{is_lt}
use Rattle.std.specs.declared.cmp.Ordering.{Ordering}
use Rattle.semver_core.specs.declared.cuts.bound.Bound.{Bound}
use Rattle.semver_core.specs.declared.cuts.bound.Bound.TheVariants.{Unbounded, Before, After}
use Rattle.semver_core.specs.Text.Characters.{IsBlank}
use Rattle.semver_core.specs.Values.Order.{precedence}
use Rattle.semver_core.specs.Values.Versions.{VersionValue}
use Rattle.semver_core.specs.Text.Bars.{IsCutAtBars}
use Rattle.nodejs_semver.specs.Text.Meaning.{HasRuns}
use Rattle.nodejs_semver.specs.Text.Runs.{Run}

-- the comparisons `>=w` and `>w` of a lower bound
abbrev pub is_above : {V : Type 0} → (V → V → Ordering) → Bound V → V → Bool
is_above R b v = elim b [ Unbounded ↦ true | Before w ↦ not (is_lt (R v w)) | After w ↦ is_lt (R w v) ]

-- the comparisons `<w` and `<=w` of an upper bound
abbrev pub is_below : {V : Type 0} → (V → V → Ordering) → Bound V → V → Bool
is_below R b v = elim b [ Unbounded ↦ true | Before w ↦ is_lt (R v w) | After w ↦ not (is_lt (R w v)) ]

-- a run writes what satisfies the comparisons of every word of it
abbrev pub run_writes : {V : Type 0} → (V → V → Ordering) → V → Run V → Bool
run_writes R v r = list_all (λ s. is_above R s.lower v && is_below R s.upper v) (r.first ∷ r.others)

-- the text writes the version: some one of its pieces is whitespace alone, or has a run that writes it
unfoldable pub Writes : ℕ → List ℕ → VersionValue → Type 0
Writes limit text v = (ps : List (List ℕ)) × IsCutAtBars text ps × Any (λ p. IsBlank p ⊎
    ((rs : List (Run VersionValue)) × HasRuns limit p rs × (list_any (run_writes precedence v) rs ≡ true))) ps
