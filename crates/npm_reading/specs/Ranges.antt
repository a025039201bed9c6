-- Statement: which range texts node-semver rejects, and the intervals of the others.
use Rattle.nodejs_semver.specs.Ranges.View.{any_version}
use Rattle.std.specs.Prelude.{◌≡◌, ◌∷◌, not, ℕ, Bool, List, [], if◌then◌else◌}
use Rattle.std.specs.List.{filter_map, list_any}
use Rattle.semver_core.specs.Cuts.{Span}
use Rattle.semver_core.specs.Lists.{is_empty}
use Rattle.semver_core.specs.Values.Spans.{<}
use Rattle.semver_core.specs.Values.Versions.{VersionValue}
use Rattle.npm_words.specs.Alternatives.{HasAlternativesIn, interval_in}
use Rattle.npm_words.specs.Table.{Comparison, counts, lowest}

-- the intervals of alternatives, in their order, of those that have one: an interval without bounds
-- alone where in some alternative no comparator counts, and `<0.0.0-0`, below which no version is,
-- where no alternative has an interval
abbrev pub intervals_in : Bool → List (List Comparison) → List (Span VersionValue)
intervals_in include alternatives =
    let list = filter_map (interval_in include) alternatives in
    if list_any (λ cs. not (list_any (counts include) cs)) alternatives then any_version
    else if is_empty list then < (lowest (0, 0, 0)) ∷ [] else list

-- a range, as its intervals, of a text: those of the alternatives of the text
pub record IsRangeIn (loose : Bool) (limit : ℕ) (include : Bool) (text : List ℕ)
    (range : List (Span VersionValue)) : Type 0 where
  pub alternatives : List (List Comparison)
  pub has : HasAlternativesIn loose limit include text alternatives
  pub is : range ≡ intervals_in include alternatives
