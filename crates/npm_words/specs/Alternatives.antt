-- Statement: which range texts node-semver rejects, which versions the others accept, and which
-- interval an alternative has.
use Rattle.std.specs.Prelude.{◌≡◌, ◌==◌, ◌&&◌, ◌||◌, not, nat_le, ℕ, Bool, true, false, List}
use Rattle.std.specs.Prelude.{[], ◌∷◌, Option, if◌then◌else◌, length, map}
use Rattle.std.specs.List.{filter, list_all, list_any}
use Rattle.std.specs.Ordering.{is_eq, is_ge, is_gt, is_le, is_lt}
use Rattle.semver_core.specs.Cuts.{Span, greater_lower, interval, lesser_upper}
use Rattle.semver_core.specs.Lists.{is_empty}
use Rattle.semver_core.specs.Values.Order.{precedence}
use Rattle.semver_core.specs.Values.Spans.{>=, >, <, <=}
use Rattle.semver_core.specs.Values.Versions.{VersionValue, is_release}
use Rattle.semver_core.specs.declared.cuts.bound.Bound.TheVariants.{Unbounded, Before, After}
use Rattle.semver_core.specs.declared.TheConstants.{MAX_LENGTH}
use Rattle.npm_words.specs.RangeText.{AreAlternatives}
use Rattle.npm_words.specs.Table.{Comparison, counts}
use Rattle.semver_core.specs.Text.Bars.{IsCutAtBars}
use Rattle.semver_core.specs.Text.Comparators.{above, at_least, at_most, below, equal}

-- the numbers of a comparator are up to the limit, and its version has at most 256 characters as a
-- text
abbrev pub is_valid : ℕ → Comparison → Bool
is_valid max c = let v = c.version
    in nat_le v.major max && nat_le v.minor max && nat_le v.patch max
    && nat_le (length c.text) MAX_LENGTH

-- the text has these alternatives, one or more, each a list of comparators. A text that has none is
-- rejected. `loose` says whether it is read by node-semver's option of this name.
pub record HasAlternativesIn (loose : Bool) (limit : ℕ) (include : Bool) (text : List ℕ)
    (alternatives : List (List Comparison)) : Type 0 where
  pub parts : List (List ℕ)
  pub divided : IsCutAtBars text parts
  pub each : AreAlternatives loose include parts alternatives
  pub some : is_empty alternatives ≡ false
  pub valid : list_all (list_all (is_valid limit)) alternatives ≡ true

-- the version satisfies the comparator
abbrev pub satisfies : VersionValue → Comparison → Bool
satisfies v c = let r = precedence v c.version
    in elim c.sign [
      | below ↦ is_lt r
      | at_most ↦ is_le r
      | equal ↦ is_eq r
      | at_least ↦ is_ge r
      | above ↦ is_gt r
    ]

-- the comparator names a pre-release of the same three numbers
abbrev pub names : VersionValue → Comparison → Bool
names v c = let w = c.version
    in not (is_release w) && (w.major == v.major && (w.minor == v.minor && w.patch == v.patch))

-- all comparators of the alternative are satisfied, and the version is a release, or pre-releases
-- are included, or one comparator of this alternative names a pre-release of the same three numbers
abbrev pub meets : Bool → VersionValue → List Comparison → Bool
meets include v cs = list_all (satisfies v) cs
    && (is_release v || (include || list_any (names v) cs))

-- the alternatives accept the version: some one does. Without pre-releases included, an alternative
-- in which no comparator counts accepts each release, and leaves the others out.
abbrev pub accepts : Bool → List (List Comparison) → VersionValue → Bool
accepts include alternatives v =
    if not include && list_any (λ cs. not (list_any (counts include) cs)) alternatives
    then is_release v
    else list_any (λ cs. meets include v (filter (counts include) cs)) alternatives

-- the interval of the versions that satisfy the comparator
abbrev pub satisfying : Comparison → Span VersionValue
satisfying c = let v = c.version in elim c.sign [
  | below ↦ < v
  | at_most ↦ <= v
  | equal ↦ record { lower = Before v; upper = After v }
  | at_least ↦ >= v
  | above ↦ > v
]

-- what intervals have in common: from the greatest lower bound, the last of equal ones, to the
-- least upper one, the first of equal ones
abbrev pub common : List (Span VersionValue) → Span VersionValue
common [] = record { lower = Unbounded; upper = Unbounded }
common (s ∷ ss) =
    let lower = greater_lower precedence s.lower (common ss).lower in
    let upper = lesser_upper precedence s.upper (common ss).upper in
    record { lower = lower; upper = upper }

-- what the comparators of the alternative that count have in common, if its cuts meet
abbrev pub interval_in : Bool → List Comparison → Option (Span VersionValue)
interval_in include cs = interval precedence (common (map satisfying (filter (counts include) cs)))
