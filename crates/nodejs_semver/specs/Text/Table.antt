-- Statement. The word table, a line for each row; the first row that fits a word decides. M, m and p are the
-- numbers of the word's partial, where `None` is a component that is absent or a wildcard and `_` is any. V
-- is the version of the partial, with 0 for such components, and MAX the greatest number that a text may
-- write.
use Rattle.std.specs.Prelude.{ℕ, zero, ◌+◌, false, [], Option, Some, None, unwrap_or}
use Rattle.semver_core.specs.Cuts.{Span, interval}
use Rattle.semver_core.specs.Values.Order.{precedence}
use Rattle.semver_core.specs.Values.Versions.{VersionValue, release_value}
use Rattle.nodejs_semver.specs.Text.PartialText.{Partial}
use Rattle.semver_core.specs.Text.Comparators.{at_least, above, equal, at_most, below}
use Rattle.nodejs_semver.specs.Text.WordText.{Word, hyphen, plain, compare, tilde, caret, malformed}
pub use Rattle.semver_core.specs.Values.Versions.{lowest}
use Rattle.semver_core.specs.Values.Spans.{<, >, <=, >=}

infix 5 ◌&◌
abbrev pub ◌&◌ : Span VersionValue → Span VersionValue → Span VersionValue
s & t = record { lower = s.lower; upper = t.upper }

abbrev pub without_build : VersionValue → VersionValue
without_build v = record v { build = [] }

-- the version of a partial, with 0 for what is absent or a wildcard
abbrev pub version_of : Partial → VersionValue
version_of p = record (release_value (unwrap_or p.major 0) (unwrap_or p.minor 0) (unwrap_or p.patch 0))
    { pre_release = p.pre_release; build = p.build }

-- from the version of a partial on, if that is an interval
abbrev pub from_partial : Partial → Span VersionValue → Option (Span VersionValue)
from_partial q s = interval precedence (>= (version_of q) & s)

-- A hyphen word has the numbers and the version of its second partial here. It alone may have bounds that are
-- no interval.
abbrev pub row : ℕ → Word → Option ℕ → Option ℕ → Option ℕ → VersionValue → Option (Span VersionValue)
row MAX (compare at_least _) _ _ _ V = Some (>= V)
row MAX (compare above _) (Some M) (Some m) None V = Some (>= (release_value M (m + 1) 0))
row MAX (compare above _) (Some M) None None V = Some (>= (release_value (M + 1) 0 0))
row MAX (compare above _) _ _ _ V = Some (> V)
row MAX (compare below _) (Some M) (Some m) None V = Some (< (lowest M m 0))
row MAX (compare below _) _ _ _ V = Some (< V)
row MAX (compare at_most _) _ None None V = Some (<= (release_value V.major MAX MAX))
row MAX (compare at_most _) _ (Some m) None V = Some (<= (release_value V.major m MAX))
row MAX (compare at_most _) _ _ _ V = Some (<= V)
row MAX (compare equal _) (Some M) (Some m) (Some p) V = Some (>= (without_build V) & <= (without_build V))
row MAX (compare equal _) (Some M) (Some m) None V = Some (>= (release_value M m 0) & < (lowest M (m + 1) 0))
row MAX (compare equal _) (Some M) None _ V = Some (>= (release_value M 0 0) & < (lowest (M + 1) 0 0))
row MAX (plain _) None _ _ V = Some (>= (release_value 0 0 0))
row MAX (plain _) (Some M) None _ V = Some (>= (release_value M 0 0) & < (lowest (M + 1) 0 0))
row MAX (plain _) (Some M) (Some m) None V = Some (>= (release_value M m 0) & < (lowest M (m + 1) 0))
row MAX (plain _) (Some M) (Some m) (Some p) V = Some (>= V & <= V)
row MAX (tilde _ _) (Some M) None _ V = Some (>= (release_value M 0 0) & < (lowest (M + 1) 0 0))
row MAX (tilde false _) (Some M) (Some m) None V = Some (>= (release_value M m 0) & < (lowest M (m + 1) 0))
row MAX (tilde _ _) (Some M) (Some m) _ V = Some (>= (without_build V) & < (lowest M (m + 1) 0))
row MAX (caret _) (Some zero) None None V = Some (< (lowest 1 0 0))
row MAX (caret _) (Some zero) (Some m) None V = Some (>= (release_value 0 m 0) & < (lowest 0 (m + 1) 0))
row MAX (caret _) (Some M) None None V = Some (>= (release_value M 0 0) & < (lowest (M + 1) 0 0))
row MAX (caret _) (Some M) (Some m) None V = Some (>= (release_value M m 0) & < (lowest (M + 1) 0 0))
row MAX (caret _) (Some zero) (Some zero) (Some p) V = Some (>= (without_build V) & < (lowest 0 0 (p + 1)))
row MAX (caret _) (Some zero) (Some m) (Some p) V = Some (>= (without_build V) & < (lowest 0 (m + 1) 0))
row MAX (caret _) (Some M) (Some m) (Some p) V = Some (>= (without_build V) & < (lowest (M + 1) 0 0))
row MAX (hyphen q _) None None None V = from_partial q (< (lowest 0 0 0))
row MAX (hyphen q _) (Some M) None None V = from_partial q (< (lowest (M + 1) 0 0))
row MAX (hyphen q _) (Some M) (Some m) None V = from_partial q (< (lowest M (m + 1) 0))
row MAX (hyphen q _) _ _ _ V = from_partial q (<= V)
row MAX _ _ _ _ V = None

-- the interval that the table gives a word
unfoldable pub table : ℕ → Word → Option (Span VersionValue)
table limit (hyphen p q) = row limit (hyphen p q) q.major q.minor q.patch (version_of q)
table limit (plain p) = row limit (plain p) p.major p.minor p.patch (version_of p)
table limit (compare c p) = row limit (compare c p) p.major p.minor p.patch (version_of p)
table limit (tilde greater p) = row limit (tilde greater p) p.major p.minor p.patch (version_of p)
table limit (caret p) = row limit (caret p) p.major p.minor p.patch (version_of p)
table limit malformed = None
