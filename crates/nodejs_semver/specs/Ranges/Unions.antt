-- Statement: the union of two ranges.
use Rattle.std.specs.Prelude.{Bool, ◌&&◌, not, List, ◌++◌, filter}
use Rattle.std.specs.List.{list_any}
use Rattle.semver_core.specs.Cuts.{Span, covers, has_bound}
use Rattle.semver_core.specs.Values.Order.{precedence}
use Rattle.semver_core.specs.Values.Versions.{VersionValue}
use Rattle.semver_core.specs.Values.Gate.{lets_in}

-- t accepts nothing that s does not accept: s lets in the versions of t's bounds, and so every pre-release
-- that t lets in
abbrev pub says_all : Span VersionValue → Span VersionValue → Bool
says_all s t = covers precedence s t && not (has_bound (λ w. not (lets_in s w)) t)

-- the spans of the first list, and then those of the second of which no span of the first says all
abbrev pub union : List (Span VersionValue) → List (Span VersionValue) → List (Span VersionValue)
union ss ts = ss ++ filter (λ t. not (list_any (λ s. says_all s t) ss)) ts
