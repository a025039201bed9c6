-- Statement: how ranges print, as UTF-8 bytes.
use Rattle.std.specs.Prelude.{ℕ, List, [], ◌++◌, codes, if◌then◌else◌}
use Rattle.std.specs.List.{join_by}
use Rattle.semver_core.specs.Cuts.{Span}
use Rattle.semver_core.specs.Values.Order.{version_eq}
use Rattle.semver_core.specs.Printing.Text.{version_text}
use Rattle.semver_core.specs.Values.Versions.{VersionValue}
use Rattle.semver_core.specs.declared.cuts.bound.Bound.{Bound}
use Rattle.semver_core.specs.declared.cuts.bound.Bound.TheVariants.{Unbounded, Before, After}

-- `>=v` and `>v`; nothing without a bound
abbrev pub lower_text : Bound VersionValue → List ℕ
lower_text b =
    elim b [ Before v ↦ codes ">=" ++ version_text v | After v ↦ codes ">" ++ version_text v | _ ↦ [] ]

-- `<v` and `<=v`; nothing without a bound
abbrev pub upper_text : Bound VersionValue → List ℕ
upper_text b =
    elim b [ Before v ↦ codes "<" ++ version_text v | After v ↦ codes "<=" ++ version_text v | _ ↦ [] ]

-- `*` without bounds, one bound, `v` for `>=v` and `<=w` where v and w tie, and else two bounds with a space
-- between them
abbrev pub bounds_text : Bound VersionValue → Bound VersionValue → List ℕ
bounds_text Unbounded Unbounded = codes "*"
bounds_text Unbounded upper = upper_text upper
bounds_text lower Unbounded = lower_text lower
bounds_text (Before v) (After w) =
    if version_eq v w then version_text v else lower_text (Before v) ++ (codes " " ++ upper_text (After w))
bounds_text lower upper = lower_text lower ++ (codes " " ++ upper_text upper)

-- intervals joined by `||`
abbrev pub range_text : List (Span VersionValue) → List ℕ
range_text list = join_by (λ s. bounds_text s.lower s.upper) (codes "||") list
