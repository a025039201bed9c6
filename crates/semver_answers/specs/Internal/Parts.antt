-- For proofs. The text of an intersection or a difference, part by part.
use Rattle.std.specs.Prelude.{◌++◌, ℕ, Bool, List, [], Option, Some, None, codes, if◌then◌else◌}
use Rattle.semver_core.specs.Cuts.{Span}
use Rattle.semver_core.specs.Values.Versions.{VersionValue}
use Rattle.semver_core.specs.Lists.{if_any}
use Rattle.semver_core.specs.Values.Order.{precedence}
use Rattle.nodejs_semver.specs.Internal.Sets.{meets_of, minus}
use Rattle.nodejs_semver.specs.Printing.Text.{range_text}
use Rattle.semver_answers.specs.declared.parts.Combination.{Combination}
use Rattle.semver_answers.specs.declared.parts.Combination.TheVariants.{Intersection, Difference}

-- the intervals that come of two ranges, and the range of them: their intersection or their difference
abbrev pub made_of : Combination → (ss us : List (Span VersionValue)) → List (Span VersionValue)
made_of Intersection = meets_of precedence
made_of Difference = minus precedence

abbrev pub combined : Combination → (ss us : List (Span VersionValue)) → Option (List (Span VersionValue))
combined asked ss us = if_any (made_of asked ss us)

-- the text of a range, if there is one, behind what stands there already, if anything does
abbrev pub text_behind : Bool → Option (List (Span VersionValue)) → List ℕ
text_behind any None = []
text_behind any (Some ss) = (if any then codes "||" else []) ++ range_text ss
