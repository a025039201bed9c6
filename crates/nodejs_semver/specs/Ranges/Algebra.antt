-- Statement: the lists of intervals that the set operations return, in order and with their builds.
use Rattle.std.specs.Prelude.{Bool, List, ◌++◌, Option}
use Rattle.std.specs.List.{list_any, flat_map, fold}
use Rattle.std.specs.Option.{option_to_list}
use Rattle.std.specs.declared.cmp.Ordering.{Ordering}
use Rattle.semver_core.specs.Cuts.{Span, covers, holds, meet, remainders}
use Rattle.semver_core.specs.Lists.{if_any}
use Rattle.semver_core.specs.Values.Order.{precedence}
use Rattle.semver_core.specs.Values.Versions.{VersionValue}

-- a list of spans holds a point where one of them does
abbrev pub list_holds : {V : Type 0} → (V → V → Ordering) → List (Span V) → V → Bool
list_holds R ss v = list_any (λ s. holds R s v) ss

-- the intersections of all pairs, the first list outside; none where no pair meets
abbrev pub intersection : (ss ts : List (Span VersionValue)) → Option (List (Span VersionValue))
intersection ss ts = if_any (flat_map (λ s. flat_map (λ t. option_to_list (meet precedence s t)) ts) ss)

-- what is left of the first list, the spans of the second taken away one after another: the lower and the
-- upper remainder of each; none if nothing is left
abbrev pub difference : (ss ts : List (Span VersionValue)) → Option (List (Span VersionValue))
difference ss ts = if_any (fold (λ left t. flat_map (λ s. option_to_list (remainders precedence s t).0
    ++ option_to_list (remainders precedence s t).1) left) ss ts)

-- some one span of the first list covers some one span of the second
abbrev pub covers_one : List (Span VersionValue) → List (Span VersionValue) → Bool
covers_one ss ts = list_any (λ s. list_any (λ t. covers precedence s t) ts) ss
