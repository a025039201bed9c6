-- For proofs: equality of ranges is an equivalence, and equal ranges hash alike.
use Rattle.std.specs.Prelude.{◌≡◌, pos, true, ◌++◌, List, refl}
use Rattle.std.proofs.Common.{ap}
use Rattle.std.specs.Cmp.{IsEquivalence, eq_by_cmp_equiv, and_equiv, on_equiv}
use Rattle.std.specs.Cmp.Lexicographic.{lists_equiv}
use Rattle.std.specs.Hash as fed
use Rattle.std.specs.Hash.{Alike, items_Alike, and-Alike, on_Alike}
use Rattle.nodejs_semver.specs.Internal.Sets.{span_eq}
use Rattle.semver_core.specs.Cuts.{Span, bound_eq}
use Rattle.semver_core.specs.Internal.OrderLaws.{precedence_total, version_alike}
use Rattle.semver_core.specs.Values.Versions.{VersionValue}
use Rattle.semver_core.specs.declared.cuts.bound.Bound.{Bound}
use Rattle.semver_core.specs.declared.cuts.bound.Bound.TheVariants.{Unbounded, Before, After}
use Rattle.nodejs_semver.specs.Internal.Hashes.{bound_writes, span_writes, range_writes}
use Rattle.nodejs_semver.specs.Ranges.Equality.{range_eq}
use Rattle.semver_core.specs.Values.Order.{version_eq}

version_equiv : IsEquivalence version_eq
version_equiv = eq_by_cmp_equiv precedence_total

pub bound_refl : (b : Bound VersionValue) → bound_eq version_eq b b ≡ true
bound_refl Unbounded = refl
bound_refl (Before v) = version_equiv.refl v
bound_refl (After v) = version_equiv.refl v

bound_symm : (b c : Bound VersionValue) → bound_eq version_eq b c ≡ bound_eq version_eq c b
bound_symm Unbounded Unbounded = refl
bound_symm Unbounded (Before w) = refl
bound_symm Unbounded (After w) = refl
bound_symm (Before v) Unbounded = refl
bound_symm (Before v) (Before w) = version_equiv.symm v w
bound_symm (Before v) (After w) = refl
bound_symm (After v) Unbounded = refl
bound_symm (After v) (Before w) = refl
bound_symm (After v) (After w) = version_equiv.symm v w

bound_congr : (b c d : Bound VersionValue) → bound_eq version_eq b c ≡ true → bound_eq version_eq b d ≡ bound_eq version_eq c d
bound_congr Unbounded Unbounded d h = refl
bound_congr Unbounded (Before w) d h = cc
bound_congr Unbounded (After w) d h = cc
bound_congr (Before v) Unbounded d h = cc
bound_congr (Before v) (Before w) Unbounded h = refl
bound_congr (Before v) (Before w) (Before x) h = version_equiv.congr v w x h
bound_congr (Before v) (Before w) (After x) h = refl
bound_congr (Before v) (After w) d h = cc
bound_congr (After v) Unbounded d h = cc
bound_congr (After v) (Before w) d h = cc
bound_congr (After v) (After w) Unbounded h = refl
bound_congr (After v) (After w) (Before x) h = refl
bound_congr (After v) (After w) (After x) h = version_equiv.congr v w x h

bound_equiv : IsEquivalence (bound_eq version_eq)
bound_equiv = record { refl = bound_refl; symm = bound_symm; congr = bound_congr }

pub range_equiv : IsEquivalence range_eq
range_equiv = lists_equiv (and_equiv (on_equiv (λ (s : Span VersionValue). s.lower) bound_equiv) (on_equiv (λ (s : Span VersionValue). s.upper) bound_equiv))

bound_fed : (b c : Bound VersionValue) → bound_eq version_eq b c ≡ true → bound_writes b ≡ bound_writes c
bound_fed Unbounded Unbounded h = refl
bound_fed Unbounded (Before w) h = cc
bound_fed Unbounded (After w) h = cc
bound_fed (Before v) Unbounded h = cc
bound_fed (Before v) (Before w) h = ap (λ u. fed.isize (pos 1) ++ u) (version_alike v w h)
bound_fed (Before v) (After w) h = cc
bound_fed (After v) Unbounded h = cc
bound_fed (After v) (Before w) h = cc
bound_fed (After v) (After w) h = ap (λ u. fed.isize (pos 2) ++ u) (version_alike v w h)

bound_alike : Alike (bound_eq version_eq) bound_writes
bound_alike = record { fed = bound_fed }

span_alike : Alike span_eq span_writes
span_alike = and-Alike (on_Alike (λ (s : Span VersionValue). s.lower) bound_alike) (on_Alike (λ (s : Span VersionValue). s.upper) bound_alike)

pub range_alike : (a b : List (Span VersionValue)) → range_eq a b ≡ true → range_writes a ≡ range_writes b
range_alike a b h = (items_Alike span_alike).fed a b h
