-- Statement: releases of packages that meet every requirement, and why there are none.
use Rattle.std.specs.Prelude.{◌≡◌, ◌<◌, ℕ, true, false, List, [], length, take, replicate, Option, None, Some}
use Rattle.std.specs.Prelude.{All, Contains, slice_get}
use Rattle.std.specs.Prelude.{slice_index_or, slice_set}
use Rattle.std.specs.Option.{option_map}
use Rattle.nodejs_semver.specs.Ranges.Gate.{accepts}
use Rattle.semver_core.specs.declared.error.Failure.{Failure}
use Rattle.semver_core.specs.declared.error.Failure.TheVariants.{Refused, Memory}
use Rattle.uses.specs.declared.resolver.Package.{Package}
use Rattle.uses.specs.declared.resolver.Release.{Release}
use Rattle.uses.specs.declared.resolver.Requirement.{Requirement}
use Rattle.uses.specs.declared.resolver.Pick.{Pick}
use Rattle.uses.specs.declared.resolver.Conflict.{Conflict}
use Rattle.uses.specs.declared.resolver.Conflict.TheVariants.{Unmatched, Clash}

-- what was published of a package
abbrev pub releases_of : List Package → ℕ → List Release
releases_of packages p = elim (slice_get packages p) [ Some one ↦ one.releases.items | None ↦ [] ]

-- f takes, of each package, none or one of its releases
abbrev pub IsChoice : List Package → (ℕ → Option Release) → Type 0
IsChoice packages f = (p : ℕ) (r : Release) → f p ≡ Some r → Contains (releases_of packages p) r

-- the requirement is one of the root, or of a release that f takes for one that is needed
pub data IsNeeded (root : List Requirement) (f : ℕ → Option Release) : Requirement → Type 0 where
  of_root : (q : Requirement) → Contains root q → IsNeeded root f q
  of_release : (q s : Requirement) (r : Release) → IsNeeded root f s → f s.package ≡ Some r
      → Contains r.requirements.items q → IsNeeded root f q

-- f takes a release that the range of the requirement accepts
abbrev pub IsMet : (ℕ → Option Release) → Requirement → Type 0
IsMet f q = (r : Release) × (f q.package ≡ Some r) × (accepts q.range r.version false ≡ true)

-- f takes releases that meet the requirements of the root and their own
abbrev pub MeetsAll : List Requirement → (ℕ → Option Release) → Type 0
MeetsAll root f = (q : Requirement) → IsNeeded root f q → IsMet f q

-- a plan: a choice that meets all requirements
abbrev pub IsPlan : List Package → List Requirement → (ℕ → Option Release) → Type 0
IsPlan packages root f = IsChoice packages f × MeetsAll root f

-- f takes releases on the way to a plan: what it takes of a package is one of its releases, and
-- meets a needed requirement on it
abbrev pub IsBegun : List Package → List Requirement → (ℕ → Option Release) → Type 0
IsBegun packages root f = (p : ℕ) (r : Release) → f p ≡ Some r → Contains (releases_of packages p) r
    × ((q : Requirement) × (q.package ≡ p) × IsNeeded root f q × IsMet f q)

-- on the way to a plan a package is needed of which no release has a version in the range; or it is
-- needed twice, and what is taken of it meets the first requirement and not the second
abbrev pub IsConflict : List Package → List Requirement → Conflict → Type 0
IsConflict ps root (Unmatched q) = (f : ℕ → Option Release) × IsBegun ps root f × IsNeeded root f q.now
    × All (λ r. accepts q.now.range r.version false ≡ false) (releases_of ps q.now.package)
IsConflict ps root (Clash q s) = (f : ℕ → Option Release) × IsBegun ps root f × IsNeeded root f q.now
    × IsNeeded root f s.now × (q.now.package ≡ s.now.package) × IsMet f q.now × ¬ (IsMet f s.now)

-- there is no plan, and this is a conflict; or memory is missing for the places of the packages
abbrev pub IsFailure : List Package → List Requirement → Failure Conflict → Type 0
IsFailure ps root (Refused c) = ((f : ℕ → Option Release) → ¬ (IsPlan ps root f)) × IsConflict ps root c
IsFailure ps root (Memory error) = 0 < length ps

-- the release that a list of picks takes of each package
abbrev pub release_at : List (Option Pick) → ℕ → Option Release
release_at picks p = option_map (λ pick. pick.release.now) (slice_index_or picks p None)

-- a place for each package; what is taken is one of its releases, for a needed requirement that it
-- meets
pub record IsPicked (ps : List Package) (root : List Requirement) (picks : List (Option Pick)) : Type 0 where
  pub as_many : length picks ≡ length ps
  pub choice : IsChoice ps (release_at picks)
  pub needed : (p : ℕ) (k : Pick) → slice_index_or picks p None ≡ Some k → (k.requirement.now.package ≡ p)
      × IsNeeded root (release_at picks) k.requirement.now × IsMet (release_at picks) k.requirement.now

-- no plan that takes what the picks take, and maybe more, takes this release of the package
abbrev pub IsHopeless : List Package → List Requirement → List (Option Pick) → ℕ → Release → Type 0
IsHopeless packages root picks p r = (f : ℕ → Option Release) → IsPlan packages root f
    → ((n : ℕ) (s : Release) → release_at picks n ≡ Some s → f n ≡ Some s) → ¬ (f p ≡ Some r)

-- releases were picked one after another, each for a needed requirement on its package, and the
-- releases that stand before it there are hopeless over the picks so far
pub data ArePicked (packages : List Package) (root : List Requirement) : List (Option Pick) → Type 0 where
  none_yet : (count : ℕ) → ArePicked packages root (replicate count None)
  one_more : (picks : List (Option Pick)) (p i : ℕ) (pick : Pick) → ArePicked packages root picks
      → IsNeeded root (release_at picks) pick.requirement.now → pick.requirement.now.package ≡ p
      → slice_get (releases_of packages p) i ≡ Some pick.release.now
      → All (IsHopeless packages root picks p) (take i (releases_of packages p))
      → ArePicked packages root (slice_set picks p (Some pick))
