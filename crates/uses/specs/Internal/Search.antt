-- For proofs and private contracts: what the search says of the releases that it takes.
use Rattle.std.specs.Prelude.{◌≡◌, ℕ, List, None, Option, Some, slice_index_or}
use Rattle.uses.specs.Resolver.{IsMet, IsNeeded, IsPlan, release_at}
use Rattle.uses.specs.declared.resolver.Package.{Package}
use Rattle.uses.specs.declared.resolver.Release.{Release}
use Rattle.uses.specs.declared.resolver.Requirement.{Requirement}
use Rattle.uses.specs.declared.resolver.Pick.{Pick}

abbrev pub IsUnmet : List Requirement → (ℕ → Option Release) → Requirement → Type 0
IsUnmet root f q = IsNeeded root f q × ¬ (IsMet f q)

-- g takes what f takes, and maybe more
abbrev pub Agrees : (ℕ → Option Release) → (ℕ → Option Release) → Type 0
Agrees f g = (p : ℕ) (r : Release) → f p ≡ Some r → g p ≡ Some r

-- no plan takes these releases, and maybe more
abbrev pub HasNoPlan : List Package → List Requirement → List (Option Pick) → Type 0
HasNoPlan packages root picks =
    (f : ℕ → Option Release) → IsPlan packages root f → ¬ (Agrees (release_at picks) f)

-- each requirement that a pick meets is needed, and stands at its package
abbrev pub NeedsAll : List Requirement → List (Option Pick) → Type 0
NeedsAll root picks = (p : ℕ) (pick : Pick) → slice_index_or picks p None ≡ Some pick
    → (pick.requirement.now.package ≡ p)
    × IsNeeded root (release_at picks) pick.requirement.now
