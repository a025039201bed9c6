-- Statement. A partial: a version whose components may be absent or wildcards, and what it is as a text, in
-- the words of the version grammar. The greatest number that a text may write is the parameter `limit`.
use Rattle.std.specs.Prelude.{◌≡◌, ◌⊎◌, ◌==◌, ◌&&◌, ◌||◌, ℕ, true, false, List, [], ◌∷◌, ◌++◌, Option, Some}
use Rattle.std.specs.Prelude.{None}
use Rattle.std.specs.Prelude.{codes}
use Rattle.std.specs.Char.{is_ascii_digit}
use Rattle.semver_core.specs.Text.Characters.{begins, ends, IsBlank}
use Rattle.semver_core.specs.Text.VersionText.{IsPreRelease, IsBuild}
use Rattle.semver_core.specs.Text.Identifiers.{Id}
use Rattle.semver_core.specs.Text.Numbers.{IsNumber}

-- a component is None where it is absent or a wildcard
pub record Partial : Type 0 where
  pub major : Option ℕ
  pub minor : Option ℕ
  pub patch : Option ℕ
  pub pre_release : List Id
  pub build : List Id

-- a component: a wildcard, which is `x`, `X` or `*`, or a number
pub data IsComponent (limit : ℕ) : List ℕ → Option ℕ → Type 0 where
  wildcard : (b : ℕ) → (b == 120 || b == 88 || b == 42) ≡ true → IsComponent limit (b ∷ []) None
  number : (digits : List ℕ) (n : ℕ) → IsNumber limit digits n → IsComponent limit digits (Some n)

-- one to three components joined by dots. Behind the third, whose run of digits does not go on there, stand a
-- pre-release and a build, or nothing.
pub data AreComponents (limit : ℕ) : List ℕ → Partial → Type 0 where
  one : (x : List ℕ) (a : Option ℕ) → IsComponent limit x a
      → AreComponents limit x (record { major = a; minor = None; patch = None; pre_release = []; build = [] })
  two : (x y : List ℕ) (a b : Option ℕ) → IsComponent limit x a → IsComponent limit y b → AreComponents limit
      (x ++ 46 ∷ y) (record { major = a; minor = b; patch = None; pre_release = []; build = [] })
  three : (x y z pre build : List ℕ) (p : Partial) → IsComponent limit x p.major → IsComponent limit y p.minor
      → IsComponent limit z p.patch → (ends is_ascii_digit z && begins is_ascii_digit (pre ++ build)) ≡ false
      → IsPreRelease pre build p.pre_release → IsBuild build [] p.build
      → AreComponents limit (x ++ 46 ∷ (y ++ 46 ∷ (z ++ (pre ++ build)))) p

-- the whole text is this partial
abbrev pub IsPartial : ℕ → List ℕ → Partial → Type 0
IsPartial limit text p = (mark blank components : List ℕ) × (text ≡ mark ++ (blank ++ components))
    × ((mark ≡ []) ⊎ (mark ≡ codes "v")) × IsBlank blank × AreComponents limit components p
