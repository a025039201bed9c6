-- Statement: version texts. A text is divided as a whole; how a reader goes through it does not matter.
use Rattle.std.specs.Prelude.{◌≡◌, ◌==◌, if◌then◌else◌, ℕ, Bool, false, List, [], ◌∷◌, ◌++◌, codes}
use Rattle.semver_core.specs.Text.Characters.{begins, is_identifier_char, IsBlank}
use Rattle.semver_core.specs.Text.Identifiers.{Id, IsLongestIdentifiers}
use Rattle.semver_core.specs.Text.Numbers.{IsNumber, IsWholeNumber}
use Rattle.semver_core.specs.Values.Versions.{VersionValue}

-- `v`, `V` or nothing
pub data IsMark : List ℕ → Type 0 where
  no_mark : IsMark []
  small_mark : IsMark (codes "v")
  capital_mark : IsMark (codes "V")

-- the text begins with identifiers, behind one `-` or without it
abbrev pub begins_pre_release : List ℕ → Bool
begins_pre_release [] = false
begins_pre_release (c ∷ rest) = if c == 45 then begins is_identifier_char rest else is_identifier_char c

-- the text begins with `+` and identifiers
abbrev pub begins_build : List ℕ → Bool
begins_build [] = false
begins_build (c ∷ rest) = if c == 43 then begins is_identifier_char rest else false

-- a pre-release: `-` and identifiers, or identifiers that do not begin with `-`, or nothing where neither
-- stands
pub data IsPreRelease : List ℕ → List ℕ → List Id → Type 0 where
  dashed : (x y : List ℕ) (list : List Id) → IsLongestIdentifiers x y list
      → IsPreRelease (codes "-" ++ x) y list
  bare : (text rest : List ℕ) (list : List Id) → IsLongestIdentifiers text rest list
      → begins (λ c. c == 45) text ≡ false → IsPreRelease text rest list
  no_pre_release : (rest : List ℕ) → begins_pre_release rest ≡ false → IsPreRelease [] rest []

-- build metadata: `+` and identifiers, or nothing where these do not stand
pub data IsBuild : List ℕ → List ℕ → List Id → Type 0 where
  plus : (x y : List ℕ) (list : List Id) → IsLongestIdentifiers x y list → IsBuild (codes "+" ++ x) y list
  no_build : (rest : List ℕ) → begins_build rest ≡ false → IsBuild [] rest []

-- the text has this version at its front; whatever follows it is ignored
pub record Reads (limit : ℕ) (text : List ℕ) (v : VersionValue) : Type 0 where
  pub mark : List ℕ
  pub blank : List ℕ
  pub major : List ℕ
  pub minor : List ℕ
  pub patch : List ℕ
  pub pre_release : List ℕ
  pub build : List ℕ
  pub rest : List ℕ
  pub divided : text ≡ mark ++ (blank ++ (major ++ (codes "." ++ (minor ++ (codes "." ++ (patch
      ++ (pre_release ++ (build ++ rest))))))))
  pub mark_is : IsMark mark
  pub blank_is : IsBlank blank
  pub major_is : IsNumber limit major v.major
  pub minor_is : IsNumber limit minor v.minor
  pub patch_is : IsWholeNumber limit patch (pre_release ++ (build ++ rest)) v.patch
  pub pre_release_is : IsPreRelease pre_release (build ++ rest) v.pre_release
  pub build_is : IsBuild build rest v.build
