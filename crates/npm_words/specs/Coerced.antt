-- Statement: the version that node-semver's `coerce` finds in any text, without its pre-release or
-- with it. Left out are three faults of node-semver where it is found with its pre-release: it cuts
-- an identifier that begins with digits, as in `1.2.3-1a`, and one of a build behind 250
-- characters; and from the right it takes numbers inside a pre-release or a build, unless the text
-- ends with these.
use Rattle.std.specs.Prelude.{◌≡◌, ◌==◌, ◌&&◌, ◌||◌, ◌<◌, ◌≤◌, not, ℕ, Bool, true, false, List, [], ◌∷◌, ◌++◌}
use Rattle.std.specs.Prelude.{codes, drop, length, map, take_while}
use Rattle.std.specs.Char.{is_ascii_digit}
use Rattle.std.specs.List.{list_all}
use Rattle.semver_core.specs.Text.Characters.{begins, ends, is_identifier_char}
use Rattle.semver_core.specs.Text.Identifiers.{Id, identifier_of, is_identifier, pieces}
use Rattle.semver_core.specs.Text.Numbers.{IsNumber}
use Rattle.semver_core.specs.Values.Versions.{VersionValue, release_value}
use Rattle.semver_core.specs.declared.TheConstants.{MAX_LENGTH, MAX_SAFE_INTEGER}
use Rattle.npm_words.specs.Grammar.{IsStrictNumber, has_leading_zero}
use Rattle.npm_words.specs.declared.options.Coercion.{Coercion}

-- 1 to 16 digits
pub record IsRun (text : List ℕ) : Type 0 where
  pub some : 0 < length text
  pub short : length text ≤ 16
  pub each : list_all is_ascii_digit text ≡ true

-- one to three runs joined by dots
pub data IsTuple : List ℕ → List (List ℕ) → Type 0 where
  one : (a : List ℕ) → IsRun a → IsTuple a (a ∷ [])
  two : (a b : List ℕ) → IsRun a → IsRun b → IsTuple (a ++ (codes "." ++ b)) (a ∷ b ∷ [])
  three : (a b c : List ℕ) → IsRun a → IsRun b → IsRun c
      → IsTuple (a ++ (codes "." ++ (b ++ (codes "." ++ c)))) (a ∷ b ∷ c ∷ [])

-- between these a tuple stands in the text, and no further digit beside it
pub record IsTupleIn (text front tuple back : List ℕ) : Type 0 where
  pub divided : text ≡ front ++ (tuple ++ back)
  pub runs : List (List ℕ)
  pub is : IsTuple tuple runs
  pub begun : ends is_ascii_digit front ≡ false
  pub ended : begins is_ascii_digit back ≡ false

-- an identifier; strictly, one that is digits alone has no leading zero
abbrev pub is_identifier_in : Bool → List ℕ → Bool
is_identifier_in strict text =
    is_identifier text && not (strict && list_all is_ascii_digit text && has_leading_zero text)

-- the text begins with such an identifier, as far as its letters, digits and `-` go
abbrev pub begins_identifier_in : Bool → List ℕ → Bool
begins_identifier_in strict text = is_identifier_in strict (take_while is_identifier_char text)

-- a list of such identifiers, joined by dots, that ends here would go on with this text
abbrev pub goes_on_in : Bool → List ℕ → Bool
goes_on_in strict [] = false
goes_on_in strict (c ∷ rest) = is_identifier_char c || (c == 46 && begins_identifier_in strict rest)

-- a mark and the longest list of such identifiers behind it; or nothing, where none is included or
-- none stands there
pub data IsMarkedList (included strict : Bool) (mark : ℕ) : List ℕ → List ℕ → List Id → Type 0 where
  marked : (text rest : List ℕ) → included ≡ true → list_all (is_identifier_in strict) (pieces text) ≡ true
      → goes_on_in strict rest ≡ false
      → IsMarkedList included strict mark (mark ∷ text) rest (map identifier_of (pieces text))
  unmarked : (rest : List ℕ)
      → (included && begins (λ c. c == mark) rest && begins_identifier_in strict (drop 1 rest))
      ≡ false
      → IsMarkedList included strict mark [] rest []

-- between these a tuple stands in the text, and goes on with a strict pre-release and with build
-- metadata, if they are included: behind `-`, which is 45, and `+`, which is 43
pub record IsContinuedIn (included : Bool) (text front whole back : List ℕ) : Type 0 where
  pub tuple : List ℕ
  pub pre : List ℕ
  pub build : List ℕ
  pub joined : whole ≡ tuple ++ (pre ++ build)
  pub found : IsTupleIn text front tuple (pre ++ (build ++ back))
  pub pre_ids : List Id
  pub pre_is : IsMarkedList included true 45 pre (build ++ back) pre_ids
  pub build_ids : List Id
  pub build_is : IsMarkedList included false 43 build back build_ids

-- none begins sooner, and none that begins there is longer
pub record IsLeftmost (included : Bool) (text front whole back : List ℕ) : Type 0 where
  pub first : (x y z : List ℕ) → IsContinuedIn included text x y z → length front ≤ length x
  pub longest : (x y z : List ℕ) → IsContinuedIn included text x y z → length x ≡ length front
      → length y ≤ length whole

-- none ends later, and none that ends there is longer
pub record IsRightmost (included : Bool) (text front whole back : List ℕ) : Type 0 where
  pub last : (x y z : List ℕ) → IsContinuedIn included text x y z → length back ≤ length z
  pub longest : (x y z : List ℕ) → IsContinuedIn included text x y z → length z ≡ length back
      → length y ≤ length whole

-- a number up to the limit; loosely it may have leading zeros
abbrev pub IsNumberIn : Bool → List ℕ → ℕ → Type 0
IsNumberIn loose = elim loose [ false ↦ IsStrictNumber MAX_SAFE_INTEGER | true ↦ IsNumber MAX_SAFE_INTEGER ]

-- the release of these numbers, with 0 for each that is absent
pub data IsRelease (Number : List ℕ → ℕ → Type 0) : List (List ℕ) → VersionValue → Type 0 where
  one : (a : List ℕ) (x : ℕ) → Number a x → IsRelease Number (a ∷ []) (release_value x 0 0)
  two : (a b : List ℕ) (x y : ℕ) → Number a x → Number b y
      → IsRelease Number (a ∷ b ∷ []) (release_value x y 0)
  three : (a b c : List ℕ) (x y z : ℕ) → Number a x → Number b y → Number c z
      → IsRelease Number (a ∷ b ∷ c ∷ []) (release_value x y z)

-- `.0` for each number that is absent
abbrev pub absent : List (List ℕ) → List ℕ
absent [] = []
absent (a ∷ []) = codes ".0.0"
absent (a ∷ b ∷ []) = codes ".0"
absent (a ∷ b ∷ c ∷ runs) = []

-- what is looked for is the version of these numbers, in a reading that has such numbers, and of
-- these identifiers; and its text has at most 256 characters
pub record IsCoerced (included : Bool)
    (IsChosen : Bool → List ℕ → List ℕ → List ℕ → List ℕ → Type 0) (Number : List ℕ → ℕ → Type 0)
    (text : List ℕ) (v : VersionValue) : Type 0 where
  pub front : List ℕ
  pub whole : List ℕ
  pub back : List ℕ
  pub found : IsContinuedIn included text front whole back
  pub chosen : IsChosen included text front whole back
  pub release : VersionValue
  pub numbers : IsRelease Number found.found.runs release
  pub is : v ≡ record release { pre_release = found.pre_ids; build = found.build_ids }
  pub short : length (found.tuple ++ (absent found.found.runs ++ (found.pre ++ found.build))) ≤ MAX_LENGTH

-- the tuple that is looked for, from the left or from the right
abbrev pub IsChosenFrom : Bool → Bool → List ℕ → List ℕ → List ℕ → List ℕ → Type 0
IsChosenFrom rtl = elim rtl [ false ↦ IsLeftmost | true ↦ IsRightmost ]

-- the version that these options look for in the text
abbrev pub IsCoercedBy : Coercion → List ℕ → VersionValue → Type 0
IsCoercedBy options =
    IsCoerced options.include_prerelease (IsChosenFrom options.rtl) (IsNumberIn options.loose)
