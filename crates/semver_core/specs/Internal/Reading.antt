-- For proofs and private contracts: what a reader finds at the front of a text, as a function. It is proved to be what the
-- grammar says.
use Rattle.std.specs.Prelude.{◌≡◌, ℕ, ◌++◌, ◌+◌, ◌*◌, ◌==◌, ◌||◌, nat_lt, if◌then◌else◌, List, []}
use Rattle.std.specs.Prelude.{◌∷◌, Option, Some, None, map, take, drop}
use Rattle.std.specs.Char.{is_ascii_digit, digit_value}
use Rattle.semver_core.specs.Text.Characters.{begins, is_identifier_char}
use Rattle.semver_core.specs.Text.Identifiers.{Id, goes_on, identifier_of, pieces}
use Rattle.semver_core.specs.Text.VersionText.{Reads}
use Rattle.semver_core.specs.Values.Versions.{VersionValue}

-- the digits have ended: their value and how many they were, where there was one
abbrev pub digits_end : ℕ → ℕ → Option (ℕ × ℕ)
digits_end value count = if count == 0 then None else Some (value, count)

-- digits after some that wrote this value
unfoldable pub digits_from : ℕ → ℕ → ℕ → List ℕ → Option (ℕ × ℕ)
digits_from limit value count [] = digits_end value count
digits_from limit value count (c ∷ rest) = if is_ascii_digit c
    then (if nat_lt limit (value * 10 + digit_value c) then None else digits_from limit (value * 10 + digit_value c) (count + 1) rest)
    else digits_end value count

-- the same, with the place after the piece
abbrev pub placed : {A : Type 0} → ℕ → Option (A × ℕ) → Option (A × ℕ)
placed at None = None
placed at (Some p) = Some (p.0, at + p.1)

-- the number at a place, and the place after it
abbrev pub number_at : ℕ → List ℕ → ℕ → Option (ℕ × ℕ)
number_at limit text at = placed at (digits_from limit 0 0 (drop at text))

-- how far the longest identifier list goes
unfoldable pub list_len : List ℕ → ℕ
list_len [] = 0
list_len (c ∷ rest) = if goes_on (c ∷ rest) then 1 + list_len rest else 0

-- the identifiers of the longest list
abbrev pub list_of : List ℕ → List Id
list_of text = map identifier_of (pieces (take (list_len text) text))

-- the identifier list at the front of a text and how far it goes
abbrev pub list_front : List ℕ → Option (List Id × ℕ)
list_front text = if begins is_identifier_char text then Some (list_of text, list_len text) else None

-- the identifier list at a place, and the place after it
abbrev pub list_at : List ℕ → ℕ → Option (List Id × ℕ)
list_at text at = placed at (list_front (drop at text))

-- the identifier list at a place ends there, and was added to a list
pub record IsListAdded (text : List ℕ) (at end : ℕ) (old new : List Id) : Type 0 where
  pub ids : List Id
  pub exact : Some (ids, end) ≡ list_at text at
  pub added : new ≡ old ++ ids

infixl 10 ◌>>?◌
abbrev pub ◌>>?◌ : {A B : Type 0} → Option A → (A → Option B) → Option B
None >>? f = None
(Some x) >>? f = f x

-- the place after this character
abbrev pub past : ℕ → List ℕ → ℕ → Option ℕ
past c text at = if begins (λ b. b == c) (drop at text) then Some (at + 1) else None

-- a number with a dot behind it, and the place after the dot
abbrev pub part_at : ℕ → List ℕ → ℕ → Option (ℕ × ℕ)
part_at limit text at = number_at limit text at >>? λ n. past 46 text n.1 >>? λ next. Some (n.0, next)

-- three numbers with dots between them, and the place after them
abbrev pub triple_at : ℕ → List ℕ → ℕ → Option (ℕ × ℕ × ℕ × ℕ)
triple_at limit text at =
    part_at limit text at >>? λ major. part_at limit text major.1 >>? λ minor. number_at limit text minor.1 >>? λ patch.
    Some (major.0, minor.0, patch.0, patch.1)

-- the list that was found, or none, and then nothing is skipped
abbrev pub or_nothing : ℕ → Option (List Id × ℕ) → List Id × ℕ
or_nothing at None = ([], at)
or_nothing at (Some found) = found

-- the pre-release at a place, and the place after it: one `-` is skipped where it stands
abbrev pub pre_release_at : List ℕ → ℕ → List Id × ℕ
pre_release_at text at = or_nothing at (list_at text (if begins (λ b. b == 45) (drop at text) then at + 1 else at))

-- the build at a place, and the place after it
abbrev pub build_at : List ℕ → ℕ → List Id × ℕ
build_at text at = if begins (λ b. b == 43) (drop at text) then or_nothing at (list_at text (at + 1)) else ([], at)

-- the list that begins at another place, if there is one
abbrev pub list_from : List ℕ → ℕ → Option ℕ → List Id × ℕ
list_from text at None = ([], at)
list_from text at (Some start) = or_nothing at (list_at text start)

-- the pre-release and the build at a place, and the place after them
abbrev pub lists_at : List ℕ → ℕ → List Id × List Id × ℕ
lists_at text at = ((pre_release_at text at).0, (build_at text (pre_release_at text at).1).0, (build_at text (pre_release_at text at).1).1)

-- the version of three numbers, with the qualifier after them
abbrev pub qualified : List ℕ → ℕ × ℕ × ℕ × ℕ → VersionValue
qualified text t = record {
  major = t.0;
  minor = t.1;
  patch = t.2;
  pre_release = (pre_release_at text t.3).0;
  build = (build_at text (pre_release_at text t.3).1).0;
}

-- the version at a place where its numbers begin
abbrev pub version_at : ℕ → List ℕ → ℕ → Option VersionValue
version_at limit text at = triple_at limit text at >>? λ t. Some (qualified text t)

-- how many bytes the mark takes that a version may begin with
abbrev pub mark_len : List ℕ → ℕ
mark_len [] = 0
mark_len (c ∷ rest) = if c == 118 || c == 86 then 1 else 0

-- whatever the limit on numbers is, one version at most stands at the front of the text
abbrev pub HasOneReading : List ℕ → Type 0
HasOneReading text = (limit : ℕ) (v w : VersionValue) → Reads limit text v → Reads limit text w → v ≡ w
