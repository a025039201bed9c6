-- What the bytes of a text are: the first, the last, and all of them; and where a piece of it ends.
use Rattle.semver_core.proofs.Common.{list_len, space_len, IsTrim, begins, is_whitespace, [], Bool, List, None, ap}
use Rattle.semver_core.proofs.Common.{append-nil, arith, encode_utf8_all, false, length, not, refl, true, ℕ, ◌&&◌}
use Rattle.semver_core.proofs.Common.{◌++◌, ◌<◌, ◌||◌, ◌∙◌, ◌∷◌, ◌≡◌, nat_tests, and_from, list_all-append}
use Rattle.semver_core.proofs.Common.{is_ascii_digit, list_all, ◌==◌}
use Rattle.semver_core.proofs.Text.SpaceLaw.{space_len-dark}
use Rattle.semver_core.proofs.Text.Spaces.{space_len-nil}
use Rattle.semver_core.specs.Internal.Fronts.{begins_byte, begins_identifier, dotted_front, is_wildcard}
use Rattle.semver_core.specs.Text.Characters.{ends}
use Rattle.std.proofs.Common.{nat_lt}
use Rattle.std.proofs.lemmas.Bool.{and_right}

pub begins-on : (p : ℕ → Bool) (u v : List ℕ) → begins p u ≡ true → begins p (u ++ v) ≡ true
begins-on p u v h = grind arith

pub begins-some : (p : ℕ → Bool) (u : List ℕ) → begins p u ≡ true → 0 < length u
begins-some p u h = grind arith

pub ends-some : (p : ℕ → Bool) (u : List ℕ) → ends p u ≡ true → 0 < length u
ends-some p [] h = cc h
ends-some p (b ∷ u) h = omega arith

-- a text ends as its last piece does
pub ends-append : (p : ℕ → Bool) (u v : List ℕ) → 0 < length v → ends p (u ++ v) ≡ ends p v
ends-append p [] v h = refl
ends-append p (b ∷ []) v h = grind arith
ends-append p (b ∷ c ∷ u) v h = ends-append p (c ∷ u) v h

pub all-end : (p : ℕ → Bool) (u : List ℕ) → 0 < length u → list_all p u ≡ true → ends p u ≡ true
all-end p [] some h = absurd (omega arith)
all-end p (b ∷ u) some h = grind (arith, all-end p u)

pub all-join : (p : ℕ → Bool) (u v : List ℕ) → list_all p u ≡ true → list_all p v ≡ true → list_all p (u ++ v) ≡ true
all-join p u v h k = list_all-append p u v ∙ and_from (list_all p u) (list_all p v) h k

-- ---- visible characters of ASCII other than the bar

abbrev pub is_solid : ℕ → Bool
is_solid b = nat_lt 32 b && (nat_lt b 127 && not (b == 124))

-- a text that begins with one does not begin with whitespace
pub solid-dark : (text : List ℕ) → begins is_solid text ≡ true → space_len text ≡ 0
unfolding space_len
solid-dark text h = grind (arith, nat_tests)

-- the text begins with a wildcard or a digit
abbrev pub is_component_byte : ℕ → Bool
is_component_byte b = is_wildcard b || is_ascii_digit b

abbrev pub begins_component : List ℕ → Bool
begins_component text = begins is_component_byte text

pub component-solid : (text : List ℕ) → begins_component text ≡ true → begins is_solid text ≡ true
component-solid text h = grind arith

-- ---- a trimmed text does not begin with whitespace

pub dark-starts : (characters : List ℕ) → begins is_whitespace characters ≡ false → space_len (encode_utf8_all characters) ≡ 0
dark-starts characters h = grind (arith, space_len-nil, space_len-dark)

pub trim-starts : (text middle : List ℕ) → IsTrim text middle → space_len middle ≡ 0
trim-starts text middle h = ap (λ (t : List ℕ). space_len t) h.middle_is ∙ dark-starts h.characters h.begins_dark

-- ---- where a piece of a text ends: whether a run of digits goes on there, and whether anything does

abbrev pub Quiet : List ℕ → List ℕ → Type 0
Quiet t more = (ends is_ascii_digit t && begins is_ascii_digit more) ≡ false

pub quiet-before : (c rest : List ℕ) → begins is_ascii_digit rest ≡ false → Quiet c rest
quiet-before c rest h = and_right (ends is_ascii_digit c) (begins is_ascii_digit rest) h

pub quiet-last : (u v more : List ℕ) → 0 < length v → Quiet (u ++ v) more → Quiet v more
quiet-last u v more some h = rw (ends-append is_ascii_digit u v some) at h

pub quiet-behind : (c d more : List ℕ) → 0 < length d → Quiet (c ++ 46 ∷ d) more → Quiet d more
quiet-behind c d more some h = quiet-last (46 ∷ []) d more some (quiet-last c (46 ∷ d) more (omega arith) h)

pub quiet-append : (u v left : List ℕ) → 0 < length v → Quiet v left → Quiet (u ++ v) left
quiet-append u v left some h = rw (ends-append is_ascii_digit u v some) h

pub quiet-dotted : (u v left : List ℕ) → 0 < length v → Quiet v left → Quiet (u ++ 46 ∷ v) left
quiet-dotted u v left some h = quiet-append u (46 ∷ v) left (omega arith) (quiet-append (46 ∷ []) v left some h)

pub quiet-both : (u v left : List ℕ) → Quiet u (v ++ left) → Quiet v left → Quiet (u ++ v) left
quiet-both u [] left h k = rw (append-nil u) h
quiet-both u (d ∷ v) left h k = quiet-append u (d ∷ v) left (omega arith) k

pub quiet-front : (u v left : List ℕ) → Quiet u (v ++ left) → Quiet u v
quiet-front u v left h = grind arith

pub quiet-further : (u v more : List ℕ) → Quiet u v → Quiet (u ++ v) more → Quiet u (v ++ more)
quiet-further u v more h k = grind (arith, append-nil)

-- nothing goes on: the end, a space or a bar
pub record Stop (more : List ℕ) : Type 0 where
  pub run : list_len more ≡ 0
  pub dash : begins_byte 45 more ≡ false
  pub plus : begins_byte 43 more ≡ false
  pub identifier : begins_identifier more ≡ false
  pub digit : begins is_ascii_digit more ≡ false
  pub dot : (limit : ℕ) → dotted_front limit more ≡ None

pub stop-nil : Stop []
unfolding list_len dotted_front
stop-nil = record { run = refl; dash = refl; plus = refl; identifier = refl; digit = refl; dot = λ limit. refl }

pub stop-space : (z : List ℕ) → Stop (32 ∷ z)
unfolding list_len dotted_front
stop-space z = record { run = refl; dash = refl; plus = refl; identifier = refl; digit = refl; dot = λ limit. refl }

pub stop-bar : (z : List ℕ) → Stop (124 ∷ z)
unfolding list_len dotted_front
stop-bar z = record { run = refl; dash = refl; plus = refl; identifier = refl; digit = refl; dot = λ limit. refl }
