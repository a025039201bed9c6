-- What is read of bounds: no number is above the limit by more than one, and identifiers are what their texts spell.
use Rattle.nodejs_semver.proofs.Common.{AreComponents, Front, Id, IsBuild, IsPreRelease, List, None, Option, Partial, Sign, Some, Word, arith}
use Rattle.nodejs_semver.proofs.Common.{bind_some, caret, compare, cond_some, hyphen, is_normal, list_all, malformed, partial_front, plain, refl}
use Rattle.nodejs_semver.proofs.{Common.{same_Some, sign_at, tilde, true, upper_of, word_at, ℕ, ◌≡◌, ◌≤◌}, Reading.PartialLaw.front-read}
use Rattle.nodejs_semver.specs.Internal.Words.{at_boundary, behind_sign, or_else, or_malformed, signed_word, word_behind}
use Rattle.{nodejs_semver.specs.Text.PartialText.IsComponent, semver_core.{proofs.Normal.identifiers-normal, specs.Internal.Reading.◌>>?◌}}

pre_release-normal : (text rest : List ℕ) (ids : List Id) → IsPreRelease text rest ids → list_all is_normal ids ≡ true
pre_release-normal text rest ids h = grind (arith, identifiers-normal)

build-normal : (text rest : List ℕ) (ids : List Id) → IsBuild text rest ids → list_all is_normal ids ≡ true
build-normal text rest ids h = grind (arith, identifiers-normal)

-- ---- partials

abbrev pub Fits : ℕ → Option ℕ → Type 0
Fits limit None = Unit {0}
Fits limit (Some n) = n ≤ limit

pub record Fine (limit : ℕ) (p : Partial) : Type 0 where
  pub major : Fits limit p.major
  pub minor : Fits limit p.minor
  pub patch : Fits limit p.patch
  pub pre_release : list_all is_normal p.pre_release ≡ true
  pub build : list_all is_normal p.build ≡ true

component-fits : (limit : ℕ) (text : List ℕ) (v : Option ℕ) → IsComponent limit text v → Fits limit v
component-fits limit text v h = grind arith

components-fine : (limit : ℕ) (text : List ℕ) (p : Partial) → AreComponents limit text p → Fine limit p
components-fine limit text p h = grind (arith, component-fits, pre_release-normal, build-normal)

longest-fine : (limit : ℕ) (text : List ℕ) (p : Partial) (r : List ℕ) → partial_front limit text ≡ Some (p, r) → Fine limit p
longest-fine limit text p r h = let s = front-read limit text p r h in components-fine limit s.0 p s.1.is

-- ---- words

abbrev pub FineWord : ℕ → Word → Type 0
FineWord limit (hyphen p q) = Fine limit p × Fine limit q
FineWord limit (plain p) = Fine limit p
FineWord limit (compare c p) = Fine limit p
FineWord limit (tilde greater p) = Fine limit p
FineWord limit (caret p) = Fine limit p
FineWord limit malformed = Unit {0}

upper-fine : (limit : ℕ) (s : Sign) (text : List ℕ) (q : Partial × List ℕ) → upper_of limit s text ≡ Some q → Fine limit q.0
upper-fine limit s text q h = grind (arith, bind_some, cond_some, longest-fine)

abbrev FineFront : ℕ → Front Word → Type 0
FineFront limit o = (x : Word) (r : List ℕ) → o ≡ Some (x, r) → FineWord limit x

form-fine : (limit : ℕ) (text : List ℕ) → FineFront limit (behind_sign limit (sign_at text))
form-fine limit text x r h =
    let s = sign_at text in
    let p = bind_some (partial_front limit s.1) (λ p. word_behind limit s.0 p.0 p.1) (x, r) h in
    let fine = longest-fine limit s.1 p.0.0 p.0.1 p.1 in
    go s.0 p.0.0 p.0.1 fine (upper_of limit s.0 p.0.1) refl p.2
  where
    go : (s : Sign) (p : Partial) (rest : List ℕ) → Fine limit p → (o : Option (Partial × List ℕ)) → upper_of limit s rest ≡ o
        → or_else (o >>? λ q. Some (hyphen p q.0, q.1)) (at_boundary (signed_word s p) rest) ≡ Some (x, r) → FineWord limit x
    go s p rest f o e k = grind (arith, same_Some, upper-fine, cond_some)

read-fine : (limit : ℕ) (o : Front Word) (text : List ℕ) → FineFront limit o → FineWord limit (or_malformed o text).0
read-fine limit None text f = tt
read-fine limit (Some w) text f = f w.0 w.1 refl

pub word-fine : (limit : ℕ) (text : List ℕ) → FineWord limit (word_at limit text).0
unfolding word_at
word-fine limit text = read-fine limit (behind_sign limit (sign_at text)) text (form-fine limit text)
