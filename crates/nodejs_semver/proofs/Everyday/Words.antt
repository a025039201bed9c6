-- The words of an everyday part are what the range grammar reads in it.
use Rattle.nodejs_semver.proofs.Common.{AreComponents, Bool, Comparator, IsSign, List, Partial, Some, Span, VersionValue, Word, [], after_spaces}
use Rattle.nodejs_semver.proofs.Common.{all_weaker, and_from, append-nil, append_assoc, arith, begins, caret, common_steps, compare, drop_spaces}
use Rattle.nodejs_semver.proofs.Common.{drop_spaces-none, ends, false, hyphen, is_boundary, is_sign, joined_from, list_all, meet, nat_tests}
use Rattle.nodejs_semver.proofs.Common.{part_intervals, partial_front, plain, precedence, precedence_total, refl, runs_from, space_len, sym, table}
use Rattle.nodejs_semver.proofs.Common.{tilde, tilde_sign, true, word_at, words, words_within, ℕ, ◌++◌, ◌==◌, ◌||◌, ◌∙◌, ◌∷◌, ◌≡◌}
use Rattle.nodejs_semver.proofs.{Dividing.RunLemmas.{joined-goes, runs-joined}, Reading.PartialLaw.{components-begin, components-bytes, front-exact}}
use Rattle.nodejs_semver.{proofs.Reading.{PartialLaw.words-step, WordLaw.{compared-of, unsigned-at}}, specs.Internal.Words.or_equal}
use Rattle.semver_core.proofs.Reading.Bytes.{Stop, all-end, all-join, begins-on, begins_component, component-solid, ends-append, ends-some, is_solid}
use Rattle.semver_core.proofs.Reading.Bytes.{solid-dark, stop-nil, stop-space}

-- a visible character other than the bar, or a space
abbrev pub is_part_byte : ℕ → Bool
is_part_byte b = is_solid b || b == 32

-- a text of such bytes that neither begins nor ends with a space
pub record Compact (text : List ℕ) : Type 0 where
  pub front : begins is_solid text ≡ true
  pub each : list_all is_part_byte text ≡ true
  pub end : ends is_solid text ≡ true

-- ---- compact texts

-- a part of two words, and one of a single word
pub compact-join : (u v : List ℕ) → begins is_solid u ≡ true → list_all is_part_byte u ≡ true → list_all is_part_byte v ≡ true
    → ends is_solid v ≡ true → Compact (u ++ v)
compact-join u v b h k e = grind (arith, all-join, ends-append, ends-some)

pub compact-spaced : (u v : List ℕ) → Compact u → Compact v → Compact (u ++ 32 ∷ v)
compact-spaced u v c d = grind (arith, nat_tests, common_steps, compact-join, ends-append, ends-some)

pub compact-partial : (limit : ℕ) (x : List ℕ) (p : Partial) → AreComponents limit x p → Compact x
compact-partial limit x p h = grind (arith, components-bytes, components-begin, all_weaker, all-end)

pub compact-signed : (b : ℕ) (text : List ℕ) → is_solid b ≡ true → Compact text → Compact (b ∷ text)
compact-signed b text h c = compact-join (b ∷ []) text h (and_from (is_part_byte b) true (rw h refl) refl) c.each c.end

pub compact-compared : (c : Comparator) (sign text : List ℕ) → IsSign c sign → Compact text → Compact (sign ++ text)
compact-compared c sign text h k = grind arith

-- ---- the words of an everyday part are what the range grammar reads in it

-- where a component begins, no sign goes on
pub no-equal : (one two : Comparator) (text : List ℕ) → begins_component text ≡ true → or_equal one two text ≡ (one, text)
no-equal one two text h = grind arith

pub no-greater : (text : List ℕ) → begins_component text ≡ true → tilde_sign text ≡ (false, text)
no-greater text h = grind arith

pub sign-begins : (c : Comparator) (sign text : List ℕ) → IsSign c sign → (begins is_sign (sign ++ text) ≡ true)
    × (begins is_solid (sign ++ text) ≡ true)
sign-begins c sign text h = grind arith

-- ---- one word

-- the word at the front of a text that begins with a visible character, and what follows it
record ReadAt (limit : ℕ) (text : List ℕ) (w : Word) (more : List ℕ) : Type 0 where
  front : begins is_solid text ≡ true
  word : word_at limit text ≡ (w, more)

-- the partial, and the same behind a sign, where whitespace might stand
partial-spaced : (limit : ℕ) (x more : List ℕ) (p : Partial) → AreComponents limit x p → Stop more
    → partial_front limit (drop_spaces (x ++ more)) ≡ Some (p, more)
partial-spaced limit x more p h stop =
    grind (arith, solid-dark, begins-on, component-solid, components-begin, drop_spaces-none, front-exact)

partial-last : (limit : ℕ) (x : List ℕ) (p : Partial) → AreComponents limit x p → partial_front limit x ≡ Some (p, [])
partial-last limit x p h = rw append-nil at (front-exact limit x [] p h stop-nil)

spaced-last : (limit : ℕ) (x : List ℕ) (p : Partial) → AreComponents limit x p
    → partial_front limit (drop_spaces x) ≡ Some (p, [])
spaced-last limit x p h = rw append-nil at (partial-spaced limit x [] p h stop-nil)

compared-read : (limit : ℕ) (c : Comparator) (sign x more : List ℕ) (p : Partial) → IsSign c sign → AreComponents limit x p
    → Stop more → is_boundary more ≡ true → ReadAt limit ((sign ++ x) ++ more) (compare c p) more
unfolding word_at
compared-read limit c sign x more p is h stop end =
    grind (arith, nat_tests, partial-spaced limit x more p h stop, append_assoc sign x more, compared-of, sign-begins c sign (x ++ more) is)

-- ---- the words of a part, and its interval

words-at : (limit : ℕ) (text : List ℕ) (w : Word) (more : List ℕ) → ReadAt limit text w more
    → words limit text ≡ w ∷ words limit (drop_spaces more)
words-at limit text w more r = grind (arith, words-step, solid-dark)

one-word : (limit : ℕ) (text : List ℕ) (w : Word) → ReadAt limit text w [] → words limit text ≡ w ∷ []
unfolding after_spaces words_within
one-word limit text w r = words-at limit text w [] r

pub space-gone : (rest : List ℕ) → drop_spaces (32 ∷ rest) ≡ drop_spaces rest
unfolding after_spaces space_len
space-gone rest = refl

two-words : (limit : ℕ) (text rest : List ℕ) (v w : Word) → ReadAt limit text v (32 ∷ rest) → ReadAt limit rest w []
    → words limit text ≡ v ∷ w ∷ []
two-words limit text rest v w r s =
    grind (arith, nat_tests, drop_spaces-none rest (solid-dark rest s.front), solid-dark rest s.front, space-gone rest, one-word limit rest w s, words-at limit text v (32 ∷ rest) r)

-- a part that is trimmed to itself and has one interval
pub record Tidy (limit : ℕ) (part : List ℕ) (s : Span VersionValue) : Type 0 where
  pub compact : Compact part
  pub intervals : part_intervals limit part ≡ s ∷ []

word-tidy : (limit : ℕ) (x : List ℕ) (w : Word) (s : Span VersionValue) → Compact x → word_at limit x ≡ (w, [])
    → table limit w ≡ Some s → Tidy limit x s
unfolding runs_from
word-tidy limit x w s c word bounds =
    record { compact = c; intervals = rw (one-word limit x w (record { front = c.front; word = word }), bounds) refl }

-- ---- the forms of a part

pub plain-tidy : (limit : ℕ) (x : List ℕ) (p : Partial) (s : Span VersionValue) → AreComponents limit x p
    → table limit (plain p) ≡ Some s → Tidy limit x s
unfolding word_at is_boundary space_len
plain-tidy limit x p s h bounds = grind (arith, partial-last, word-tidy, compact-partial, unsigned-at)

last-compared : (limit : ℕ) (c : Comparator) (sign x : List ℕ) (p : Partial) → IsSign c sign → AreComponents limit x p
    → ReadAt limit (sign ++ x) (compare c p) []
unfolding is_boundary
last-compared limit c sign x p is h = rw append-nil at (compared-read limit c sign x [] p is h stop-nil refl)

pub compared-tidy : (limit : ℕ) (c : Comparator) (sign x : List ℕ) (p : Partial) (s : Span VersionValue) → IsSign c sign
    → AreComponents limit x p → table limit (compare c p) ≡ Some s → Tidy limit (sign ++ x) s
compared-tidy limit c sign x p s is h bounds = grind (arith, word-tidy, compact-compared, compact-partial, last-compared)

pub tilde-tidy : (limit : ℕ) (greater : Bool) (rest x : List ℕ) (p : Partial) (s : Span VersionValue) → Compact (126 ∷ rest)
    → tilde_sign (drop_spaces rest) ≡ (greater, x)
    → AreComponents limit x p → table limit (tilde greater p) ≡ Some s → Tidy limit (126 ∷ rest) s
unfolding word_at is_boundary space_len
tilde-tidy limit greater rest x p s c sign h bounds =
    word-tidy limit (126 ∷ rest) (tilde greater p) s c (rw (sign, spaced-last limit x p h) refl) bounds

pub caret-tidy : (limit : ℕ) (x : List ℕ) (p : Partial) (s : Span VersionValue) → AreComponents limit x p
    → table limit (caret p) ≡ Some s → Tidy limit (94 ∷ x) s
unfolding word_at is_boundary space_len
caret-tidy limit x p s h bounds =
    let whole = compact-signed 94 x refl (compact-partial limit x p h) in
    word-tidy limit (94 ∷ x) (caret p) s whole (rw (spaced-last limit x p h) refl) bounds

pub hyphen-tidy : (limit : ℕ) (x y : List ℕ) (p q : Partial) (s : Span VersionValue) → AreComponents limit x p
    → AreComponents limit y q → table limit (hyphen p q) ≡ Some s → Tidy limit (x ++ 32 ∷ (45 ∷ (32 ∷ y))) s
unfolding word_at is_boundary space_len after_spaces
hyphen-tidy limit x y p q s h k bounds =
    let behind = 32 ∷ 45 ∷ 32 ∷ y in
    let dash = compact-spaced (45 ∷ []) y (record { front = refl; each = refl; end = refl }) (compact-partial limit y q k) in
    let read = front-exact limit x behind p h (stop-space (45 ∷ 32 ∷ y)) in
    word-tidy limit (x ++ behind) (hyphen p q) s (compact-spaced x (45 ∷ 32 ∷ y) (compact-partial limit x p h) dash)
    (rw (unsigned-at limit (x ++ behind) (p, behind) read, read, spaced-last limit y q k) refl) bounds

pub two-tidy : (limit : ℕ) (c d : Comparator) (sign sign' x y : List ℕ) (p q : Partial) (s t both : Span VersionValue)
    → IsSign c sign → AreComponents limit x p
    → IsSign d sign' → AreComponents limit y q → table limit (compare c p) ≡ Some s → table limit (compare d q) ≡ Some t
    → meet precedence s t ≡ Some both → Tidy limit ((sign ++ x) ++ 32 ∷ (sign' ++ y)) both
unfolding joined_from is_boundary space_len
two-tidy limit c d sign sign' x y p q s t both is h is' k b b' m =
    let rest = sign' ++ y in
    let first = compared-read limit c sign x (32 ∷ rest) p is h (stop-space rest) refl in
    let each = two-words limit ((sign ++ x) ++ 32 ∷ rest) rest (compare c p) (compare d q) first
    (last-compared limit d sign' y q is' k) in
    record {
      compact = compact-spaced (sign ++ x) rest (compact-compared c sign x is (compact-partial limit x p h))
          (compact-compared d sign' y is' (compact-partial limit y q k));
      intervals = rw (each, b, b') (sym (runs-joined precedence_total (s ∷ t ∷ [])) ∙ joined-goes precedence s t both [] m);
    }
