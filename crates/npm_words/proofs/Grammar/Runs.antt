-- Runs of the bytes of one class at the front of a text, and functions that go along a text step by step.
use Rattle.npm_words.proofs.Common.{Bool, List, [], and_parts, arith, begins, common_steps, drop, drop-append-add, encode_ascii, encode_utf8}
use Rattle.npm_words.proofs.Common.{encode_utf8_all, false, if◌then◌else◌, le-ltb, length, list_all, lt-ltb, nat_tests, prefix_len, refl, suc, sym}
use Rattle.{npm_words.proofs.Common.{take_while, true, zero, ℕ, ◌++◌, ◌+◌, ◌<◌, ◌∙◌, ◌∷◌, ◌≡◌, ◌≤◌}, semver_core.proofs.Reading.Bytes.all-join}
use Rattle.semver_core.proofs.Text.Runs.{take_one}

-- ---- runs

-- a run goes on behind bytes of its class
pub run-many : (F : ℕ → Bool) (x rest : List ℕ) → list_all F x ≡ true → prefix_len F (x ++ rest) ≡ length x + prefix_len F rest
run-many F [] rest h = omega arith
run-many F (c ∷ x) rest h = grind (arith, nat_tests, common_steps, and_parts, run-many F x rest)

-- what is left behind it is what is left behind these bytes
pub run-behind : (F : ℕ → Bool) (x rest : List ℕ) → list_all F x ≡ true → drop (prefix_len F (x ++ rest)) (x ++ rest) ≡ drop (prefix_len F rest) rest
run-behind F x rest h = rw (run-many F x rest h, drop-append-add) refl

pub run-none : (F : ℕ → Bool) (rest : List ℕ) → begins F rest ≡ false → prefix_len F rest ≡ 0
run-none F rest h = grind arith

pub run-exact : (F : ℕ → Bool) (x rest : List ℕ) → list_all F x ≡ true → begins F rest ≡ false → drop (prefix_len F (x ++ rest)) (x ++ rest) ≡ rest
run-exact F x rest h k = grind (arith, run-behind F x rest h, run-none)

-- a byte of its class begins it
pub while-on : (F : ℕ → Bool) (c : ℕ) (rest : List ℕ) → F c ≡ true → take_while F (c ∷ rest) ≡ c ∷ take_while F rest
while-on F c rest h = rw h (take_one (prefix_len F rest) c rest)

-- bytes of characters: the class has all those above ASCII
pub encoded-all : (p F : ℕ → Bool) → ((n : ℕ) → 128 ≤ n → F n ≡ true) → ((c : ℕ) → c < 128 → p c ≡ true → F c ≡ true) → (cs : List ℕ)
    → list_all p cs ≡ true → list_all F (encode_utf8_all cs) ≡ true
unfolding encode_utf8
encoded-all p F high low [] h = refl
encoded-all p F high low (c ∷ cs) h =
    grind (arith, nat_tests, common_steps, and_parts, all-join, encode_ascii, le-ltb, lt-ltb, high, low c, encoded-all p F high low cs)

-- ---- steps

-- a function that takes steps along a text, each of which leaves less of it: the number only bounds the steps
module _ {A : Type 0} (f : ℕ → List ℕ → A) (goes : List ℕ → Bool) (next : List ℕ → List ℕ) (done : List ℕ → A) (end : f 0 [] ≡ done [])
    (step : (n : ℕ) (text : List ℕ) → f (suc n) text ≡ (if goes text then f n (next text) else done text))
    (less : (text : List ℕ) → goes text ≡ true → length (next text) < length text) where
  nil-done : (n : ℕ) → f n [] ≡ done []
  nil-done zero = end
  nil-done (suc n) = grind (arith, step n [], less [])

  pub steps-enough : (n m : ℕ) (text : List ℕ) → length text ≤ n → length text ≤ m → f n text ≡ f m text
  steps-enough n m [] h k = nil-done n ∙ sym (nil-done m)
  steps-enough zero m (c ∷ text) h k = absurd (omega (arith, h))
  steps-enough (suc n) zero (c ∷ text) h k = absurd (omega (arith, k))
  steps-enough (suc n) (suc m) (c ∷ text) h k =
      let same = steps-enough n m (next (c ∷ text)) in grind (arith, step n (c ∷ text), step m (c ∷ text), less (c ∷ text), same)

  pub steps-once : (text : List ℕ) → f (length text) text ≡ (if goes text then f (length text) (next text) else done text)
  steps-once text = steps-enough (length text) (suc (length text)) text (omega arith) (omega arith) ∙ step (length text) text

  pub steps-stop : (text : List ℕ) → goes text ≡ false → f (length text) text ≡ done text
  steps-stop text h = steps-once text ∙ rw h refl

  pub steps-go : (text : List ℕ) → goes text ≡ true → f (length text) text ≡ f (length (next text)) (next text)
  steps-go text h = steps-once text ∙ rw h (steps-enough (length text) (length (next text)) (next text) (omega (arith, less text h)) (omega arith))
