-- How many numbers of a partial are written `0`: strictly as many as are 0, so that node-semver's table goes by the values of the numbers.
use Rattle.npm_words.proofs.Common.{Bool, Comparison, Id, IsNumber, IsPlace, IsPlaces, IsStrictBuild, List, None, Numbers, Option, Some, VersionValue}
use Rattle.npm_words.proofs.Common.{[], and_parts, ap, append-nil, arith, at_least, begins, bytes_eq, bytes_eq-Decides, codes, common_steps, compared}
use Rattle.npm_words.proofs.Common.{digits_grow, drop, false, first, from, has_leading_zero, if◌then◌else◌, is_ascii_digit, is_release, length}
use Rattle.npm_words.proofs.Common.{list_all, major, nat_tests, not, partial_of, prefix_len, refl, subst, sym, take, take_at, take_rest, take_while}
use Rattle.npm_words.proofs.{Common.{true, under, whole, wildcard, ℕ, ◌&&◌, ◌++◌, ◌+◌, ◌-◌, ◌==◌, ◌∙◌, ◌∷◌, ◌≡◌}, Grammar.Runs.run-behind}
use Rattle.npm_words.specs.{Grammar.IsPreRelease, Internal.Parts.{AreZeros, is_padded}, Table.{Partial, Sign, caret, next, table, tilde, unbuilt}}
use Rattle.{npm_words.specs.Table.{written_zeros, zeros}, semver_core.{proofs.Reading.Numbers.digits-taken, specs.Text.Comparators.equal}}
use Rattle.std.proofs.lemmas.{Bool.le-ltb, List.drop-drop}
use Rattle.npm_words.specs.Partials as Text

-- ---- the text

abbrev no_digit : ℕ → Bool
no_digit b = not (is_ascii_digit b)

-- the number at the front is written `0`
abbrev pub zero_at : List ℕ → Bool
zero_at text = bytes_eq (take_while is_ascii_digit text) (codes "0")

abbrev counted : Bool → Bool → Bool → ℕ
counted a b c = if a then (if b then (if c then 3 else 2) else 1) else 0

pub zeros_counted : (text numbers : List ℕ) → numbers ≡ drop (prefix_len no_digit text) text
    → written_zeros text ≡ counted (zero_at numbers) (zero_at (drop 2 numbers)) (zero_at (drop 2 (drop 2 numbers)))
unfolding written_zeros
zeros_counted text numbers e = rw (← e, drop-drop 2 2 numbers) (grind (arith, nat_tests))

-- the same, as it is cut out
pub zeros_taken : (text numbers : List ℕ) (at : ℕ) → at ≡ prefix_len no_digit text → numbers ≡ take (length text - at) (drop at text)
    → written_zeros text ≡ counted (zero_at numbers) (zero_at (drop 2 numbers)) (zero_at (drop 2 (drop 2 numbers)))
zeros_taken text numbers at e f = zeros_counted text numbers (f ∙ take_rest text at ∙ ap (λ n. drop n text) e)

-- marks in front do not count
pub zeros-marked : (marks x : List ℕ) → list_all no_digit marks ≡ true → written_zeros (marks ++ x) ≡ written_zeros x
zeros-marked marks x h = zeros_counted (marks ++ x) _ (sym (run-behind no_digit marks x h)) ∙ sym (zeros_counted x _ refl)

-- ---- strictly zero is written `0`

digits-zero : (digits : List ℕ) (n : ℕ) → IsNumber n digits n → has_leading_zero digits ≡ false → bytes_eq digits (codes "0") ≡ (n == 0)
digits-zero [] n k h = absurd (omega (arith, k.some))
digits-zero (c ∷ digits) n k h = grind (arith, nat_tests, common_steps, and_parts, digits_grow)

abbrev is_zero_place : Option ℕ → Bool
is_zero_place a = elim a [ None ↦ false | Some n ↦ n == 0 ]

zero-place : (x more : List ℕ) (a : Option ℕ) → IsPlace false x a → begins is_ascii_digit more ≡ false → zero_at (x ++ more) ≡ is_zero_place a
zero-place x more a (Text.any b h) stop = grind (arith, nat_tests, common_steps)
zero-place x more a (Text.number digits n k spelled short) stop = grind (arith, nat_tests, common_steps, digits-taken, take_at, digits-zero)

-- a zero is one character
zero-alone : (x : List ℕ) (n : ℕ) → IsPlace false x (Some n) → (n == 0) ≡ true → x ≡ codes "0"
zero-alone x n (Text.number digits m k spelled short) h = (bytes_eq-Decides digits (codes "0")).0 (digits-zero digits m k (grind arith) ∙ h)

behind-quiet : (wild : Bool) (fits : List ℕ → Bool) (pre build : List ℕ) (l m : List Id) → IsPreRelease false wild fits pre l → IsStrictBuild build m
    → begins is_ascii_digit (pre ++ build) ≡ false
behind-quiet wild fits pre build l m h k = grind (arith, nat_tests, common_steps)

place-first : (x more : List ℕ) (n : ℕ) → IsPlace false x (Some n) → drop (prefix_len no_digit (x ++ more)) (x ++ more) ≡ x ++ more
place-first x more n (Text.number digits m k spelled short) = grind (arith, nat_tests, common_steps, and_parts, k.some, k.each)

-- the zeros of the places behind a number
zeros-behind : (x rest : List ℕ) (n : ℕ) → IsPlace false x (Some n) → begins is_ascii_digit rest ≡ false
    → written_zeros (x ++ rest) ≡ counted (n == 0) (zero_at (drop 1 rest)) (zero_at (drop 3 rest))
zeros-behind x rest n h stop =
    grind (arith, zeros_counted (x ++ rest) (x ++ rest), place-first x rest n h, zero-place x rest (Some n) h stop, zero-alone x n h, drop-drop 2 2 (48 ∷ rest))

zeros_of : Option ℕ → Option ℕ → Option ℕ → ℕ
zeros_of a b c = counted (is_zero_place a) (is_zero_place b) (is_zero_place c)

-- the second place, and what stands behind it
zeros-dotted : (x y rest : List ℕ) (n : ℕ) (b c : Option ℕ) → IsPlace false x (Some n) → IsPlace false y b → begins is_ascii_digit rest ≡ false
    → (is_zero_place b ≡ true → zero_at (drop 1 rest) ≡ is_zero_place c)
    → written_zeros (x ++ (46 ∷ (y ++ rest))) ≡ zeros_of (Some n) b c
unfolding zeros_of
zeros-dotted x y rest n b c h k stop f =
    let first = zeros-behind x (46 ∷ (y ++ rest)) n h refl in
    let second = zero-place y rest b k stop in
    grind (arith, zero-alone y)

zeros-partial : (n : ℕ) (b c : Option ℕ) (l m : List Id) → zeros_of (Some n) b c ≡ zeros (partial_of (Some n) b c l m)
unfolding zeros_of
zeros-partial n b c l m = grind (arith, nat_tests)

-- strictly the table's numbers are written as they are
pub strict-zeros : (x : List ℕ) (p : Partial) → IsPlaces false x p → AreZeros p (zeros p) x
strict-zeros x p (Text.one x1 (Some n) h) w =
    let here : zeros (major n) ≡ counted (n == 0) false false = grind (arith, nat_tests) in
    here ∙ sym (rw append-nil at (zeros-behind x1 [] n h refl))
strict-zeros x p (Text.two x1 y (Some n) b h k) w =
    sym (subst (λ (t : List ℕ). written_zeros (x1 ++ (46 ∷ t)) ≡ zeros (partial_of (Some n) b None [] [])) (append-nil y)
    (zeros-dotted x1 y [] n b None h k refl (λ _. refl) ∙ zeros-partial n b None [] []))
strict-zeros x p (Text.three x1 y z pre build (Some a) b c ids builds h k l m n t) w =
    grind (arith, nat_tests, common_steps, zeros-dotted, zero-place, behind-quiet, zeros-partial)
strict-zeros x p h w = cc w

pub padded-same : (text : List ℕ) (p : Partial) (z : ℕ) → AreZeros p z text → is_padded z p ≡ is_padded (written_zeros text) p
padded-same text p z e = grind (arith, nat_tests)

self-padded : (p : Partial) → is_padded (zeros p) p ≡ false
self-padded p = le-ltb (zeros p) (zeros p) (omega arith)

pub strict-unpadded : (text : List ℕ) (p : Partial) → IsPlaces false text p → false ≡ is_padded (written_zeros text) p
strict-unpadded text p h = sym (self-padded p) ∙ padded-same text p (zeros p) (strict-zeros text p h)

-- ---- the table by the values of the numbers

abbrev pub plain_changed : Partial → Numbers
plain_changed p = if not ((first p).0 == 0) then ((first p).0 + 1, 0, 0)
    else elim p [ whole v ↦ if v.minor == 0 then (0, 0, v.patch + 1) else next (whole v) | q ↦ next q ]

abbrev pub plain_from : Bool → VersionValue → Comparison
plain_from include v = if include && (is_release v && (v.major == 0)) then from true (first (whole v)) else unbuilt at_least v

abbrev pub plain_table : Bool → Sign → Partial → List ℕ → List Comparison
plain_table include s wildcard text = table include s wildcard text
plain_table include caret (whole v) text = plain_from include v ∷ (under (plain_changed (whole v)) ∷ [])
plain_table include tilde (whole v) text = unbuilt at_least v ∷ (under (next (whole v)) ∷ [])
plain_table include (compared c) (whole v) text = table include (compared c) (whole v) text
plain_table include caret p text = from include (first p) ∷ (under (plain_changed p) ∷ [])
plain_table include tilde p text = from false (first p) ∷ (under (next p) ∷ [])
plain_table include (compared equal) p text = from include (first p) ∷ (under (next p) ∷ [])
plain_table include (compared at_least) p text = from include (first p) ∷ []
plain_table include (compared c) p text = table include (compared c) p text

pub rows-plain : (include : Bool) (text : List ℕ) (s : Sign) (p : Partial) → AreZeros p (zeros p) text → table include s p text ≡ plain_table include s p text
rows-plain include text s p h = grind (arith, nat_tests, common_steps, self-padded)
