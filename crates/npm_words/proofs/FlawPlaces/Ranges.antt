-- The malformed word of a range text, and its first alternative that is malformed.
use Rattle.npm_words.proofs.Common.{AllByRecursion, AreAlternatives, Bool, Comparison, HasAlternativesIn, IsAlternative, IsCutAtBars, IsLeft}
use Rattle.npm_words.proofs.Common.{IsMalformedWord, IsUtf8, List, MAX_SAFE_INTEGER, NoValue, None, Option, Signed, Some, [], and_parts, ap}
use Rattle.npm_words.proofs.Common.{append-nil, arith, capped_partial, common_steps, cut_bars, drop, drop_spaces, false, here, is_empty, is_valid}
use Rattle.npm_words.proofs.Common.{length, length-append, list_all, marks_len, nat_tests, none, refl, signed_word, sym, true, ℕ, ◌++◌, ◌+◌, ◌<◌, ◌∙◌}
use Rattle.npm_words.proofs.{Common.{◌∷◌, ◌≡◌, ◌≤◌}, Grammar.{Printed.{capped-valid, table-invalid, valid-same}, Words.{WordAt, signed-found}}}
use Rattle.npm_words.{proofs.Grammar.Words.{strict-kept, word-read}, specs.{MalformedWords.{IsRightWord, on}, RangeFlaws.IsAlternativeText}}
use Rattle.npm_words.specs.{RangeFlaws.bytes_of, RangeText.{hyphen, next, words}, Table.{Partial, table}}
use Rattle.semver_core.proofs.Dividing.{BarLemmas.{cut_bars-front, parts_after}, BarsDivide.{bars_divide, pieces-utf8}}
use Rattle.semver_core.{proofs.Reading.Boundaries.{boundary-of, first-of, skips-is, skips-of, skips-utf8, spaces-le}, specs.Internal.Parts.front_part}
use Rattle.semver_core.specs.Text.Boundaries.{SkipsBlank}

-- of a list of which something is true, it is true of this element
pub middle : (P : List ℕ → Type 0) (front : List (List ℕ)) (p : List ℕ) (behind : List (List ℕ)) → AllByRecursion P (front ++ p ∷ behind) → P p
middle P [] p behind h = h.0
middle P (q ∷ front) p behind h = middle P front p behind h.1

pub bytes-append : (ps : List (List ℕ)) (p : List ℕ) → bytes_of (ps ++ p ∷ []) ≡ bytes_of ps + (length p + 2)
bytes-append [] p = omega arith
bytes-append (q ∷ ps) p = omega (arith, bytes-append ps p)

module _ (include : Bool) where
  abbrev Right : List ℕ → List ℕ → Type 0
  Right = IsRightWord MAX_SAFE_INTEGER include

  abbrev Left : List ℕ → List ℕ → Type 0
  Left = IsLeft MAX_SAFE_INTEGER include

  -- ---- one word

  right-at : (text behind : List ℕ) → IsUtf8 text → Right text behind
      → (w : Signed) × (signed_word false text ≡ Some (w, behind)) × WordAt false include text w behind
  right-at text behind u r =
      let w = word-read false include r.is.0 r.partial behind r.comparators r.is.2 (boundary-of behind r.is.3) in
      let read = ap (signed_word false) r.is.1 ∙ w.read in (w.word, read, signed-found false include text w.word behind u read)

  -- where none is read, there is none
  pub no-word : (text : List ℕ) → IsUtf8 text → signed_word false text ≡ None → NoValue (Right text)
  no-word text u e = λ behind r. let w = right-at text behind u r in cc (e, w.1)

  module _ (text : List ℕ) (w : Signed × List ℕ) (u : IsUtf8 text) (e : signed_word false text ≡ Some w) where
    abbrev Row : Partial → List Comparison
    Row p = table include w.0.0 p w.0.2

    pub wrong-word : list_all (is_valid MAX_SAFE_INTEGER) (Row (capped_partial w.0.1)) ≡ false → NoValue (Right text)
    wrong-word bad = λ behind r.
        let x = word-read false include r.is.0 r.partial behind r.comparators r.is.2 (boundary-of behind r.is.3) in
        grind (arith, capped-valid Row (λ p. table-invalid include w.0.0 p w.0.2) w.0.1, x.read, x.same, r.valid)

    pub right-word : list_all (is_valid MAX_SAFE_INTEGER) (Row (capped_partial w.0.1)) ≡ true → Right text w.1
    right-word good =
        let f = signed-found false include text w.0 w.1 u e in
        let same = valid-same Row (λ p. table-invalid include w.0.0 p w.0.2) w.0.1 good in
        record { partial = drop (marks_len w.0.2) w.0.2; comparators = Row w.0.1; is = f.is; valid = rw same at good }

  -- ---- the words before it

  left-more : (left text behind rest : List ℕ) → Left left text → Right left behind → SkipsBlank behind rest → Left rest text
  left-more left text behind rest here r s = on left behind rest r s here
  left-more left text behind rest (on t b x k z h) r s = on t b x k z (left-more left x behind rest h r s)

  -- one word more
  pub left-next : (text left behind : List ℕ) → IsUtf8 left → Left left text → Right left behind
      → (Left (drop_spaces behind) text × IsUtf8 (drop_spaces behind)) × (length (drop_spaces behind) < length left)
  left-next text left behind u h r =
      let w = (right-at left behind u r).2 in
      let s = skips-is behind w.utf8 in
      ((left-more left text behind _ h r s, skips-utf8 behind _ s w.utf8), omega (arith, w.shorter, spaces-le behind))

  pub left-fits : (left text : List ℕ) → Left left text → length left ≤ length text
  left-fits left text here = omega arith
  left-fits left text (on t b x r s h) = grind (arith, nat_tests, common_steps, length-append, left-fits left x h)

  left-once : (l m text : List ℕ) → IsUtf8 text → Left l text → Left m text → NoValue (Right l) → NoValue (Right m) → (l ≡ m) × IsUtf8 l
  left-once l m text u here here w z = (refl, u)
  left-once l m text u here (on t b x r s h) w z = absurd (w b r)
  left-once l m text u (on t b x r s h) here w z = absurd (z b r)
  left-once l m text u (on t b x r s h) (on t' c y q v k) w z =
      let f = right-at _ _ u r in
      let g = right-at _ _ u q in
      let rests : x ≡ y = grind (arith, skips-of _ _ f.2.utf8 s, skips-of _ _ g.2.utf8 v) in
      left-once _ _ _ (skips-utf8 _ _ s f.2.utf8) h (rw rests k) w z

  pub one_malformed_word : (text : List ℕ) (a b c d : ℕ) → IsUtf8 text → IsMalformedWord MAX_SAFE_INTEGER include text a b
      → IsMalformedWord MAX_SAFE_INTEGER include text c d → (a ≡ c) × (b ≡ d)
  one_malformed_word text a b c d u x y =
      let left = left-once x.left y.left text u x.right y.right x.wrong y.wrong in
      let behind : x.behind ≡ y.behind = sym (first-of x.left x.behind left.1 x.ended) ∙ first-of x.left y.behind left.1 (rw left.0 y.ended) in
      (omega (arith, x.start_is, y.start_is, ap length left.0), omega (arith, x.end_is, y.end_is, ap length behind))

  -- ---- one piece

  -- its comparators, valid ones
  abbrev pub IsPiece : List ℕ → Type 0
  IsPiece piece = (cs : List Comparison) × IsAlternativeText MAX_SAFE_INTEGER include piece cs

  -- strictly none is lost
  pub kept-strict : (text : List ℕ) (lost : Bool) (cs : List Comparison) → IsAlternative false include text lost cs → lost ≡ false
  kept-strict text lost cs (hyphen t h lower upper) = refl
  kept-strict text lost cs (words t read absent are) = strict-kept include t read are

  -- ---- all pieces

  all-right : (ps : List (List ℕ)) → AllByRecursion IsPiece ps
      → (ls : List (List Comparison)) × AreAlternatives false include ps ls × (list_all (list_all (is_valid MAX_SAFE_INTEGER)) ls ≡ true)
      × (is_empty ls ≡ is_empty ps)
  all-right [] h = ([], none, refl, refl)
  all-right (p ∷ ps) h =
      let more = all-right ps h.1 in
      let w = h.0.1 in (h.0.0 ∷ more.0, next p w.middle ps false h.0.0 more.0 w.is w.trimmed more.1, rw (w.valid, more.2) refl, refl)

  pub right-all : (ps : List (List ℕ)) (ls : List (List Comparison)) → AreAlternatives false include ps ls
      → list_all (list_all (is_valid MAX_SAFE_INTEGER)) ls ≡ true → AllByRecursion IsPiece ps
  right-all ps ls none v = tt
  right-all ps ls (next p text others lost cs rest is t more) v = grind (arith, kept-strict, and_parts, middle, right-all others rest more)

  -- these pieces were passed, and this is left
  pub record Passed (text : List ℕ) (rest : Option (List ℕ)) : Type 0 where
    pub front : List (List ℕ)
    pub divided : cut_bars false text ≡ front ++ parts_after rest
    pub right : AllByRecursion IsPiece front
    pub leaves : (left : List ℕ) → rest ≡ Some left → bytes_of front + length left ≡ length text

  pub passed_all : (text : List ℕ) → Passed text None → (ls : List (List Comparison)) × HasAlternativesIn false MAX_SAFE_INTEGER include text ls
  passed_all text h =
      let a = all-right (h.front ++ []) (rw (append-nil h.front) h.right) in
      let cut = rw h.divided at (bars_divide text) in
      (a.0, record { parts = h.front ++ []; divided = cut; each = a.1; some = a.3 ∙ grind (arith, cut); valid = a.2 })

  -- ---- a text has one such flaw

  -- the first pieces that are wrong are one
  pub one-piece : (xs : List (List ℕ)) (p : List ℕ) (us ys : List (List ℕ)) (q : List ℕ) (vs : List (List ℕ)) → AllByRecursion IsPiece xs
      → AllByRecursion IsPiece ys → NoValue (IsAlternativeText MAX_SAFE_INTEGER include p) → NoValue (IsAlternativeText MAX_SAFE_INTEGER include q)
      → xs ++ p ∷ us ≡ ys ++ q ∷ vs → (xs ≡ ys) × (p ≡ q)
  one-piece [] p us [] q vs h k w z e = (refl, cc e)
  one-piece [] p us (y ∷ ys) q vs h k w z e = let same : p ≡ y = cc e in absurd (w k.0.0 (rw same k.0.1))
  one-piece (x ∷ xs) p us [] q vs h k w z e = let same : x ≡ q = cc e in absurd (z h.0.0 (rw (sym same) h.0.1))
  one-piece (x ∷ xs) p us (y ∷ ys) q vs h k w z e = grind (arith, nat_tests, common_steps, one-piece xs p us ys q vs)

-- ---- the loop: what is read of the next piece

module _ (include : Bool) (text rest : List ℕ) (c : List ℕ × Option (List ℕ)) (h : Passed include text (Some rest)) (e : c ≡ front_part rest) where
  pub front-divides : cut_bars false text ≡ h.front ++ c.0 ∷ parts_after c.1
  front-divides = grind (arith, nat_tests, common_steps, cut_bars-front, parts_after)

  pub next-divides : IsCutAtBars text (h.front ++ c.0 ∷ parts_after c.1)
  next-divides = rw front-divides at (bars_divide text)

  -- a piece is UTF-8 as the text is
  pub next-utf8 : IsUtf8 text → IsUtf8 c.0
  next-utf8 u = middle IsUtf8 h.front c.0 (parts_after c.1) (pieces-utf8 _ _ next-divides u)
