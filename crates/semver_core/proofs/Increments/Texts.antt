-- A text compared with a printed list.
use Rattle.semver_core.proofs.Common.{AlphaNumeric, arith, nat_tests, Id, List, [], ap, bytes_eq, drop, false, length, ◌==◌, list_text}
use Rattle.semver_core.proofs.Common.{marked_list, refl, sym, take, true, ℕ, ◌&&◌, ◌++◌, ◌∙◌, ◌∷◌, ◌≡◌}
use Rattle.semver_core.proofs.Printing.Returns.{marked_first}

-- ---- what begins with a front is compared behind it

pub compared : (front text more : List ℕ) → bytes_eq text (front ++ more)
    ≡ (bytes_eq (take (length front) text) front && bytes_eq (drop (length front) text) more)
compared [] text more = refl
compared (c ∷ front) text more = grind (arith, compared front (drop 1 text) more)

-- ---- a list that is left, with its mark, begins with the mark and a text

module _ (mark rest word : List ℕ) (left others : List Id) (e : left ≡ AlphaNumeric word ∷ others) where
  whole : marked_list mark left ≡ mark ++ (word ++ marked_list (46 ∷ []) others)
  whole = ap (marked_list mark) e ∙ sym (marked_first mark (AlphaNumeric word) others)

  -- the mark does not begin the text, and what is behind it does not begin with the word
  pub no_mark : bytes_eq (take (length mark) rest) mark ≡ false → bytes_eq rest (marked_list mark left) ≡ false
  no_mark h = rw (whole, compared mark rest (word ++ marked_list (46 ∷ []) others), h) refl

  pub other_word : (behind : List ℕ) → behind ≡ drop (length mark) rest → bytes_eq (take (length word) behind) word ≡ false
      → bytes_eq rest (marked_list mark left) ≡ false
  other_word behind is h =
      let first = compared mark rest (word ++ marked_list (46 ∷ []) others) in
      let second = compared word behind (marked_list (46 ∷ []) others) in
      grind (arith, whole)

  pub word_behind : (behind ahead : List ℕ) → bytes_eq (take (length mark) rest) mark ≡ true → behind ≡ drop (length mark) rest
      → bytes_eq (take (length word) behind) word ≡ true → ahead ≡ drop (length word) behind
      → bytes_eq ahead (marked_list (46 ∷ []) others) ≡ bytes_eq rest (marked_list mark left)
  word_behind behind ahead marks is words goes =
      let first = compared mark rest (word ++ marked_list (46 ∷ []) others) in
      let second = compared word behind (marked_list (46 ∷ []) others) in
      grind (arith, whole)

-- all of a list is left, or nothing
pub whole_left : (ids : List Id) → marked_list [] ids ≡ list_text ids
whole_left ids = grind arith

pub none_left : (mark rest : List ℕ) (left : List Id) → left ≡ [] → (length rest == 0) ≡ bytes_eq rest (marked_list mark left)
none_left mark [] left e = rw e refl
none_left mark (c ∷ rest) left e = rw e (grind (arith, nat_tests))
