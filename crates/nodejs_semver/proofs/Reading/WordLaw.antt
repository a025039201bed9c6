-- The word that is computed is the one that is written, and the one that its sign tells.
use Rattle.nodejs_semver.proofs.Common.{Bool, Comparator, IfSome, IsSign, IsUtf8, List, None, Option, Partial, Sign, Some, Word, [], ap, arith}
use Rattle.nodejs_semver.proofs.Common.{bind_some, cases_Bool, component_front, cond_some, drop_spaces, drop_spaces-none, eqb-true, false}
use Rattle.nodejs_semver.proofs.Common.{from_boundary, hyphen, inl, inr, is_boundary, length, lt-ltb, nat_tests, partial_front, plain, refl}
use Rattle.nodejs_semver.proofs.Common.{same_Some, sign_at, space_len, subst, sym, tilde_sign, true, upper_of, word_at, ℕ, ◌++◌, ◌==◌, ◌||◌, ◌↔◌, ◌∙◌}
use Rattle.nodejs_semver.{proofs.{Common.{◌∷◌, ◌≡◌, ◌⊎◌}, Reading.PartialLaw.longest_are}, specs.Internal.Words.{at_boundary, behind_sign, careted}}
use Rattle.nodejs_semver.specs.Internal.Words.{comparator_at, compared, comparing, or_equal, or_malformed, signed_word, tilded, unsigned}
use Rattle.nodejs_semver.specs.{Internal.Words.{upper_behind, word_behind}, Text.{LongestText.IsLongestPartial, WordText.{IsBehind, IsForm}}}
use Rattle.nodejs_semver.specs.Text.WordText.{IsHyphen, IsWhole, IsWordAt, above_sign, at_least_sign, at_most_sign, below_sign, caret_form}
use Rattle.nodejs_semver.specs.Text.WordText.{compare_form, equal_sign, formed, hyphen_form, no_form, plain_form, tilde_form, tilde_greater_form}
use Rattle.semver_core.proofs.Reading.Boundaries.{blank-len, boundary-of, boundary-utf8, byte-is, first-is, first-of, skips-is, skips-of, skips-utf8}
use Rattle.semver_core.proofs.Reading.{Boundaries.{some_space-is, spaces-gone, suffix-boundary, tail-utf8}, Bytes.solid-dark, Steps.option-cases}
use Rattle.semver_core.specs.{Internal.{Boundaries.after_some_space, Fronts.{after_byte, number_of}, Reading.◌>>?◌}, Text.Boundaries.IsBoundary}
use Rattle.semver_core.specs.Text.Boundaries.{SkipsBlank}

-- ---- boundaries

rest-utf8 : (limit : ℕ) (text : List ℕ) (p : Partial) (rest : List ℕ) → IsUtf8 text → IsLongestPartial limit text p rest
    → IsBoundary rest → IsUtf8 rest
rest-utf8 limit text p rest u h b = boundary-utf8 h.0 rest (subst (λ (t : List ℕ). IsUtf8 t) h.1.0 u) b

-- ---- partials up to a boundary

-- the word of a partial that ends there
bounded-is : (limit : ℕ) (text : List ℕ) (p : Partial) (rest : List ℕ) (w : Word) (x : Word × List ℕ) → IsUtf8 text
    → IsLongestPartial limit text p rest → at_boundary w rest ≡ Some x → (x.0 ≡ w) × IsWhole limit text p x.1
bounded-is limit text p rest w x u read h =
    let b = cond_some (is_boundary rest) (w, rest) x h in
    let stop = suffix-boundary read.0 rest (rw read.1.0 at u) b.0 in
    rw (← b.1) (refl, record { read = read; ended = stop })

-- no partial begins with a byte of a sign
abbrev is_opening : ℕ → Bool
is_opening b = b == 126 || b == 94 || b == 62 || b == 60 || b == 61

opening-none : (limit b : ℕ) (rest : List ℕ) → is_opening b ≡ true → partial_front limit (b ∷ rest) ≡ None
unfolding partial_front component_front number_of
opening-none limit b rest h = grind (arith, nat_tests, drop_spaces-none, solid-dark)

pub unsigned-at : (limit : ℕ) (text : List ℕ) (x : Partial × List ℕ) → partial_front limit text ≡ Some x
    → sign_at text ≡ (unsigned, text)
unsigned-at limit text x h = grind (arith, nat_tests, opening-none)

-- ---- hyphens

hyphen-is : (limit : ℕ) (text : List ℕ) (p : Partial) (before : List ℕ) (x : Partial × List ℕ) → IsUtf8 text
    → IsLongestPartial limit text p before → upper_behind limit before ≡ Some x → IsHyphen limit text p x.0 x.1
hyphen-is limit text p before x u read h =
    let sign = bind_some (after_some_space before) _ x h in
    let s = some_space-is read.0 before sign.0 (subst (λ (t : List ℕ). IsUtf8 t) read.1.0 u) sign.1 in
    let gap = bind_some (after_byte 45 sign.0) _ x sign.2 in
    let dash = byte-is 45 sign.0 gap.0 gap.1 in
    let w = tail-utf8 45 gap.0 (omega arith) (subst (λ (t : List ℕ). IsUtf8 t) dash (skips-utf8 before sign.0 s.2 s.0)) in
    let second = bind_some (after_some_space gap.0) _ x gap.2 in
    let t = some_space-is [] gap.0 second.0 w second.1 in
    let v = skips-utf8 gap.0 second.0 t.2 w in
    let q = bind_some (partial_front limit second.0) _ x second.2 in
    let there = (longest_are limit second.0 q.0.0 q.0.1 v).0 q.1 in
    let b = cond_some (is_boundary q.0.1) q.0 x q.2 in
    let stop = suffix-boundary there.0 q.0.1 (subst (λ (t : List ℕ). IsUtf8 t) there.1.0 v) b.0 in
    let start : SkipsBlank before (45 ∷ gap.0) = rw dash at s.2 in
    rw (← b.1) (before, gap.0, read, s.1, start, t.1, (second.0, t.2, record { read = there; ended = stop }))

hyphen-of : (limit : ℕ) (text : List ℕ) (lower upper : Partial) (rest : List ℕ) → IsUtf8 text
    → (h : IsHyphen limit text lower upper rest) → upper_behind limit h.0 ≡ Some (upper, rest)
hyphen-of limit text lower upper rest u (before, after, first, space_before, dash, space_after, second) =
    let v = rest-utf8 limit text lower before u first (inr space_before) in
    let w = tail-utf8 45 after (omega arith) (skips-utf8 before (45 ∷ after) dash v) in
    let z = skips-utf8 after second.0 second.1 w in
    let read = (longest_are limit second.0 upper rest z).1 second.2.read in
    rw (lt-ltb 0 (space_len before) (blank-len before space_before), skips-of before (45 ∷ after) v dash)
    (rw (lt-ltb 0 (space_len after) (blank-len after space_after), skips-of after second.0 w second.1)
    (rw (read, boundary-of rest second.2.ended) refl))

-- ---- signs

or-equal : (one two : Comparator) (b : ℕ) (rest : List ℕ) → IsSign one (b ∷ []) → IsSign two (b ∷ 61 ∷ [])
    → (sign : List ℕ) × IsSign (or_equal one two rest).0 sign × (b ∷ rest ≡ sign ++ (or_equal one two rest).1)
or-equal one two b [] s t = (b ∷ [], s, refl)
or-equal one two b (d ∷ rest) s t = elim (cases_Bool (d == 61)) [
  | inl same ↦ rw same (b ∷ 61 ∷ [], t, rw (eqb-true d 61 same) refl)
  | inr other ↦ rw other (b ∷ [], s, refl)
]

abbrev pub Signed : List ℕ → Comparator × List ℕ → Type 0
Signed text c = (sign : List ℕ) × IsSign c.0 sign × (text ≡ sign ++ c.1)

sign-at : (text : List ℕ) → IfSome (comparator_at text) (Signed text)
sign-at [] = tt
sign-at (b ∷ rest) = grind (arith, or-equal, above_sign, at_least_sign, below_sign, at_most_sign, equal_sign)

pub sign-is : (text : List ℕ) (c : Comparator × List ℕ) → comparator_at text ≡ Some c → Signed text c
sign-is text c h = rw h at (sign-at text)

sign-utf8 : (c : Comparator) (sign text : List ℕ) → IsSign c sign → IsUtf8 (sign ++ text) → IsUtf8 text
sign-utf8 c sign text above_sign u = tail-utf8 62 text (omega arith) u
sign-utf8 c sign text at_least_sign u = tail-utf8 61 text (omega arith) (tail-utf8 62 (61 ∷ text) (omega arith) u)
sign-utf8 c sign text below_sign u = tail-utf8 60 text (omega arith) u
sign-utf8 c sign text at_most_sign u = tail-utf8 61 text (omega arith) (tail-utf8 60 (61 ∷ text) (omega arith) u)
sign-utf8 c sign text equal_sign u = tail-utf8 61 text (omega arith) u

spaces-again : (text : List ℕ) → drop_spaces (drop_spaces text) ≡ drop_spaces text
spaces-again text = drop_spaces-none (drop_spaces text) (spaces-gone 0 text)

-- ---- the form that is read is written

plain-is : (limit : ℕ) (text : List ℕ) (x : Word × List ℕ) → IsUtf8 text → behind_sign limit (unsigned, text) ≡ Some x
    → IsForm limit text x.0 x.1
plain-is limit text x u h =
    let p = bind_some (partial_front limit text) _ x h in
    let read = (longest_are limit text p.0.0 p.0.1 u).0 p.1 in
    elim (option-cases (upper_behind limit p.0.1)) [
      | inl none ↦
          let b = bounded-is limit text p.0.0 p.0.1 (plain p.0.0) x u read (rw none at p.2) in
          rw b.0 (plain_form text p.0.0 x.1 b.1 (no_hyphen p.0.0 p.0.1 p.1 none))
      | inr q ↦
          let e : (hyphen p.0.0 q.0.0, q.0.1) ≡ x = same_Some _ _ (rw q.1 at p.2) in
          rw (← e) (hyphen_form text p.0.0 q.0.0 q.0.1 (hyphen-is limit text p.0.0 p.0.1 q.0 u read q.1))
    ]
  where
    no_hyphen : (p : Partial) (rest : List ℕ) → partial_front limit text ≡ Some (p, rest) → upper_behind limit rest ≡ None
        → (lower upper : Partial) (other : List ℕ) → IsHyphen limit text lower upper other → ⊥
    no_hyphen p rest e none lower upper other j =
        let same = same_Some (p, rest) (lower, j.0) (sym e ∙ (longest_are limit text lower j.0 u).1 j.2) in
        cc (sym none ∙ (ap (λ (t : Partial × List ℕ). upper_behind limit t.1) same ∙ hyphen-of limit text lower upper other u j))

-- the partial behind a sign and whitespace
behind-is : (limit : ℕ) (text : List ℕ) (s : Sign) (x : Word × List ℕ) → IsUtf8 text → ((r : List ℕ) → upper_of limit s r ≡ None)
    → behind_sign limit (s, drop_spaces text) ≡ Some x → (p : Partial) × (x.0 ≡ signed_word s p) × IsBehind limit text p x.1
behind-is limit text s x u none h =
    let start = drop_spaces text in
    let p = bind_some (partial_front limit start) _ x h in
    let v = skips-utf8 text start (skips-is text u) u in
    let read = (longest_are limit start p.0.0 p.0.1 v).0 p.1 in
    let b = bounded-is limit start p.0.0 p.0.1 (signed_word s p.0.0) x v read (rw (none p.0.1) at p.2) in
    (p.0.0, b.0, (start, skips-is text u, b.1))

pub tilde-cases : (t : List ℕ) → (tilde_sign t ≡ (false, t)) ⊎ (y : List ℕ) × (t ≡ 62 ∷ y) × (tilde_sign t ≡ (true, y))
tilde-cases t = grind (arith, eqb-true)

tilde-is : (limit : ℕ) (rest : List ℕ) (x : Word × List ℕ) → IsUtf8 rest
    → behind_sign limit (tilded (tilde_sign (drop_spaces rest)).0, drop_spaces (tilde_sign (drop_spaces rest)).1) ≡ Some x
    → IsForm limit (126 ∷ rest) x.0 x.1
tilde-is limit rest x u h = elim (tilde-cases (drop_spaces rest)) [
  | inl alone ↦
      let b = behind-is limit rest (tilded false) x u (λ r. refl) (rw (alone, spaces-again rest) at h) in
      rw b.1 (tilde_form rest b.0 x.1 b.2)
  | inr more ↦
      let s = rw more.1 at (skips-is rest u) in
      let v = tail-utf8 62 more.0 (omega arith) (skips-utf8 rest (62 ∷ more.0) s u) in
      let b = behind-is limit more.0 (tilded true) x v (λ r. refl) (rw more.2 at h) in
      rw b.1 (tilde_greater_form rest more.0 b.0 x.1 s b.2)
]

form-is : (limit : ℕ) (text : List ℕ) (x : Word × List ℕ) → IsUtf8 text → behind_sign limit (sign_at text) ≡ Some x
    → IsForm limit text x.0 x.1
form-is limit [] x u h = plain-is limit [] x u h
form-is limit (b ∷ rest) x u h = elim (cases_Bool (b == 126)) [
  | inl same ↦
      let is = eqb-true b 126 same in
      rw is (tilde-is limit rest x (tail-utf8 b rest (omega arith) u) (rw same at h))
  | inr a ↦ elim (cases_Bool (b == 94)) [
    | inl same ↦
        let is = eqb-true b 94 same in
        let p = behind-is limit rest careted x (tail-utf8 b rest (omega arith) u) (λ r. refl) (rw (a, same) at h) in
        rw (is, p.1) (caret_form rest p.0 x.1 p.2)
    | inr c ↦ compared-at (comparator_at (b ∷ rest)) refl (rw (a, c) at h)
  ]
]
  where
    compared-at : (o : Option (Comparator × List ℕ)) → comparator_at (b ∷ rest) ≡ o
        → behind_sign limit (comparing o (b ∷ rest)) ≡ Some x → IsForm limit (b ∷ rest) x.0 x.1
    compared-at None e k = plain-is limit (b ∷ rest) x u k
    compared-at (Some c) e k =
        let s = sign-is (b ∷ rest) c e in
        let p = behind-is limit c.1 (compared c.0) x (sign-utf8 c.0 s.0 c.1 s.1 (rw s.2 at u)) (λ r. refl) k in
        rw (s.2, p.1) (compare_form c.0 s.0 c.1 p.0 x.1 s.1 p.2)

-- ---- the form that is written is read

behind-read : (limit : ℕ) (text : List ℕ) (p : Partial) (rest : List ℕ) → IsUtf8 text → IsBehind limit text p rest
    → partial_front limit (drop_spaces text) ≡ Some (p, rest)
behind-read limit text p rest u h =
    grind (arith, nat_tests, longest_are limit h.0 p rest (skips-utf8 text h.0 h.1 u), skips-utf8 text h.0 h.1 u, skips-of text h.0 u h.1)

alone : (one two : Comparator) (limit : ℕ) (text : List ℕ) (x : Partial × List ℕ)
    → partial_front limit (drop_spaces text) ≡ Some x → or_equal one two text ≡ (one, text)
alone one two limit text x h = grind (arith, opening-none, drop_spaces-none, solid-dark)

pub compared-of : (limit : ℕ) (c : Comparator) (sign text : List ℕ) (x : Partial × List ℕ) → IsSign c sign
    → partial_front limit (drop_spaces text) ≡ Some x → sign_at (sign ++ text) ≡ (compared c, drop_spaces text)
compared-of limit c sign text x h k = grind (arith, alone)

no_greater : (limit : ℕ) (text : List ℕ) (x : Partial × List ℕ) → partial_front limit text ≡ Some x
    → tilde_sign text ≡ (false, text)
no_greater limit text x h = grind (arith, nat_tests, opening-none)

form-of : (limit : ℕ) (text : List ℕ) (w : Word) (rest : List ℕ) → IsUtf8 text → IsForm limit text w rest
    → behind_sign limit (sign_at text) ≡ Some (w, rest)
form-of limit text w rest u (hyphen_form t lower upper r h) =
    let read = (longest_are limit t lower h.0 u).1 h.2 in
    rw (unsigned-at limit t (lower, h.0) read, read, hyphen-of limit t lower upper r u h) refl
form-of limit text w rest u (plain_form t p r h none) =
    let read = (longest_are limit t p r u).1 h.read in
    let alone : upper_behind limit r ≡ None = elim (option-cases (upper_behind limit r)) [
      | inl e ↦ e
      | inr x ↦ absurd (none p x.0.0 x.0.1 (hyphen-is limit t p r x.0 u h.read x.1))
    ] in
    rw (unsigned-at limit t (p, r) read, read, alone, boundary-of r h.ended) refl
form-of limit text w rest u (compare_form c sign t p r s h) =
    grind (arith, nat_tests, behind-read limit t p r (sign-utf8 c sign t s u) h, compared-of, boundary-of r h.2.ended, sign-utf8 c sign t s u)
form-of limit text w rest u (tilde_form t p r h) =
    let read = behind-read limit t p r (tail-utf8 126 t (omega arith) u) h in
    rw (no_greater limit (drop_spaces t) (p, r) read, spaces-again t, read, boundary-of r h.2.ended) refl
form-of limit text w rest u (tilde_greater_form t behind p r s h) =
    let v = tail-utf8 126 t (omega arith) u in
    let read = behind-read limit behind p r (tail-utf8 62 behind (omega arith) (skips-utf8 t (62 ∷ behind) s v)) h in
    rw (skips-of t (62 ∷ behind) v s, read, boundary-of r h.2.ended) refl
form-of limit text w rest u (caret_form t p r h) =
    rw (behind-read limit t p r (tail-utf8 94 t (omega arith) u) h, boundary-of r h.2.ended) refl

-- ---- the word

word-is : (limit : ℕ) (text : List ℕ) → IsUtf8 text → IsWordAt limit text (word_at limit text).0 (word_at limit text).1
unfolding word_at
word-is limit text u = elim (option-cases (behind_sign limit (sign_at text))) [
  | inl none ↦
      rw none (no_form text (from_boundary text) (λ w r k. cc (sym none ∙ form-of limit text w r u k)) (first-is [] text u))
  | inr x ↦ rw x.1 (formed text x.0.0 x.0.1 (form-is limit text x.0 u x.1))
]

word-of : (limit : ℕ) (text : List ℕ) (word : Word) (rest : List ℕ) → IsUtf8 text → IsWordAt limit text word rest → word_at limit text ≡ (word, rest)
unfolding word_at
word-of limit text word rest u (formed t w r h) = rw (form-of limit t w r u h) refl
word-of limit text word rest u (no_form t r none h) = elim (option-cases (behind_sign limit (sign_at t))) [
  | inl e ↦ rw (e, first-of t r u h) refl
  | inr x ↦ absurd (none x.0.0 x.0.1 (form-is limit t x.0 u x.1))
]

-- what follows a word is UTF-8
behind-utf8 : (limit : ℕ) (text : List ℕ) (p : Partial) (rest : List ℕ) → IsUtf8 text → IsBehind limit text p rest → IsUtf8 rest
behind-utf8 limit text p rest u h = rest-utf8 limit h.0 p rest (skips-utf8 text h.0 h.1 u) h.2.read h.2.ended

form-utf8 : (limit : ℕ) (text : List ℕ) (w : Word) (rest : List ℕ) → IsUtf8 text → IsForm limit text w rest → IsUtf8 rest
form-utf8 limit text w rest u (hyphen_form t lower upper r h) =
    let v = rest-utf8 limit t lower h.0 u h.2 (inr h.3) in
    behind-utf8 limit h.1 upper r (tail-utf8 45 h.1 (omega arith) (skips-utf8 h.0 (45 ∷ h.1) h.4 v)) h.6
form-utf8 limit text w rest u (plain_form t p r h none) = rest-utf8 limit t p r u h.read h.ended
form-utf8 limit text w rest u (compare_form c sign t p r s h) = behind-utf8 limit t p r (sign-utf8 c sign t s u) h
form-utf8 limit text w rest u (tilde_form t p r h) = behind-utf8 limit t p r (tail-utf8 126 t (omega arith) u) h
form-utf8 limit text w rest u (tilde_greater_form t behind p r s h) =
    behind-utf8 limit behind p r (tail-utf8 62 behind (omega arith) (skips-utf8 t (62 ∷ behind) s (tail-utf8 126 t (omega arith) u))) h
form-utf8 limit text w rest u (caret_form t p r h) = behind-utf8 limit t p r (tail-utf8 94 t (omega arith) u) h

pub word-utf8 : (limit : ℕ) (text : List ℕ) (w : Word) (rest : List ℕ) → IsUtf8 text → IsWordAt limit text w rest → IsUtf8 rest
word-utf8 limit text w rest u (formed t v r h) = form-utf8 limit t v r u h
word-utf8 limit text w rest u (no_form t r none h) =
    boundary-utf8 h.0 r (subst (λ (s : List ℕ). IsUtf8 s) h.1 u) h.2

pub words_are : (limit : ℕ) (text : List ℕ) (word : Word) (rest : List ℕ) → IsUtf8 text → (word_at limit text ≡ (word, rest)) ↔ IsWordAt limit text word rest
words_are limit text word rest u = (λ h. rw h at (word-is limit text u), word-of limit text word rest u)

-- ---- the word at the front of a text, by what was read of it

pub word-as : (limit : ℕ) (text : List ℕ) (s : Sign × List ℕ) (o : Option (Partial × List ℕ)) → s ≡ sign_at text
    → o ≡ partial_front limit s.1 → word_at limit text ≡ or_malformed (o >>? λ p. word_behind limit s.0 p.0 p.1) text
unfolding word_at
word-as limit text s o h k = grind arith

-- no second partial stands at the end of a part
pub upper_none : (limit : ℕ) (s : Sign) (rest : List ℕ) → length rest ≡ 0 → upper_of limit s rest ≡ None
unfolding space_len
upper_none limit s rest h = grind arith
