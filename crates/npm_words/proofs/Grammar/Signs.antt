-- The signs of node-semver's words, with the whitespace behind them: what is read is written, and what is written is read.
use Rattle.npm_words.proofs.Common.{Bool, Comparator, IsBlank, IsSignText, IsUtf8, List, [], above, all_weaker, and_parts, ap, append_assoc}
use Rattle.npm_words.proofs.Common.{are_marks, arith, at_least, begins_byte, caret_equal, cases_Bool, common_steps, compared, drop, drop_spaces}
use Rattle.npm_words.proofs.Common.{drop_spaces-blank, drop_spaces-none, encode_utf8_all, eqb-true, equal, false, if◌then◌else◌, inl, inr}
use Rattle.npm_words.proofs.Common.{is_ascii_digit, is_empty, is_mark, is_whitespace, late_above, late_below, len_utf8_bounds, length, list_all}
use Rattle.npm_words.proofs.Common.{nat_lt, nat_tests, no_sign, not, npm_sign, or_late, refl, sign, skip_equal, skip_greater, skip_tilde, space_len}
use Rattle.npm_words.proofs.Common.{space_len-white, spelling, subst, tilde_twice, true, ℕ, ◌&&◌, ◌++◌, ◌<◌, ◌==◌, ◌||◌, ◌∙◌, ◌∷◌, ◌≡◌, ◌⊎◌}
use Rattle.npm_words.{proofs.Grammar.Zeros.zeros-marked, specs.{Internal.Words.skip_twice, RangeText.tilde_sign, Table.{Partial, Sign, caret, table}}}
use Rattle.{npm_words.specs.Table.{tilde, written_zeros}, semver_core.proofs.Reading.Boundaries.{skips-is, skips-utf8, tail-utf8}}
use Rattle.semver_core.proofs.Reading.{Bytes.{begins_component, is_solid, solid-dark}, Qualifiers.byte-begins}

-- ---- whitespace

-- the whitespace at the front, and the text behind it
pub record BlankAt (text : List ℕ) : Type 0 where
  pub blank : List ℕ
  pub is : IsBlank blank
  pub split : text ≡ blank ++ drop_spaces text
  pub utf8 : IsUtf8 (drop_spaces text)

pub blank-at : (text : List ℕ) → IsUtf8 text → BlankAt text
blank-at text u =
    let s = skips-is text u in
    record { blank = s.0; is = s.2; split = s.1; utf8 = skips-utf8 text (drop_spaces text) s u }

-- the text behind a byte, and the whitespace there
behind-byte : (c : ℕ) (text : List ℕ) → c < 128 → IsUtf8 text → begins_byte c text ≡ true → IsUtf8 (drop 1 text)
behind-byte c text low u mark = tail-utf8 c (drop 1 text) low (subst (λ (t : List ℕ). IsUtf8 t) (byte-begins c text mark) u)

blank-behind : (text : List ℕ) → IsUtf8 text → begins_byte 61 text ≡ true → BlankAt (drop 1 text)
blank-behind text u mark = blank-at (drop 1 text) (behind-byte 61 text (omega arith) u mark)

pub blank-nil : IsBlank []
blank-nil = record { characters = []; each = refl; spelled = refl }

-- ---- a sign that was read

pub record SignAt (text : List ℕ) (s : Sign) (rest : List ℕ) : Type 0 where
  pub signs : List ℕ
  pub split : text ≡ signs ++ rest
  pub is : IsSignText signs s
  pub utf8 : IsUtf8 rest

abbrev SignRead : List ℕ → Sign × List ℕ → Type 0
SignRead text r = SignAt text r.0 r.1

-- a character, whitespace, `=` or nothing, and whitespace
equal-found : (b : ℕ) (x text : List ℕ) (s : Sign) → IsBlank x → IsUtf8 text → IsSignText (b ∷ x) s
    → ((y : List ℕ) → IsBlank y → IsSignText (b ∷ (x ++ 61 ∷ y)) s) → SignAt (b ∷ (x ++ text)) s (skip_equal text)
equal-found b x text s blank u bare more = elim (cases_Bool (begins_byte 61 text)) [
  | inr other ↦ rw other (record { signs = b ∷ x; split = refl; is = bare; utf8 = u })
  | inl mark ↦ let y = blank-behind text u mark in let is = more y.blank y.is in grind (arith, nat_tests, common_steps, append_assoc)
]

-- `>` or `<`, behind which `=` may stand, also late
late-found : (b : ℕ) (one two : Comparator) (text : List ℕ) → IsUtf8 text
    → ((x : List ℕ) → IsBlank x → IsSignText (b ∷ x) (compared one)) → ((x : List ℕ) → IsBlank x → IsSignText (b ∷ (61 ∷ x)) (compared two))
    → ((x : List ℕ) → IsBlank x → IsSignText (b ∷ (x ++ 61 ∷ [])) (compared two))
    → SignRead (b ∷ text) (or_late one two text (drop_spaces text))
late-found b one two text u is_one is_two is_late =
    let x = blank-at text u in
    let one_is = is_one x.blank x.is in
    let late_is = is_late x.blank x.is in
    let behind = behind-byte 61 (drop_spaces text) (omega arith) x.utf8 in
    elim (cases_Bool (begins_byte 61 text)) [
      | inl mark ↦ let y = blank-behind text u mark in let is = is_two y.blank y.is in grind (arith, nat_tests, common_steps)
      | inr other ↦ grind (arith, nat_tests, common_steps, append_assoc)
    ]

-- `>` or `>=`, and whitespace
record GreaterAt (text rest : List ℕ) : Type 0 where
  sign_is : Comparator
  either : (sign_is ≡ above) ⊎ (sign_is ≡ at_least)
  blank : List ℕ
  is : IsBlank blank
  split : text ≡ (spelling (compared sign_is) ++ blank) ++ rest
  utf8 : IsUtf8 rest

greater-found : (text : List ℕ) → IsUtf8 text → GreaterAt (62 ∷ text) (skip_greater text)
greater-found text u = elim (cases_Bool (begins_byte 61 text)) [
  | inl mark ↦
      let y = blank-behind text u mark in
      let split = byte-begins 61 text mark ∙ ap (λ (t : List ℕ). 61 ∷ t) y.split in
      rw mark (record { sign_is = at_least; either = inr refl; blank = y.blank; is = y.is; split = ap (λ (t : List ℕ). 62 ∷ t) split; utf8 = y.utf8 })
  | inr other ↦
      let y = blank-at text u in
      rw other (record { sign_is = above; either = inl refl; blank = y.blank; is = y.is; split = ap (λ (t : List ℕ). 62 ∷ t) y.split; utf8 = y.utf8 })
]

-- `~`, whitespace, and `>` or `>=`
tilde-greater : (x text : List ℕ) → IsBlank x → IsUtf8 text → SignAt (126 ∷ (x ++ (62 ∷ text))) tilde (skip_greater text)
tilde-greater x text blank u =
    let g = greater-found text u in
    let which = elim g.either as (λ _. (g.sign_is ≡ above) ⊎ (g.sign_is ≡ at_least) ⊎ (g.sign_is ≡ equal)) [ inl e ↦ inl e | inr e ↦ inr (inl e) ] in
    let is = tilde_sign g.sign_is x g.blank blank g.is which in
    grind (arith, nat_tests, common_steps, append_assoc)

some-blank : (text x rest : List ℕ) → nat_lt 0 (space_len text) ≡ true → text ≡ x ++ (62 ∷ rest) → 0 < length x
unfolding space_len
some-blank text x rest h e = grind (arith, nat_tests, common_steps)

-- behind `~>`
twice-found : (text : List ℕ) → IsUtf8 text → SignAt (126 ∷ (62 ∷ text)) tilde (skip_twice text (drop_spaces text))
twice-found text u = elim (cases_Bool (nat_lt 0 (space_len text) && begins_byte 62 (drop_spaces text))) [
  | inr other ↦ rw other (tilde-greater [] text blank-nil u)
  | inl more ↦
      let parts = and_parts (nat_lt 0 (space_len text)) (begins_byte 62 (drop_spaces text)) more in
      let x = blank-at text u in
      let whole = x.split ∙ ap (λ (t : List ℕ). x.blank ++ t) (byte-begins 62 (drop_spaces text) parts.1) in
      let g = greater-found _ (behind-byte 62 (drop_spaces text) (omega arith) x.utf8 parts.1) in
      let is = tilde_twice g.sign_is x.blank g.blank x.is (some-blank text x.blank _ parts.0 whole) g.is g.either in
      grind (arith, nat_tests, common_steps, append_assoc)
]

tilde-found : (text : List ℕ) → IsUtf8 text → SignAt (126 ∷ text) tilde (skip_tilde text (drop_spaces text))
tilde-found text u =
    let x = blank-at text u in
    elim (cases_Bool (begins_byte 62 text)) [
      | inl mark ↦ let f = twice-found _ (behind-byte 62 text (omega arith) u mark) in grind (arith, nat_tests, common_steps)
      | inr other ↦ elim (cases_Bool (begins_byte 62 (drop_spaces text))) [
        | inl mark ↦ let f = tilde-greater _ _ x.is (behind-byte 62 (drop_spaces text) (omega arith) x.utf8 mark) in grind (arith, nat_tests, common_steps)
        | inr none ↦
            let f = equal-found _ _ _ _ x.is x.utf8 (sign tilde x.blank x.is) (λ y h. tilde_sign equal x.blank y x.is h (inr (inr refl))) in
            grind (arith, nat_tests, common_steps)
      ]
    ]

caret-found : (text : List ℕ) → IsUtf8 text → SignAt (94 ∷ text) caret (skip_equal (drop_spaces text))
caret-found text u =
    let x = blank-at text u in
    let f = equal-found 94 x.blank (drop_spaces text) caret x.is x.utf8 (sign caret x.blank x.is) (λ y h. caret_equal x.blank y x.is h) in
    grind (arith, common_steps)

plain-found : (text : List ℕ) → IsUtf8 text → SignAt (61 ∷ text) (compared equal) (drop_spaces text)
plain-found text u = let x = blank-at text u in let is = sign (compared equal) x.blank x.is in grind (arith, common_steps)

-- the same of a character that is this one or another
on-byte : (b k : ℕ) (rest : List ℕ) (r s : Sign × List ℕ) → k < 128 → IsUtf8 (b ∷ rest) → (IsUtf8 rest → SignRead (k ∷ rest) r)
    → SignRead (b ∷ rest) s → SignRead (b ∷ rest) (if b == k then r else s)
on-byte b k rest r s low u f other = grind (arith, nat_tests, eqb-true, tail-utf8 k rest low)

pub sign-found : (text : List ℕ) → IsUtf8 text → SignAt text (npm_sign text).0 (npm_sign text).1
unfolding npm_sign
sign-found [] u = record { signs = []; split = refl; is = no_sign; utf8 = u }
sign-found (b ∷ rest) u =
    on-byte _ _ _ _ _ (omega arith) u (λ v. late-found _ _ _ _ v (sign (compared _)) (sign (compared _)) late_above)
    (on-byte _ _ _ _ _ (omega arith) u (λ v. late-found _ _ _ _ v (sign (compared _)) (sign (compared _)) late_below)
    (on-byte _ _ _ _ _ (omega arith) u (plain-found _) (on-byte _ _ _ _ _ (omega arith) u (caret-found _)
    (on-byte _ _ _ _ _ (omega arith) u (tilde-found _) (record { signs = []; split = refl; is = no_sign; utf8 = u })))))

-- ---- the signs of words before marks and a partial: what is written is read, or means the same. First whitespace.

-- the text is empty, or whitespace stands at the front of it, whatever follows
pub blank-cases : (x : List ℕ) → IsBlank x → (x ≡ []) ⊎ ((rest : List ℕ) → 0 < space_len (x ++ rest))
blank-cases x h = go h.characters h.each h.spelled
  where
    go : (cs : List ℕ) → list_all is_whitespace cs ≡ true → x ≡ encode_utf8_all cs → (x ≡ []) ⊎ ((rest : List ℕ) → 0 < space_len (x ++ rest))
    go [] each e = inl e
    go (c ∷ cs) each e = grind (arith, nat_tests, common_steps, and_parts, append_assoc, space_len-white, len_utf8_bounds)

pub blank-skipped : (x text : List ℕ) → IsBlank x → space_len text ≡ 0 → drop_spaces (x ++ text) ≡ text
blank-skipped x text h dark = grind (arith, nat_tests, common_steps, drop_spaces-blank, drop_spaces-none)

space-byte : (c : ℕ) (text : List ℕ) → is_solid c ≡ true → 0 < space_len text → begins_byte c text ≡ false
space-byte c text s h = grind (arith, nat_tests, common_steps, solid-dark, eqb-true)

pub blank-byte : (c : ℕ) (x text : List ℕ) → is_solid c ≡ true → IsBlank x → begins_byte c text ≡ false → begins_byte c (x ++ text) ≡ false
blank-byte c x text s h other = grind (arith, blank-cases x h, space-byte)

-- ---- marks before a partial

-- whitespace is not at the front of these, nor is `>`
opens : (marks u : List ℕ) → list_all is_mark marks ≡ true → begins_component u ≡ true → (space_len (marks ++ u) ≡ 0) × (begins_byte 62 (marks ++ u) ≡ false)
opens [] u h k = (solid-dark u (grind (arith, nat_tests)), grind (arith, nat_tests))
opens (b ∷ marks) u h k = (solid-dark _ (grind (arith, nat_tests)), grind (arith, nat_tests))

component-other : (u : List ℕ) → begins_component u ≡ true → begins_byte 61 u ≡ false
component-other u h = grind (arith, nat_tests)

-- some of the marks are left
record MarksLeft (text u : List ℕ) : Type 0 where
  left : List ℕ
  is : text ≡ left ++ u
  each : list_all is_mark left ≡ true

equal-left : (marks u : List ℕ) → list_all is_mark marks ≡ true → begins_component u ≡ true → MarksLeft (skip_equal (marks ++ u)) u
equal-left [] u h k = rw (component-other u k) (record { left = []; is = refl; each = refl })
equal-left (b ∷ marks) u h k = elim (cases_Bool (b == 61)) [
  | inr other ↦ rw other (record { left = b ∷ marks; is = refl; each = h })
  | inl mark ↦ grind (arith, nat_tests, common_steps, and_parts, drop_spaces-none, opens)
]

-- behind `>` and whitespace
greater-left : (y marks u : List ℕ) → IsBlank y → list_all is_mark marks ≡ true → begins_component u ≡ true → MarksLeft (skip_greater (y ++ (marks ++ u))) u
greater-left y marks u blank h k =
    let o = opens marks u h k in
    let same : skip_greater (marks ++ u) ≡ skip_equal (marks ++ u) = grind (arith, nat_tests, common_steps, drop_spaces-none) in
    elim (blank-cases y blank) [
      | inr some ↦ grind (arith, nat_tests, common_steps, space-byte, blank-skipped)
      | inl none ↦ rw (none, same) (equal-left marks u h k)
    ]

-- ---- a sign, as it is read

-- read as it is written, or with other marks, to the same comparators
pub record SignTaken (loose : Bool) (s : Sign) (p : Partial) (marks x : List ℕ) (r : Sign × List ℕ) (u : List ℕ) : Type 0 where
  pub left : List ℕ
  pub is : r.1 ≡ left ++ u
  pub marked : are_marks loose r.0 p left ≡ true
  pub same : (include : Bool) → table include r.0 p (left ++ x) ≡ table include s p (marks ++ x)

-- marks are no digits, so that with other ones as many numbers are written `0`
zeros-behind : (marks x : List ℕ) → list_all is_mark marks ≡ true → written_zeros (marks ++ x) ≡ written_zeros x
zeros-behind marks x h = zeros-marked marks x (all_weaker is_mark (λ b. not (is_ascii_digit b)) (λ b k. grind (arith, nat_tests)) marks h)

free-taken : (loose : Bool) (s : Sign) (p : Partial) (marks x text u : List ℕ) → (s ≡ caret) ⊎ (s ≡ tilde) → list_all is_mark marks ≡ true
    → MarksLeft text u → SignTaken loose s p marks x (s, text) u
free-taken loose s p marks x text u i h l = grind (arith, nat_tests, common_steps, zeros-behind)

kept : (loose : Bool) (s : Sign) (p : Partial) (marks x text u : List ℕ) → text ≡ marks ++ u → are_marks loose s p marks ≡ true
    → SignTaken loose s p marks x (s, text) u
kept loose s p marks x text u e h = record { left = marks; is = e; marked = h; same = λ include. refl }

pub marks-all : (loose : Bool) (s : Sign) (p : Partial) (marks : List ℕ) → are_marks loose s p marks ≡ true → list_all is_mark marks ≡ true
marks-all loose s p marks h = grind (arith, nat_tests, common_steps)

-- behind this sign no `=` stands first among the marks
abbrev pub is_open : Sign → Bool
is_open s = list_all (λ b. b == 60 || b == 62) (spelling s)

pub open-first : (text : List ℕ) → is_open (npm_sign text).0 ≡ true → begins_byte 61 (npm_sign text).1 ≡ false
unfolding npm_sign
open-first text h = grind (arith, nat_tests, common_steps)

not-other : (marks u : List ℕ) → begins_byte 61 marks ≡ false → begins_component u ≡ true → begins_byte 61 (marks ++ u) ≡ false
not-other marks u h k = grind (arith, nat_tests, common_steps)

-- ---- no sign

plain-front : (b : ℕ) (rest : List ℕ) → (is_mark b || begins_component (b ∷ rest)) ≡ true → (b == 61) ≡ false → npm_sign (b ∷ rest) ≡ (compared equal, b ∷ rest)
unfolding npm_sign
plain-front b rest h other = grind (arith, nat_tests)

abbrev pub Taken : (loose : Bool) → Sign → Partial → List ℕ → List ℕ → List ℕ → List ℕ → Type 0
Taken loose s p marks x u text = SignTaken loose s p marks x (npm_sign text) u

-- ---- behind a tilde

-- no `>` stands there
no_greater-left : (x t : List ℕ) → IsBlank x → space_len t ≡ 0 → begins_byte 62 t ≡ false → skip_tilde (x ++ t) (drop_spaces (x ++ t)) ≡ skip_equal t
no_greater-left x t h dark other = rw (blank-skipped x t h dark, blank-byte 62 x t refl h other, other) refl

dark-byte : (b : ℕ) (rest : List ℕ) → is_solid b ≡ true → space_len (b ∷ rest) ≡ 0
dark-byte b rest h = solid-dark (b ∷ rest) h

-- one `>` stands there
one_greater-left : (x t rest : List ℕ) → IsBlank x → drop_spaces t ≡ rest → begins_byte 62 rest ≡ false
    → skip_tilde (x ++ (62 ∷ t)) (drop_spaces (x ++ (62 ∷ t))) ≡ skip_greater t
one_greater-left x t rest h e other = grind (arith, blank-cases, blank-skipped, dark-byte, space-byte)

-- `~>` and one `>` more
twice-left : (y v : List ℕ) → IsBlank y → 0 < length y → skip_tilde (62 ∷ (y ++ (62 ∷ v))) (drop_spaces (62 ∷ (y ++ (62 ∷ v)))) ≡ skip_greater v
twice-left y v h some = grind (arith, nat_tests, common_steps, blank-cases, blank-skipped, dark-byte)

-- ---- `>` and `<`

one-read : (one two : Comparator) (y t : List ℕ) → IsBlank y → space_len t ≡ 0 → begins_byte 61 t ≡ false
    → or_late one two (y ++ t) (drop_spaces (y ++ t)) ≡ (compared one, t)
one-read one two y t h dark other = rw (blank-byte 61 y t refl h other, blank-skipped y t h dark, other) refl

-- ---- what is written is read

signed-taken : (loose : Bool) (s : Sign) (p : Partial) (y marks x u : List ℕ) → IsBlank y → are_marks loose s p marks ≡ true
    → (is_open s && begins_byte 61 marks) ≡ false → begins_component u ≡ true → Taken loose s p marks x u ((spelling s ++ y) ++ (marks ++ u))
unfolding npm_sign
signed-taken loose (compared c) p y marks x u h m none k =
    grind (arith, nat_tests, common_steps, opens, marks-all, one-read, not-other, eqb-true, kept, blank-skipped)
signed-taken loose caret p y marks x u h m none k = grind (arith, marks-all, blank-skipped, opens, free-taken, equal-left)
signed-taken loose tilde p y marks x u h m none k =
    let all = marks-all loose tilde p marks m in
    let o = opens marks u all k in
    rw (no_greater-left y (marks ++ u) h o.0 o.1)
    (free-taken loose tilde p marks x (skip_equal (marks ++ u)) u (inr refl) all (equal-left marks u all k))

bare-taken : (loose : Bool) (p : Partial) (marks x u : List ℕ) → are_marks loose (compared equal) p marks ≡ true → begins_byte 61 marks ≡ false
    → begins_component u ≡ true → Taken loose (compared equal) p marks x u (marks ++ u)
bare-taken loose p marks x u m none k = grind (arith, plain-front, component-other, and_parts, marks-all)

pub sign-taken : (loose : Bool) (signs : List ℕ) (s : Sign) (p : Partial) (marks x u : List ℕ) → IsSignText signs s → are_marks loose s p marks ≡ true
    → ((is_empty signs || is_open s) && begins_byte 61 marks) ≡ false → begins_component u ≡ true → Taken loose s p marks x u (signs ++ (marks ++ u))
unfolding npm_sign
sign-taken loose signs s p marks x u no_sign m none k = bare-taken loose p marks x u m none k
sign-taken loose signs s p marks x u (sign t y h) m none k = signed-taken loose t p y marks x u h m (grind arith) k
sign-taken loose signs s p marks x u (late_above y h) m none k =
    grind (arith, nat_tests, common_steps, opens, marks-all, append_assoc, blank-cases, drop_spaces-none, space-byte, blank-skipped, dark-byte, kept)
sign-taken loose signs s p marks x u (late_below y h) m none k =
    grind (arith, nat_tests, common_steps, opens, marks-all, append_assoc, blank-cases, drop_spaces-none, space-byte, blank-skipped, dark-byte, kept)
sign-taken loose signs s p marks x u (caret_equal y z h l) m none k =
    grind (arith, nat_tests, common_steps, append_assoc, blank-skipped, dark-byte, kept, opens, marks-all)
sign-taken loose signs s p marks x u (tilde_sign c y z h l (inr (inr e))) m none k =
    grind (arith, nat_tests, common_steps, append_assoc, blank-skipped, dark-byte, kept, marks-all, no_greater-left, opens)
sign-taken loose signs s p marks x u (tilde_sign c y z h l (inl e)) m none k =
    grind (arith, marks-all, opens, one_greater-left, blank-skipped, append_assoc, free-taken, greater-left)
sign-taken loose signs s p marks x u (tilde_sign c y z h l (inr (inl e))) m none k =
    grind (arith, nat_tests, common_steps, append_assoc, blank-skipped, dark-byte, drop_spaces-none, kept, marks-all, one_greater-left, opens)
sign-taken loose signs s p marks x u (tilde_twice c y z h some l (inl e)) m none k =
    grind (arith, nat_tests, common_steps, append_assoc, greater-left, marks-all, free-taken, twice-left)
sign-taken loose signs s p marks x u (tilde_twice c y z h some l (inr e)) m none k =
    grind (arith, nat_tests, common_steps, append_assoc, blank-skipped, kept, marks-all, opens, twice-left)
