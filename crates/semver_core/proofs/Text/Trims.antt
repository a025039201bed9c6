-- Serves proofs. The text without the whitespace round it, by bytes and by characters.
use Rattle.semver_core.proofs.Common.{is_empty, BeginsBlank, IsAfterBlank, begins, is_whitespace, List, [], ap, append-nil}
use Rattle.semver_core.proofs.Common.{append_assoc, arith, drop, false, inl, inr, length, refl, subst, sym, take, true, ℕ, ◌++◌}
use Rattle.semver_core.proofs.Common.{◌+◌, ◌-◌, ◌<◌, ◌∙◌, ◌∷◌, ◌≡◌, ◌≤◌, and_parts, cases_Bool, length-drop, len_utf8}
use Rattle.semver_core.proofs.Common.{encode_utf8, list_all, IsCharBoundary, IsUtf8, encode_utf8_all, after_spaces}
use Rattle.semver_core.proofs.Common.{drop_end_spaces, drop_spaces, space_len, trim, take-append_seam, drop_at, drop_split}
use Rattle.semver_core.proofs.Common.{list_all-append, IsUtf8-drop, encode_ascii, encodes-append, len_utf8_bounds}
use Rattle.semver_core.proofs.Common.{length-encode, IsTrim, reverse-append, length-reverse, IsCharBoundary-at_seam}
use Rattle.semver_core.proofs.Common.{IsUtf8-encode, IsUtf8-take, IsScalar, reverse, get_or, nat_tests, drop-cons, drop_all}
use Rattle.semver_core.proofs.Common.{Bool, suc, take-append-drop, ◌==◌, prefix_len}
use Rattle.std.proofs.lemmas.List.{reverse-reverse}
use Rattle.{std.proofs.lemmas.Str.{IsCharBoundary-before_ascii, IsUtf8-nil}, std.specs.Char.{is_ascii_graphic}}
use Rattle.semver_core.proofs.Text.{Blanks.{Passed, passed_none, passed_more, passed_stop, passed_end}, SpaceLaw.space_len-white}
use Rattle.semver_core.proofs.Text.{Runs.{begins_less, prefix_each, prefix_ends}, SpaceLaw.{space_len-dark, space_len-inside}, Spaces.{drop_spaces-more, drop_spaces-none}}

-- at the front

pub drop_spaces-nil : drop_spaces [] ≡ []
unfolding after_spaces
drop_spaces-nil = refl

pub drop_spaces-white : (c : ℕ) (rest : List ℕ) → is_whitespace c ≡ true → drop_spaces (encode_utf8 c ++ rest) ≡ drop_spaces rest
drop_spaces-white c rest h =
    let size = space_len-white c rest h in
    let some : 0 < space_len (encode_utf8 c ++ rest) = omega (arith, size, (len_utf8_bounds c).0) in
    sym (drop_spaces-more (encode_utf8 c ++ rest) some)
    ∙ ap drop_spaces (ap (λ n. drop n (encode_utf8 c ++ rest)) size ∙ drop_at (encode_utf8 c) rest (len_utf8 c) (length-encode c))

pub drop_spaces-dark : (c : ℕ) (rest : List ℕ) → is_whitespace c ≡ false → drop_spaces (encode_utf8 c ++ rest) ≡ encode_utf8 c ++ rest
drop_spaces-dark c rest h = drop_spaces-none (encode_utf8 c ++ rest) (space_len-dark c rest h)

-- whitespace at the front is skipped
pub drop_spaces-blank : (cs rest : List ℕ) → list_all is_whitespace cs ≡ true → drop_spaces (encode_utf8_all cs ++ rest) ≡ drop_spaces rest
drop_spaces-blank [] rest h = refl
drop_spaces-blank (c ∷ cs) rest h =
    let each = and_parts (is_whitespace c) (list_all is_whitespace cs) h in
    ap drop_spaces (append_assoc (encode_utf8 c) (encode_utf8_all cs) rest)
    ∙ drop_spaces-white c (encode_utf8_all cs ++ rest) each.0
    ∙ drop_spaces-blank cs rest each.1

-- at the end

pub keep_byte : (b : ℕ) (rest : List ℕ) → is_empty (drop_spaces (b ∷ rest)) ≡ false → drop_end_spaces (b ∷ rest) ≡ b ∷ drop_end_spaces rest
unfolding drop_end_spaces
keep_byte b rest h = rw (h, drop_end_spaces) refl

-- a byte that goes on with a character
keep_inside : (b : ℕ) (rest : List ℕ) → 128 ≤ b → b < 192 → drop_end_spaces (b ∷ rest) ≡ b ∷ drop_end_spaces rest
keep_inside b rest l h = keep_byte b rest (ap is_empty (drop_spaces-none (b ∷ rest) (space_len-inside b rest l h)))

-- a character stays where more than whitespace is left
keep_char : (c : ℕ) (rest : List ℕ) → is_empty (drop_spaces (encode_utf8 c ++ rest)) ≡ false
    → drop_end_spaces (encode_utf8 c ++ rest) ≡ encode_utf8 c ++ drop_end_spaces rest
unfolding encode_utf8
keep_char c rest h = grind (arith, nat_tests, keep_byte, keep_inside)

drop_end-all : (text : List ℕ) → drop_spaces text ≡ [] → drop_end_spaces text ≡ []
unfolding drop_end_spaces
drop_end-all [] h = refl
drop_end-all (b ∷ rest) h = rw (h, drop_end_spaces) refl

pub drop_end-blank : (cs : List ℕ) → list_all is_whitespace cs ≡ true → drop_end_spaces (encode_utf8_all cs) ≡ []
drop_end-blank cs h =
    drop_end-all (encode_utf8_all cs)
    (ap drop_spaces (sym (append-nil (encode_utf8_all cs))) ∙ drop_spaces-blank cs [] h ∙ drop_spaces-nil)

-- the last character of a list, behind a front

ends_front : (c d : ℕ) (cs : List ℕ) → begins is_whitespace (reverse (c ∷ d ∷ cs)) ≡ begins is_whitespace (reverse (d ∷ cs))
ends_front c d cs = grind (arith, reverse-append (c ∷ []) (d ∷ cs), length-reverse (d ∷ cs))

-- where a text has another character than whitespace, more than whitespace is left
filled : (c : ℕ) (rest : List ℕ) → is_empty (encode_utf8 c ++ rest) ≡ false
unfolding encode_utf8
filled c rest = grind (arith, nat_tests)

some_dark : (c : ℕ) (cs after : List ℕ) → begins is_whitespace (reverse (c ∷ cs)) ≡ false
    → is_empty (drop_spaces (encode_utf8_all ((c ∷ cs) ++ after))) ≡ false
some_dark c [] after dark = grind (arith, drop_spaces-dark, filled)
some_dark c (d ∷ cs) after h =
    grind (arith, append_assoc, drop_spaces-dark, drop_spaces-white, ends_front c d cs, filled, some_dark d cs after)

-- what stands before the whitespace at the end
pub drop_end-dark : (cs after : List ℕ) → begins is_whitespace (reverse cs) ≡ false → list_all is_whitespace after ≡ true
    → drop_end_spaces (encode_utf8_all (cs ++ after)) ≡ encode_utf8_all cs
drop_end-dark [] after h blank = drop_end-blank after blank
drop_end-dark (c ∷ cs) after h blank =
    keep_char c (encode_utf8_all (cs ++ after)) (some_dark c cs after h)
    ∙ ap (λ t. encode_utf8 c ++ t) (drop_end-dark cs after (later cs h) blank)
  where
    later : (cs : List ℕ) → begins is_whitespace (reverse (c ∷ cs)) ≡ false → begins is_whitespace (reverse cs) ≡ false
    later [] h = refl
    later (d ∷ cs) h = sym (ends_front c d cs) ∙ h

-- the trimmed middle is what the bytes give

pub trim_parts : (before characters after : List ℕ) → list_all is_whitespace before ≡ true → list_all is_whitespace after ≡ true
    → begins is_whitespace characters ≡ false → begins is_whitespace (reverse characters) ≡ false
    → trim (encode_utf8_all (before ++ (characters ++ after))) ≡ encode_utf8_all characters
trim_parts before characters after front back begin end =
    ap trim (encodes-append before (characters ++ after))
    ∙ ap drop_end_spaces (drop_spaces-blank before (encode_utf8_all (characters ++ after)) front)
    ∙ go characters begin end
  where
    go : (cs : List ℕ) → begins is_whitespace cs ≡ false → begins is_whitespace (reverse cs) ≡ false
        → drop_end_spaces (drop_spaces (encode_utf8_all (cs ++ after))) ≡ encode_utf8_all cs
    go [] begin end = grind (arith, append-nil, drop_spaces-blank after [] back, drop_spaces-nil, drop_end-all)
    go (c ∷ cs) begin end = grind (arith, append_assoc, drop_spaces-dark, drop_end-dark (c ∷ cs) after)

pub middle_is_trim : (text middle : List ℕ) → IsTrim text middle → middle ≡ trim text
middle_is_trim text middle t = grind (arith, trim_parts t.before t.characters t.after)

-- characters divided into whitespace and what begins with another character
pub record Fronted (cs : List ℕ) : Type 0 where
  pub before : List ℕ
  pub rest : List ℕ
  pub divided : cs ≡ before ++ rest
  pub blank : list_all is_whitespace before ≡ true
  pub dark : begins is_whitespace rest ≡ false

pub fronted : (cs : List ℕ) → Fronted cs
fronted cs =
    let n = prefix_len is_whitespace cs in
    record {
      before = take n cs;
      rest = drop n cs;
      divided = sym (take-append-drop n cs);
      blank = prefix_each is_whitespace cs;
      dark = prefix_ends is_whitespace cs;
    }

-- and into what ends with another character and whitespace
pub record Ended (cs : List ℕ) : Type 0 where
  pub rest : List ℕ
  pub after : List ℕ
  pub divided : cs ≡ rest ++ after
  pub blank : list_all is_whitespace after ≡ true
  pub dark : begins is_whitespace (reverse rest) ≡ false

all_turned : (p : ℕ → Bool) (xs : List ℕ) → list_all p xs ≡ true → list_all p (reverse xs) ≡ true
all_turned p [] h = refl
all_turned p (x ∷ xs) h = grind (arith, reverse-append (x ∷ []) xs, list_all-append, all_turned p xs)

pub ended : (cs : List ℕ) → Ended cs
ended cs =
    let f = fronted (reverse cs) in
    let turned = reverse-reverse f.rest in
    record {
      rest = reverse f.rest;
      after = reverse f.before;
      divided = sym (reverse-reverse cs) ∙ ap reverse f.divided ∙ reverse-append f.before f.rest;
      blank = all_turned is_whitespace f.before f.blank;
      dark = ap (begins is_whitespace) turned ∙ f.dark;
    }

pub IsTrim_exists : (cs : List ℕ) → (middle : List ℕ) × IsTrim (encode_utf8_all cs) middle
IsTrim_exists cs =
    let f = fronted cs in
    let e = ended f.rest in (
      encode_utf8_all e.rest,
      record {
        before = f.before;
        characters = e.rest;
        after = e.after;
        divided = ap encode_utf8_all (f.divided ∙ ap (λ t. f.before ++ t) e.divided);
        middle_is = refl;
        blank_before = f.blank;
        blank_after = e.blank;
        begins_dark = begins_less is_whitespace e.rest e.after (subst (λ (t : List ℕ). begins is_whitespace t ≡ false) e.divided f.dark);
        ends_dark = e.dark;
      },
    )

pub trim_is_middle : (text : List ℕ) → IsUtf8 text → IsTrim text (trim text)
trim_is_middle text utf8 =
    let t = IsTrim_exists utf8.0 in
    let here : IsTrim text t.0 = subst (λ (x : List ℕ). IsTrim x t.0) utf8.1.1 t.1 in
    subst (λ (m : List ℕ). IsTrim text m) (middle_is_trim text t.0 here) here

-- what stands behind the whitespace at a place

dark_here : (text : List ℕ) → IsUtf8 text → (BeginsBlank text → ⊥) → drop_spaces text ≡ text
dark_here text utf8 dark = go utf8.0 utf8.1.1
  where
    go : (cs : List ℕ) → encode_utf8_all cs ≡ text → drop_spaces text ≡ text
    go [] e = ap drop_spaces (sym e) ∙ drop_spaces-nil ∙ e
    go (c ∷ cs) e = elim (cases_Bool (is_whitespace c)) [
      | inl white ↦ absurd (dark (record { character = c; rest = encode_utf8_all cs; passes = white; spelled = sym e }))
      | inr other ↦ grind (arith, drop_spaces-dark)
    ]

pub after_blank_drops_spaces : (text : List ℕ) (at end : ℕ) → IsUtf8 text → IsAfterBlank text at end → drop end text ≡ drop_spaces (drop at text)
after_blank_drops_spaces text at end utf8 a =
    let left = dark_here (drop end text) (IsUtf8-drop text end utf8 a.boundary) a.ended in
    grind (arith, drop_spaces-blank a.blank.characters (drop end text) a.blank.each, drop_split text at end a.after)

-- that place is where so much of the text is left
pub after_blank-place : (text : List ℕ) (at end : ℕ) → IsUtf8 text → IsAfterBlank text at end → end ≡ length text - length (drop_spaces (drop at text))
after_blank-place text at end utf8 a =
    let within : end ≤ length text = a.boundary.0 in
    omega (arith, ap length (after_blank_drops_spaces text at end utf8 a), length-drop end text)

pub one_after_blank : (text : List ℕ) (at end other : ℕ) → IsUtf8 text → IsAfterBlank text at end → IsAfterBlank text at other → end ≡ other
one_after_blank text at end other utf8 a b = after_blank-place text at end utf8 a ∙ sym (after_blank-place text at other utf8 b)

-- there is such a place: it goes on behind each whitespace character
pub some_after_blank : (text : List ℕ) (at : ℕ) → IsUtf8 text → IsCharBoundary text at → (end : ℕ) × IsAfterBlank text at end
some_after_blank text at utf8 b =
    let here = IsUtf8-drop text at utf8 b in
    go here.0 at (drop at text) [] here.1.1 (passed_none text at (drop at text) b refl)
  where
    go : (cs : List ℕ) (end : ℕ) (rest passed : List ℕ) → encode_utf8_all cs ≡ rest → Passed text at end rest passed → (place : ℕ) × IsAfterBlank text at place
    go [] end rest passed e p = (end, passed_end text at end rest passed p (ap length (sym e)))
    go (c ∷ cs) end rest passed e p = elim (cases_Bool (is_whitespace c)) [
      | inl white ↦ go cs (end + len_utf8 c) (encode_utf8_all cs) (passed ++ c ∷ []) refl
          (passed_more text at end rest passed (encode_utf8_all cs) c (len_utf8 c) utf8 p (sym e) white refl)
      | inr dark ↦ (end, passed_stop text at end rest passed (encode_utf8_all cs) c p (sym e) dark)
    ]

-- from the end, character by character

-- a whitespace character at the end
pub drop_end-more : (text before : List ℕ) (c : ℕ) → IsUtf8 before → text ≡ before ++ encode_utf8 c → is_whitespace c ≡ true
    → drop_end_spaces before ≡ drop_end_spaces text
drop_end-more text before c utf8 e white =
    let d = ended utf8.0 in
    let back : list_all is_whitespace (d.after ++ (c ∷ [])) ≡ true = rw (list_all-append, d.blank, white) refl in
    let one = drop_end-dark d.rest d.after d.dark d.blank in
    let two = drop_end-dark d.rest (d.after ++ (c ∷ [])) d.dark back in
    grind (arith, append_assoc, append-nil, encodes-append)

-- another character there
pub drop_end-stop : (text before : List ℕ) (c : ℕ) → IsUtf8 before → text ≡ before ++ encode_utf8 c → is_whitespace c ≡ false
    → drop_end_spaces text ≡ text
drop_end-stop text before c utf8 e dark =
    let last : begins is_whitespace (reverse (utf8.0 ++ (c ∷ []))) ≡ false = rw (reverse-append utf8.0 (c ∷ [])) dark in
    let kept = drop_end-dark (utf8.0 ++ (c ∷ [])) [] last refl in
    grind (arith, append-nil, encodes-append)

-- nothing is there
pub drop_end-none : (text : List ℕ) → length text ≡ 0 → drop_end_spaces text ≡ text
drop_end-none [] h = drop_end-all [] drop_spaces-nil
drop_end-none (b ∷ text) h = absurd (omega arith)

-- the whitespace in front, and then that at the end
pub trim_in_two : (text rest middle : List ℕ) (start : ℕ) → IsUtf8 text → IsAfterBlank text 0 start → rest ≡ drop start text → middle ≡ drop_end_spaces rest
    → IsTrim text middle
trim_in_two text rest middle start utf8 a r m =
    let value : middle ≡ trim text = m ∙ ap drop_end_spaces (r ∙ after_blank_drops_spaces text 0 start utf8 a) in
    subst (λ (t : List ℕ). IsTrim text t) (sym value) (trim_is_middle text utf8)

-- a text that is empty, or begins and ends with a visible character of ASCII, is its own middle

pub trimmed_none : (text : List ℕ) → (length text == 0) ≡ true → IsTrim text text
trimmed_none [] h = rw (drop_spaces-nil, drop_end-all [] drop_spaces-nil) at (trim_is_middle [] IsUtf8-nil)
trimmed_none (b ∷ rest) h = grind (arith, nat_tests)

visible_small : (b : ℕ) → is_ascii_graphic b ≡ true → b < 128
visible_small b h = grind (arith, nat_tests)

visible_dark : (b : ℕ) → is_ascii_graphic b ≡ true → is_whitespace b ≡ false
visible_dark b h = grind (arith, nat_tests)

kept_front : (text : List ℕ) → 0 < length text → is_ascii_graphic (get_or text 0 0) ≡ true → drop_spaces text ≡ text
kept_front [] some h = absurd (omega arith)
kept_front (b ∷ rest) some h = rw (encode_ascii b (visible_small b h)) at (drop_spaces-dark b rest (visible_dark b h))

kept_end : (text : List ℕ) (at : ℕ) → IsUtf8 text → at + 1 ≡ length text → is_ascii_graphic (get_or text at 0) ≡ true
    → drop_end_spaces text ≡ text
kept_end text at utf8 last h =
    let inside : at < length text = omega arith in
    let b = get_or text at 0 in
    let before = IsUtf8-take text at utf8 (IsCharBoundary-before_ascii text at inside (visible_small b h)) in
    let behind : drop at text ≡ b ∷ [] = drop-cons text at 0 inside ∙ ap (λ t. b ∷ t) (drop_all (suc at) text (omega arith)) in
    let spelled : text ≡ take at text ++ encode_utf8 b =
    sym (take-append-drop at text) ∙ ap (λ t. take at text ++ t) (behind ∙ sym (encode_ascii b (visible_small b h))) in
    drop_end-stop text (take at text) b before spelled (visible_dark b h)

pub trimmed_visible : (text : List ℕ) → IsUtf8 text → (length text == 0) ≡ false → is_ascii_graphic (get_or text 0 0) ≡ true
    → is_ascii_graphic (get_or text (length text - 1) 0) ≡ true → IsTrim text text
trimmed_visible text utf8 some first last =
    let more : 0 < length text = grind (arith, nat_tests) in
    let end = kept_end text (length text - 1) utf8 (omega arith) last in
    let value : trim text ≡ text = ap drop_end_spaces (kept_front text more first) ∙ end in
    subst (λ (t : List ℕ). IsTrim text t) value (trim_is_middle text utf8)

pub ruleset trimmed = (trimmed_none, trimmed_visible)

-- what is left of a text whose end is skipped, character by character
pub record Shortened (text rest : List ℕ) : Type 0 where
  pub utf8 : IsUtf8 rest
  pub same : drop_end_spaces rest ≡ drop_end_spaces text

pub shortened_more : (text rest before : List ℕ) (c : ℕ) → Shortened text rest → IsUtf8 before → rest ≡ before ++ encode_utf8 c
    → is_whitespace c ≡ true → Shortened text before
shortened_more text rest before c s u e white = record { utf8 = u; same = drop_end-more rest before c u e white ∙ s.same }

pub shortened_stop : (text rest before : List ℕ) (c : ℕ) → Shortened text rest → IsScalar c → rest ≡ before ++ encode_utf8 c
    → is_whitespace c ≡ false → rest ≡ drop_end_spaces text
shortened_stop text rest before c s scalar e dark =
    let cut = IsCharBoundary-at_seam rest before (encode_utf8 c) e (IsUtf8-encode c scalar) in
    let front : take (length before) rest ≡ before = ap (take (length before)) e ∙ take-append_seam before (encode_utf8 c) in
    let utf8 = subst (λ (t : List ℕ). IsUtf8 t) front (IsUtf8-take rest (length before) s.utf8 cut) in
    sym (drop_end-stop rest before c utf8 e dark) ∙ s.same

pub shortened_out : (text rest : List ℕ) → Shortened text rest → length rest ≡ 0 → rest ≡ drop_end_spaces text
shortened_out text rest s none = sym (drop_end-none rest none) ∙ s.same
