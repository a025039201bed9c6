-- The malformed end of a hyphen range.
use Rattle.npm_words.proofs.Common.{AreRead, Bool, Comparison, Ended, IsUtf8, List, MAX_SAFE_INTEGER, None, Option, Some, [], after_ends, and_parts}
use Rattle.npm_words.proofs.Common.{ap, append_assoc, are_normal, arith, begins, bind_some, capped_in, cond_some, drop_at, drop_ends, drop_spaces}
use Rattle.npm_words.proofs.Common.{empty_is, encode_utf8_all, end_front, false, from_boundary, if◌then◌else◌, inr, is_empty, is_free, is_free_lower}
use Rattle.npm_words.proofs.Common.{is_free_upper, is_mark, is_right, is_some, is_valid, last_end, length, length-append, list_all, lower_of}
use Rattle.npm_words.proofs.Common.{nat_tests, refl, space_len, space_len-nil, subst, suc, sym, take_at, true, upper_of, zero, ℕ, ◌++◌, ◌+◌, ◌>>?◌}
use Rattle.npm_words.proofs.{Common.{◌∙◌, ◌∷◌, ◌≡◌, ◌≤◌}, FlawPlaces.Ranges.one_malformed_word, Grammar.Hyphens.{dash-is, dash-of, end-found}}
use Rattle.npm_words.proofs.Grammar.Hyphens.{end-normal, end-read, ends-found, ends-read, free-capped, front-is, normal-capped, right-end}
use Rattle.npm_words.{proofs.Grammar.Printed.{capped-valid, lower-invalid, upper-invalid}, specs.Internal.Ends.{behind_end, is_lower, is_right_one}}
use Rattle.npm_words.specs.{Internal.{Ends.is_upper, Words.{after_dash, end_len}}, MalformedEnds.{HasEnds, IsEndPlace, IsLower, IsMalformedPart}}
use Rattle.npm_words.specs.{MalformedEnds.{IsRightEnd, IsWrongEnd, SkipsMarks, a_word, an_end, lower, upper}, Table.Partial}
use Rattle.semver_core.{proofs.Reading.Boundaries.{blank-len, boundary-utf8, first-is, some_space-is}, specs.Text.Boundaries.IsFirstBoundary}
use Rattle.{semver_core.specs.Values.Versions.VersionValue, semver_pieces.specs.declared.bounds.Bounds.Bounds}
use Rattle.std.proofs.lemmas.Str.{IsCharBoundary-at_seam, IsUtf8-take}
unfoldable use Rattle.npm_words.specs.Internal.Ends.{end_texts}

-- ---- the place of an end

-- no mark and no whitespace is left in front
ends-gone : (n : ℕ) (text : List ℕ) → end_len (after_ends n text) ≡ 0
unfolding after_ends
ends-gone n [] = refl
ends-gone (suc n) (b ∷ rest) = ends-gone n rest
ends-gone zero (b ∷ rest) =
    let more : (n : ℕ) → end_len (after_ends n rest) ≡ 0 = λ n. ends-gone n rest in grind (arith, nat_tests, more)

marks-is : (text : List ℕ) → IsUtf8 text → SkipsMarks text (drop_ends text)
marks-is text u =
    let m = ends-found text u in
    let gone : (begins is_mark (drop_ends text) ≡ false) × (space_len (drop_ends text) ≡ 0) = grind (arith, nat_tests, space_len-nil, ends-gone 0 text) in
    (encode_utf8_all m.characters, m.split, (m.characters, refl, m.each), gone.0, λ b. omega (arith, gone.1, blank-len (drop_ends text) b))

marks-of : (text rest : List ℕ) → IsUtf8 text → SkipsMarks text rest → drop_ends text ≡ rest
marks-of text rest u s =
    let dark : space_len rest ≡ 0 = grind (arith, nat_tests, some_space-is s.0 rest (drop_spaces rest) (rw s.1 at u), s.4) in
    ap drop_ends (s.1 ∙ ap (λ (t : List ℕ). t ++ rest) s.2.1) ∙ ends-read s.2.0 rest s.2.2 s.3 dark

first-once : (text a b : List ℕ) → IsFirstBoundary text a → IsFirstBoundary text b → a ≡ b
first-once text a b f g =
    let same : length g.0 ≡ length f.0 = omega (arith, f.3 g.0 b g.1 g.2, g.3 f.0 a f.1 f.2) in
    cc (drop_at f.0 a (length f.0) refl, drop_at g.0 b (length f.0) same, f.1, g.1)

place-is : (text : List ℕ) → IsUtf8 text → IsEndPlace text (behind_end text)
place-is text u = let m = marks-is text u in (drop_ends text, m, first-is m.0 (drop_ends text) (rw m.1 at u))

place-of : (text behind : List ℕ) → IsUtf8 text → IsEndPlace text behind → behind_end text ≡ behind
place-of text behind u p =
    let same = marks-of text p.0 u p.1 in
    let m = marks-is text u in
    let f = first-is m.0 (drop_ends text) (rw m.1 at u) in
    ap from_boundary same ∙ first-once p.0 _ behind (subst (λ (t : List ℕ). IsFirstBoundary t (from_boundary t)) same f) p.2

-- ---- the form of a hyphen range

pub form-found : (text : List ℕ) (e : List ℕ × List ℕ) → IsUtf8 text → end_texts text ≡ Some e
    → (h : HasEnds text) × (h.first ≡ e.0) × (h.second ≡ e.1)
unfolding end_texts
form-found text e u h =
    let q = bind_some (after_dash (behind_end text)) _ e h in
    let c = cond_some (is_empty (behind_end q.0)) _ e q.2 in
    let p = place-is text u in
    let first = p.1.0 ++ p.2.0 in
    let divided = p.1.1 ∙ ap (λ (t : List ℕ). p.1.0 ++ t) p.2.1 ∙ sym (append_assoc p.1.0 p.2.0 (behind_end text)) in
    let d = dash-is first (behind_end text) q.0 (subst (λ (t : List ℕ). IsUtf8 t) divided u) q.1 in
    let whole = empty_is (behind_end q.0) c.0 in
    let front = front-is text first (behind_end text) divided in (
      record {
        first = first;
        before = behind_end text;
        second = q.0;
        divided = divided;
        lower = p;
        dash = d.0;
        upper = rw whole at (place-is q.0 d.1);
      },
      sym front ∙ ap (λ (x : List ℕ × List ℕ). x.0) c.1,
      ap (λ (x : List ℕ × List ℕ). x.1) c.1,
    )

pub form-read : (text : List ℕ) → IsUtf8 text → (h : HasEnds text) → end_texts text ≡ Some (h.first, h.second)
unfolding end_texts
form-read text u h =
    let before = place-of text h.before u h.lower in
    let v = boundary-utf8 h.first h.before (rw h.divided at u) (inr h.dash.1) in
    let d = dash-of h.before h.second v h.dash in
    let upper = place-of h.second [] d.1 h.upper in
    rw (before, d.0, upper, front-is text h.first h.before h.divided) refl

-- ---- the ends that are right

module _ (changes : VersionValue → Bool) (comparators : List ℕ → Partial → List ℕ → List Comparison) (text : List ℕ) where
  abbrev Right : Type 0
  Right = IsRightEnd MAX_SAFE_INTEGER changes comparators text

  abbrev is_one : Option Ended → Bool
  is_one o = is_right_one (is_free changes) (λ (e : Ended). comparators e.0 e.1 e.2) o

  pub right-read : Right → is_one (last_end false text) ≡ true
  right-read h =
      let right = right-end false changes text [] h.is ∙ h.right in
      rw (end-read false text [] h.is refl, right, h.valid) refl

  pub right-found : IsUtf8 text → is_one (last_end false text) ≡ true → Right
  right-found u h = go (end_front false text) refl h
    where
      go : (o : Option (Ended × List ℕ)) → end_front false text ≡ o → is_one (o >>? λ b. if is_empty b.1 then Some b.0 else None) ≡ true → Right
      go None e k = cc k
      go (Some (b, [])) e k =
          let f = end-found false text (b, []) u e in
          let both = and_parts (is_right false (is_free changes) b) _ k in
          record {
            is = f.0;
            right = sym (right-end false changes text [] f.0) ∙ ap (is_right false (is_free changes)) (sym f.1) ∙ both.0;
            valid = ap (λ (e : Ended). list_all (is_valid MAX_SAFE_INTEGER) (comparators e.0 e.1 e.2)) (sym f.1) ∙ both.1;
          }
      go (Some (b, c ∷ rest)) e k = cc k

-- where a number is past the limit, only that it is counts
lower-capped : (include : Bool) (e : Ended)
    → is_right_one is_free_lower (lower_of include) (Some (capped_in e)) ≡ is_right_one is_free_lower (lower_of include) (Some e)
lower-capped include e =
    rw ((free-capped include e.1).0, capped-valid (λ p. lower_of include (e.0, p, e.2)) (λ p. lower-invalid _ include p e.2) e.1) refl

upper-capped : (include : Bool) (e : Ended)
    → is_right_one (is_free_upper include) (upper_of include) (Some (capped_in e)) ≡ is_right_one (is_free_upper include) (upper_of include) (Some e)
upper-capped include e =
    rw ((free-capped include e.1).1, capped-valid (λ p. upper_of include (e.0, p, e.2)) (λ p. upper-invalid _ include p e.2) e.1) refl

-- of an end as the code has it
module _ (include : Bool) (text : List ℕ) (o : Option Ended) (h : o ≡ (last_end false text >>? λ e. Some (capped_in e))) where
  pub lower-is : is_right_one is_free_lower (lower_of include) o ≡ is_lower include text
  lower-is = grind (arith, lower-capped)

  pub upper-is : is_right_one (is_free_upper include) (upper_of include) o ≡ is_upper include text
  upper-is = grind (arith, upper-capped)

pub last-normal : (text : List ℕ) (e : Ended) → Some e ≡ (last_end false text >>? λ x. Some (capped_in x)) → are_normal e.1 ≡ true
last-normal text e h = grind (arith, normal-capped, end-normal)

pub bounds-valid : (include : Bool) (cs : List Comparison) (o : Option Bounds) → AreRead include cs o → list_all (is_valid MAX_SAFE_INTEGER) cs ≡ is_some o
bounds-valid include cs o h = grind arith

-- ---- the end that is wrong

front-utf8 : (front rest : List ℕ) → IsUtf8 (front ++ rest) → IsUtf8 rest → IsUtf8 front
front-utf8 front rest u v =
    let cut = IsCharBoundary-at_seam (front ++ rest) front rest refl v in
    rw (take_at front rest (length front) refl) at (IsUtf8-take (front ++ rest) (length front) u cut)

form-utf8 : (text : List ℕ) → IsUtf8 text → (h : HasEnds text) → IsUtf8 h.first × IsUtf8 h.second
form-utf8 text u h =
    let w = rw h.divided at u in
    let v = boundary-utf8 h.first h.before w (inr h.dash.1) in
    (front-utf8 h.first h.before w v, (dash-of h.before h.second v h.dash).1)

form-once : (text : List ℕ) → IsUtf8 text → (h k : HasEnds text) → (h.first ≡ k.first) × (h.second ≡ k.second)
form-once text u h k = grind (arith, form-read text u h, form-read text u k)

module _ (include : Bool) (text : List ℕ) (u : IsUtf8 text) where
  abbrev Wrong : ℕ → ℕ → Type 0
  Wrong = IsWrongEnd MAX_SAFE_INTEGER include text

  pub no-form : end_texts text ≡ None → (start end : ℕ) → Wrong start end → ⊥
  no-form n start end (lower h bad s e) = cc (n, form-read text u h)
  no-form n start end (upper h low bad s e) = cc (n, form-read text u h)

  module _ (e : List ℕ × List ℕ) (h : end_texts text ≡ Some e) where
    pub lower-wrong : is_lower include e.0 ≡ false → Wrong 0 (length e.0)
    lower-wrong bad =
        let f = form-found text e u h in lower f.0 (λ r. grind (arith, bad, f.1, right-read _ _ f.0.first r)) refl (ap length (sym f.1))

    lower-right : (k : HasEnds text) → is_lower include e.0 ≡ true → IsLower MAX_SAFE_INTEGER include k.first
    lower-right k good = right-found _ _ k.first (form-utf8 text u k).0 (grind (arith, form-read text u k))

    pub upper-wrong : (start : ℕ) → is_lower include e.0 ≡ true → is_upper include e.1 ≡ false → start + length e.1 ≡ length text → Wrong start (length text)
    upper-wrong start good bad size =
        let f = form-found text e u h in
        upper f.0 (lower-right f.0 good) (λ r. grind (arith, bad, f.2, right-read _ _ f.0.second r)) (rw f.2 size) refl

    pub both-right : is_lower include e.0 ≡ true → is_upper include e.1 ≡ true → (start end : ℕ) → Wrong start end → ⊥
    both-right low high start end (lower k bad s t) = bad (lower-right k low)
    both-right low high start end (upper k is bad s t) = bad (right-found _ _ k.second (form-utf8 text u k).1 (grind (arith, form-read text u k)))

  -- what stands behind the dash is within the text
  pub form-fits : (e : List ℕ × List ℕ) → end_texts text ≡ Some e → (length e.0 ≤ length text) × (length e.1 ≤ length text)
  form-fits e h =
      let f = form-found text e u h in
      let whole = simp length-append at (ap length f.0.divided) in (
        omega (arith, ap length f.1, whole),
        omega (arith, ap length f.2, whole, simp length-append at (ap length f.0.dash.2.1), simp length-append at (ap length f.0.dash.4.1)),
      )

  one_wrong_end : (a b c d : ℕ) → Wrong a b → Wrong c d → (a ≡ c) × (b ≡ d)
  one_wrong_end a b c d (lower h bad s e) (lower k other t f) = let same = form-once text u h k in (cc, cc (e, f, ap length same.0))
  one_wrong_end a b c d (lower h bad s e) (upper k low other t f) = absurd (bad (rw (form-once text u h k).0 low))
  one_wrong_end a b c d (upper h low bad s e) (lower k other t f) = absurd (other (rw (form-once text u k h).0 low))
  one_wrong_end a b c d (upper h low bad s e) (upper k lower' other t f) = (omega (arith, s, t, ap length (form-once text u h k).1), cc (e, f))

  pub one_malformed_part : (a b c d : ℕ) → IsMalformedPart MAX_SAFE_INTEGER include text a b → IsMalformedPart MAX_SAFE_INTEGER include text c d
      → (a ≡ c) × (b ≡ d)
  one_malformed_part a b c d (an_end x) (an_end y) = one_wrong_end a b c d x y
  one_malformed_part a b c d (an_end x) (a_word bad y) = absurd (bad a b x)
  one_malformed_part a b c d (a_word bad x) (an_end y) = absurd (bad c d y)
  one_malformed_part a b c d (a_word bad x) (a_word other y) = one_malformed_word include text a b c d u x y
