-- Where a text stops being a version text, and what is wrong there.
use Rattle.npm_words.proofs.Common.{At, Bool, Dash, GoesOn, IsFront, IsSpelled, IsUtf8, IsVersionText, List, MAX_SAFE_INTEGER, None, Number, Padded}
use Rattle.npm_words.proofs.Common.{Plus, Some, State, VersionValue, [], ap, append-nil, append_assoc, arith, bind_some, common_steps, digit_value}
use Rattle.npm_words.proofs.Common.{encode_utf8, encode_utf8_all, encodes-append, encodes_same, ends, false, if◌then◌else◌, is_ascii_digit, is_some}
use Rattle.npm_words.proofs.Common.{is_whole, len_utf8, length, length-append, length-encode, nat_tests, next, not, refl, run, same_Some, subst, sym}
use Rattle.npm_words.proofs.{Common.{true, wrong_at, wrong_of, zero, ℕ, ◌*◌, ◌++◌, ◌+◌, ◌==◌, ◌↔◌, ◌∙◌, ◌∷◌, ◌≡◌, ◌≤◌}, FlawPlaces.Read.front-goes}
use Rattle.npm_words.{proofs.FlawPlaces.Read.{read-front, read-spelled, run-more, spelled-read}, specs.Flaws.{IsFlaw, IsStop, IsWrong}}
use Rattle.npm_words.specs.declared.flaws.{Flaw.{Flaw, TheVariants.TooLong}, State.TheVariants.{End, PreRelease, Start, Zero}, Wrong.Wrong}
use Rattle.std.{proofs.lemmas.Str.IsUtf8-past_char, specs.List.slice_get}

-- ---- the character that was read last

-- whether a digit may be the last character, or another one, where these states are reached
abbrev last : State → Bool → Bool
last Dash digit = not digit
last Plus digit = not digit
last Padded digit = digit
last s digit = true

-- a limit with which a number may have a further digit
abbrev room : State → ℕ → ℕ
room (Number left n) c = n * 10 + digit_value c
room s c = 0

-- behind an identifier of the pre-release
behind-last : (i w : Bool) (t : State) (c : ℕ)
    → (if i then Some PreRelease else if c == 46 then Some Dash else if c == 43 then Some Plus else if w then Some End else None) ≡ Some t
    → last t (is_ascii_digit c) ≡ true
behind-last i w t c h = grind (arith, nat_tests)

module _ (limit : ℕ) where
  last-read : (s t : State) (c : ℕ) → next limit s c ≡ Some t → last t (is_ascii_digit c) ≡ true
  unfolding next
  last-read (Number zero n) t c h = grind (arith, nat_tests)
  last-read Zero t c h = grind (arith, nat_tests, behind-last)
  last-read PreRelease t c h = behind-last _ _ t c h
  last-read s t c h = grind (arith, nat_tests)

  run-last : (s t : State) (c : ℕ) (cs : List ℕ) → run limit s (c ∷ cs) ≡ Some t → last t (ends is_ascii_digit (c ∷ cs)) ≡ true
  unfolding run
  run-last s t c [] h = grind (arith, nat_tests, common_steps, last-read)
  run-last s t c (d ∷ cs) h = let b = bind_some (next limit s c) (λ u. run limit u (d ∷ cs)) t h in run-last b.0 t d cs b.2

  text-last : (t : State) (cs : List ℕ) → run limit Start cs ≡ Some t → last t (ends is_ascii_digit cs) ≡ true
  unfolding run
  text-last t [] h = rw (sym (same_Some _ _ h)) refl
  text-last t (c ∷ cs) h = run-last Start t c cs h

  -- ---- greater limits

  next-larger : (more : ℕ) (s t : State) (c : ℕ) → limit ≤ more → next limit s c ≡ Some t → next more s c ≡ Some t
  unfolding next
  next-larger more s t c le h = grind (arith, nat_tests, common_steps)

  run-larger : (more : ℕ) (s t : State) (cs : List ℕ) → limit ≤ more → run limit s cs ≡ Some t → run more s cs ≡ Some t
  unfolding run
  run-larger more s t [] le h = h
  run-larger more s t (c ∷ cs) le h =
      let b = bind_some (next limit s c) (λ u. run limit u cs) t h in rw (next-larger more s b.0 c le b.1) (run-larger more b.0 t cs le b.2)

  next-room : (more : ℕ) (s : State) (c : ℕ) → room s c ≤ limit → is_some (next more s c) ≡ true → is_some (next limit s c) ≡ true
  unfolding next
  next-room more s c le h = grind (arith, nat_tests, common_steps)

  -- ---- which characters go on

  abbrev great : State → ℕ → Bool
  great s c = is_some (next (limit + room s c) s c)

  goes : (before : List ℕ) (s : State) (c : ℕ) → 9 ≤ limit → run limit Start before ≡ Some s → is_some (next limit s c) ≡ true
      → IsFront limit (before ++ c ∷ [])
  goes before s c nine h k =
      let t : (t : State) × (next limit s c ≡ Some t) = grind (arith, nat_tests) in read-front _ _ _ nine (run-more limit s t.0 c before h t.1)

  may-go : (less : ℕ) (before : List ℕ) (s : State) (c : ℕ) → 9 ≤ limit → less ≤ limit → run limit Start before ≡ Some s
      → IsFront less (before ++ c ∷ []) → is_some (next limit s c) ≡ true
  may-go less before s c nine le h f = front-goes limit before s c f.0 h (rw append_assoc at (spelled-read limit less _ nine le f.1))

  -- what stands behind goes no further
  abbrev Stuck : State → List ℕ → Type 0
  Stuck s [] = is_whole s ≡ false
  Stuck s (c ∷ rest) = next limit s c ≡ None

  stuck-wrong : (before : List ℕ) (s : State) (behind : List ℕ) → run limit Start before ≡ Some s → Stuck s behind
      → wrong_at s (slice_get behind 0) ≡ wrong_of (λ c. is_some (next limit s c)) (great s) before behind
  unfolding next wrong_at
  stuck-wrong before s [] h none = grind (arith, nat_tests, text-last s before h)
  stuck-wrong before (Number left n) (c ∷ rest) h none = grind (arith, nat_tests)
  stuck-wrong before s (c ∷ rest) h none = rw none (grind (arith, nat_tests, text-last s before h))

-- ---- where a text stops

module _ (limit : ℕ) (before : List ℕ) (s : State) (nine : 9 ≤ limit) (read : run limit Start before ≡ Some s) where
  goes_on : GoesOn limit before
  goes_on =
      let wide = λ (more : ℕ) (le : limit ≤ more). run-larger limit more Start s before le read in record {
        may = λ c. is_some (next limit s c);
        great = great limit s;
        may_is = λ c. (goes limit before s c nine read, may-go limit limit before s c nine (omega arith) read);
        great_is = λ c. (
          λ k. (limit + room s c, goes _ before s c (omega arith) (wide _ (omega arith)) k),
          λ f. next-room _ (f.0 + limit) s c (omega arith) (may-go _ f.0 before s c (omega arith) (omega arith) (wide _ (omega arith)) f.1),
        );
      }

  -- the text is no version
  stuck-none : (behind : List ℕ) → Stuck limit s behind → IsSpelled limit (encode_utf8_all (before ++ behind)) → ⊥
  stuck-none [] stuck is = let w = rw (append-nil before, read) at (spelled-read limit limit _ nine (omega arith) is) in cc (w, stuck)
  stuck-none (c ∷ rest) stuck is = let w = front-goes limit before s c rest read (spelled-read limit limit _ nine (omega arith) is) in cc (w, ap is_some stuck)

  wrong : (text behind : List ℕ) → text ≡ encode_utf8_all (before ++ behind) → Stuck limit s behind
      → IsWrong limit text (wrong_at s (slice_get behind 0)) (length (encode_utf8_all before))
  unfolding goes_on
  wrong text behind e stuck =
      let right = read-front limit before s nine read in
      let further = λ (c : ℕ) (r : List ℕ) (same : behind ≡ c ∷ r) (f : IsFront limit (before ++ c ∷ [])).
      stuck-none (c ∷ f.0) (subst (Stuck limit s) same stuck) (rw append_assoc at f.1) in
      let none = λ (w : IsSpelled limit text). stuck-none behind stuck (rw e at w) in
      let is = stuck-wrong limit before s behind read stuck in
      (record { before = before; behind = behind; divided = e; place = refl; right = right; wrong = further; none = none }, goes_on, is)

-- ---- the loop

-- how far a text has been read
pub record Passed (text : List ℕ) (at : ℕ) (state : State) (rest passed : List ℕ) : Type 0 where
  pub divided : text ≡ encode_utf8_all passed ++ rest
  pub place : at ≡ length (encode_utf8_all passed)
  pub reads : run MAX_SAFE_INTEGER Start passed ≡ Some state
  pub utf8 : IsUtf8 rest

pub passed_none : (text rest : List ℕ) → IsUtf8 text → rest ≡ text → Passed text 0 Start rest []
unfolding run
passed_none text rest u e = record { divided = sym e; place = refl; reads = refl; utf8 = rw e u }

module _ (text : List ℕ) (at : ℕ) (s : State) (rest passed : List ℕ) (p : Passed text at s rest passed) where
  pub passed_more : (t : State) (next-rest : List ℕ) (c n : ℕ) → rest ≡ encode_utf8 c ++ next-rest → n ≡ len_utf8 c
      → next MAX_SAFE_INTEGER s c ≡ Some t → Passed text (at + n) t next-rest (passed ++ c ∷ [])
  passed_more t next-rest c n e size h =
      let one : encode_utf8_all (passed ++ c ∷ []) ≡ encode_utf8_all passed ++ encode_utf8 c = simp (encodes-append, append-nil) in
      record {
        divided = grind (arith, nat_tests, common_steps);
        place = omega (arith, p.place, size, length-encode c, ap length one, length-append (encode_utf8_all passed) (encode_utf8 c));
        reads = run-more _ s t c passed p.reads h;
        utf8 = IsUtf8-past_char rest next-rest c p.utf8 e;
      }

  pub passed_stop : (next-rest : List ℕ) (c : ℕ) (w : Wrong) → rest ≡ encode_utf8 c ++ next-rest
      → next MAX_SAFE_INTEGER s c ≡ None → w ≡ wrong_at s (Some c) → IsWrong MAX_SAFE_INTEGER text w at
  passed_stop next-rest c w e none is =
      let d = IsUtf8-past_char rest next-rest c p.utf8 e in
      let whole : text ≡ encode_utf8_all (passed ++ c ∷ d.0) = cc (p.divided, e, d.1.1, encodes-append passed (c ∷ d.0)) in
      rw (is, p.place) (wrong _ passed s (omega arith) p.reads text (c ∷ d.0) whole none)

  at-end : length rest ≡ 0 → text ≡ encode_utf8_all passed
  at-end h = grind (arith, nat_tests, common_steps)

  pub passed_end : (w : Wrong) → length rest ≡ 0 → is_whole s ≡ false → w ≡ wrong_at s None → IsWrong MAX_SAFE_INTEGER text w at
  passed_end w h none is = rw (is, p.place) (wrong _ _ _ (omega arith) p.reads _ _ (at-end h ∙ ap encode_utf8_all (sym (append-nil passed))) none)

  pub passed_whole : length rest ≡ 0 → is_whole s ≡ true → IsSpelled MAX_SAFE_INTEGER text
  passed_whole h whole = rw (at-end h) (read-spelled MAX_SAFE_INTEGER passed (omega arith) (rw p.reads whole))

-- ---- a text has one flaw

-- which characters go on is one thing
same-test : (a b : Bool) (P : Type 0) → ((a ≡ true) ↔ P) → ((b ≡ true) ↔ P) → a ≡ b
same-test a b P x y = grind (arith, nat_tests, common_steps)

-- two divisions of one text are the same if none goes on where the other ends
same-divisions : (xs us ys vs : List ℕ) → xs ++ us ≡ ys ++ vs → ((c : ℕ) (r m : List ℕ) → us ≡ c ∷ r → ys ≡ xs ++ c ∷ m → ⊥)
    → ((c : ℕ) (r m : List ℕ) → vs ≡ c ∷ r → xs ≡ ys ++ c ∷ m → ⊥) → (xs ≡ ys) × (us ≡ vs)
same-divisions [] us [] vs e f g = (refl, e)
same-divisions [] us (c ∷ ys) vs e f g = absurd (f c (ys ++ vs) ys e refl)
same-divisions (c ∷ xs) us [] vs e f g = absurd (g c (xs ++ us) xs (sym e) refl)
same-divisions (c ∷ xs) us (d ∷ ys) vs e f g =
    let t = same-divisions xs us ys vs (cc e) (λ b r m k l. f b r m k (cc (e, l))) (λ b r m k l. g b r m k (cc (e, l))) in (cc (e, t.0), t.1)

module _ (limit : ℕ) (text : List ℕ) where
  -- no front goes further than a stop
  no-further : {a b : ℕ} (x : IsStop limit text a) (y : IsStop limit text b) (c : ℕ) (r m : List ℕ) → x.behind ≡ c ∷ r → y.before ≡ x.before ++ c ∷ m → ⊥
  no-further x y c r m k e =
      let f = y.right in
      let longer : y.before ++ f.0 ≡ (x.before ++ c ∷ []) ++ (m ++ f.0) = rw e (simp append_assoc) in
      x.wrong c r k (m ++ f.0, subst (λ (t : List ℕ). IsSpelled limit (encode_utf8_all t)) longer f.1)

  -- a version has none
  pub flaw_none : (w : Wrong) (a : ℕ) → IsFlaw limit text (At w a) → (Some (At w a) ≡ None) ↔ ((v : VersionValue) × IsVersionText limit text v)
  flaw_none w a x = (λ e. cc e, λ h. absurd (x.1.0.none (record { version = h.0; middle = h.1.1; trimmed = h.1.2; is = h.1.3 })))

  pub flaw_only : (w : Wrong) (a : ℕ) → IsFlaw limit text (At w a) → (g : Flaw) → IsFlaw limit text g → Some (At w a) ≡ Some g
  flaw_only w a x TooLong y = absurd (omega (arith, y, x.0))
  flaw_only w a x (At v b) y =
      let s = x.1.0 in
      let t = y.1.0 in
      let e = encodes_same (s.before ++ s.behind) (t.before ++ t.behind) (sym s.divided ∙ t.divided) in
      let same = same-divisions s.before s.behind t.before t.behind e (no-further s t) (no-further t s) in
      let g = x.1.1 in
      let h = subst (λ (t : List ℕ). GoesOn limit t) (sym same.0) y.1.1 in
      let wrong : wrong_of g.may g.great s.before s.behind ≡ wrong_of y.1.1.may y.1.1.great t.before t.behind =
      λ i. wrong_of (λ c. same-test (g.may c) (y.1.1.may c) _ (g.may_is c) (h.may_is c) i)
      (λ c. same-test (g.great c) (y.1.1.great c) _ (g.great_is c) (h.great_is c) i) (same.0 i) (same.1 i) in
      cc (s.place, t.place, same.0, x.1.2, wrong, y.1.2)
