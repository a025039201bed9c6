-- The words of node-semver's range texts: the functions that read them find exactly what the statement has, one word after another.
use Rattle.npm_words.proofs.Common.{AreWords, BeginsAs, BeginsWord, Bool, Comparison, Front, IsBlank, IsPlace, IsPlaces, IsUtf8, IsWord, List}
use Rattle.npm_words.proofs.Common.{NoValue, None, Option, Signed, Some, [], and_parts, ap, append-nil, append_assoc, are_marks, arith, begins_byte}
use Rattle.npm_words.proofs.Common.{behind_ignored, bind_some, capped_in, capped_partial, common_steps, cond_some, drop, drop_at, drop_spaces, false}
use Rattle.npm_words.proofs.Common.{first_as, first_word, inl, inr, is_boundary, is_empty, is_lost, is_mark, is_short_word, length, length-append}
use Rattle.npm_words.proofs.Common.{list_all, marked_word, marks_len, nat_tests, npm_sign, refl, same_Some, signed_word, space_len, subst, suc, sym}
use Rattle.npm_words.proofs.Common.{take, take-append-drop, take_at, take_rest, true, word, words_within, zero, ℕ, ◌&&◌, ◌++◌, ◌-◌, ◌<◌, ◌>>?◌, ◌||◌}
use Rattle.npm_words.proofs.{Common.{◌∙◌, ◌∷◌, ◌≡◌, ◌≤◌}, Grammar.{Ignored.{ignored-found, ignored-read}, PartialLaw.{boundary-quiet, digits-begin}}}
use Rattle.npm_words.proofs.Grammar.{PartialLaw.{front-text, places-found, places-read}, Runs.{run-many, run-none}, Signs.{blank-cases, is_open}}
use Rattle.npm_words.{proofs.Grammar.Signs.{marks-all, open-first, sign-found, sign-taken}, specs.Internal.Words.{ended_word, places_front}}
use Rattle.npm_words.specs.{Internal.Words.signed_or, RangeText.{formed, ignored, more}, Table.{Partial, Sign, table}}
use Rattle.semver_core.proofs.Reading.Boundaries.{boundary-of, boundary-utf8, skips-is, skips-of, skips-utf8, spaces-le, suffix-boundary}
use Rattle.semver_core.proofs.Reading.{Bytes.{begins-on, begins-some, begins_component, is_component_byte}, Steps.option-cases}
use Rattle.semver_core.specs.Text.Boundaries.{SkipsBlank}

-- ---- how partials and marks begin

place-begins : (loose : Bool) (x : List ℕ) (a : Option ℕ) → IsPlace loose x a → begins_component x ≡ true
place-begins loose x a h = grind (arith, nat_tests, common_steps, digits-begin)

pub places-begin : (loose : Bool) (x rest : List ℕ) (p : Partial) → IsPlaces loose x p → begins_component (x ++ rest) ≡ true
places-begin loose x rest p h = grind (arith, nat_tests, common_steps, begins-on, is_component_byte, place-begins)

pub marks-counted : (marks u : List ℕ) → list_all is_mark marks ≡ true → begins_component u ≡ true → marks_len (marks ++ u) ≡ length marks
marks-counted marks u h k = let none = run-none is_mark u (grind (arith, nat_tests)) in omega (arith, run-many is_mark marks u h)

-- the partial behind marks
pub marks-dropped : (loose : Bool) (marks x : List ℕ) (p : Partial) → list_all is_mark marks ≡ true → IsPlaces loose x p
    → drop (marks_len (marks ++ x)) (marks ++ x) ≡ x
marks-dropped loose marks x p h k = grind (arith, drop_at, marks-counted, append-nil, places-begin)

-- ---- one word as the code has it

word-capped : (loose : Bool) (s : Sign) (text : List ℕ) (n : ℕ) (p : Partial × List ℕ)
    → ended_word loose s text n (capped_partial p.0, p.1) ≡ first_as capped_in (ended_word loose s text n p)
word-capped loose s text n p = grind (arith, nat_tests, common_steps)

pub word_here : (loose : Bool) (text : List ℕ) (s : Sign × List ℕ) (at : ℕ) (o : Front Partial) → s ≡ npm_sign text → at ≡ marks_len s.1
    → o ≡ first_as capped_partial (places_front loose (take (length s.1 - at) (drop at s.1)))
    → (o >>? λ p. ended_word loose s.0 s.1 (marks_len s.1) p) ≡ first_as capped_in (signed_word loose text)
unfolding signed_word
word_here loose text s at o e is read = grind (arith, nat_tests, common_steps, take_rest, word-capped)

-- ---- one word: what is written is read

marked-read : (loose : Bool) (s : Sign × List ℕ) (p : Partial) (marks x rest : List ℕ) → s.1 ≡ marks ++ (x ++ rest) → are_marks loose s.0 p marks ≡ true
    → IsPlaces loose x p → is_boundary rest ≡ true
    → marked_word loose s (places_front loose (drop (marks_len s.1) s.1)) ≡ Some ((s.0, p, marks ++ x), rest)
marked-read loose s p marks x rest e m k b =
    grind (arith, nat_tests, common_steps, marks-counted, marks-all, places-begin, places-read, boundary-quiet, append_assoc, front-text, drop_at, take_at)

pub record WordRead (loose include : Bool) (text x : List ℕ) (cs : List Comparison) (rest : List ℕ) : Type 0 where
  pub word : Signed
  pub read : signed_word loose text ≡ Some (word, rest)
  pub same : table include word.0 word.1 word.2 ≡ cs
  pub partial : drop (marks_len word.2) word.2 ≡ x

pub word-read : (loose include : Bool) (w x rest : List ℕ) (cs : List Comparison) → IsWord loose include w x cs → is_boundary rest ≡ true
    → WordRead loose include (w ++ rest) x cs rest
unfolding signed_word
word-read loose include w y rest cs (word signs marks x s p h m e k) b =
    let u = x ++ rest in
    let t = sign-taken loose signs s p marks x u h m e (places-begin loose x rest p k) in
    let whole : (signs ++ (marks ++ x)) ++ rest ≡ signs ++ (marks ++ u) = simp append_assoc refl in
    let r = npm_sign (signs ++ (marks ++ u)) in
    record {
      word = (r.0, p, t.left ++ x);
      read = rw whole (marked-read loose r p t.left x rest t.is t.marked k b);
      same = t.same include;
      partial = marks-dropped loose t.left x p (marks-all loose r.0 p t.left t.marked) k;
    }

-- ---- whitespace

pub blank-space : (blank rest : List ℕ) → IsBlank blank → 0 < length blank → 0 < space_len (blank ++ rest)
blank-space blank rest h some = grind (arith, blank-cases blank h)

pub blank-boundary : (blank rest : List ℕ) → IsBlank blank → 0 < length blank → is_boundary (blank ++ rest) ≡ true
unfolding is_boundary
blank-boundary blank rest h some = grind (arith, nat_tests, common_steps, blank-space)

-- ---- one word: what is read is written

pub record WordAt (loose include : Bool) (text : List ℕ) (w : Signed) (rest : List ℕ) : Type 0 where
  pub is : BeginsWord loose include text (drop (marks_len w.2) w.2) rest (table include w.0 w.1 w.2)
  pub utf8 : IsUtf8 rest
  pub shorter : length rest < length text

-- without a sign no `=` is at the front, since it would be one
none-first : (text : List ℕ) → text ≡ (npm_sign text).1 → begins_byte 61 text ≡ false
unfolding npm_sign
none-first [] h = refl
none-first (b ∷ rest) h = grind (arith, nat_tests, spaces-le rest)

first-take : (n : ℕ) (text : List ℕ) → begins_byte 61 text ≡ false → begins_byte 61 (take n text) ≡ false
first-take n text h = grind arith

unsigned : (text signs : List ℕ) (n : ℕ) → text ≡ signs ++ (npm_sign text).1
    → ((is_empty signs || is_open (npm_sign text).0) && begins_byte 61 (take n (npm_sign text).1)) ≡ false
unsigned text [] n e = first-take n (npm_sign text).1 (rw e at (none-first text e))
unsigned text (b ∷ signs) n e = grind (arith, first-take, open-first)

pub places-some : (loose : Bool) (x : List ℕ) (p : Partial) → IsPlaces loose x p → 0 < length x
places-some loose x p h = begins-some is_component_byte x (rw (append-nil x) at (places-begin loose x [] p h))

pub signed-found : (loose include : Bool) (text : List ℕ) (w : Signed) (rest : List ℕ) → IsUtf8 text → signed_word loose text ≡ Some (w, rest)
    → WordAt loose include text w rest
unfolding signed_word
signed-found loose include text w rest u h =
    let s = npm_sign text in
    let at_sign = sign-found text u in
    let n = marks_len s.1 in
    let marks = take n s.1 in
    let p = bind_some (places_front loose (drop n s.1)) (λ p. ended_word loose s.0 s.1 n p) (w, rest) h in
    let whole_text = take (length s.1 - length p.0.1) s.1 in
    let t = cond_some (are_marks loose s.0 p.0.0 marks && is_boundary p.0.1) ((s.0, p.0.0, whole_text), p.0.1) (w, rest) p.2 in
    let tests = and_parts (are_marks loose s.0 p.0.0 marks) (is_boundary p.0.1) t.0 in
    let part = places-found loose (drop n s.1) p.0.0 p.0.1 p.1 in
    let front = marks ++ part.piece in
    let behind : s.1 ≡ front ++ p.0.1 = grind (arith, take-append-drop n s.1, append_assoc) in
    let front_is : whole_text ≡ front = ap (λ (t : List ℕ). take (length t - length p.0.1) t) behind ∙ front-text front p.0.1 in
    let all = at_sign.signs ++ front in
    let whole : text ≡ all ++ p.0.1 = at_sign.split ∙ ap (λ (t : List ℕ). at_sign.signs ++ t) behind ∙ sym (append_assoc at_sign.signs front p.0.1) in
    let is : IsWord loose include all part.piece (table include s.0 p.0.0 whole_text) =
    rw front_is (word at_sign.signs marks part.piece s.0 p.0.0 at_sign.is tests.0 (unsigned text at_sign.signs n at_sign.split) part.is) in
    let ended = suffix-boundary all p.0.1 (subst (λ (t : List ℕ). IsUtf8 t) whole u) tests.1 in
    let begin : BeginsWord loose include text part.piece p.0.1 (table include s.0 p.0.0 whole_text) = (all, whole, is, ended) in
    let dropped : part.piece ≡ drop (marks_len whole_text) whole_text =
    sym (ap (λ (t : List ℕ). drop (marks_len t) t) front_is ∙ marks-dropped loose marks part.piece p.0.0 (marks-all loose s.0 p.0.0 marks tests.0) part.is) in
    subst (λ (r : Signed × List ℕ). WordAt loose include text r.0 r.1) t.1 (record {
      is = subst (λ (x : List ℕ). BeginsWord loose include text x p.0.1 (table include s.0 p.0.0 whole_text)) dropped begin;
      utf8 = boundary-utf8 all p.0.1 (subst (λ (t : List ℕ). IsUtf8 t) whole u) ended;
      shorter = omega (arith, simp length-append at (ap length whole), places-some loose part.piece p.0.0 part.is);
    })

-- ---- the first word

pub first-read : (loose include : Bool) (text rest : List ℕ) (cs : Option (List Comparison)) → IsUtf8 text → BeginsAs loose include text rest cs
    → first_word loose include text ≡ Some (cs, rest)
unfolding first_word
first-read loose include text rest cs u (formed partial behind ds w short s) =
    let r = word-read loose include w.0 partial behind ds w.2 (boundary-of behind w.3) in
    let here : signed_word loose text ≡ Some (r.word, behind) = ap (λ (t : List ℕ). signed_word loose t) w.1 ∙ r.read in
    rw (here, r.partial, short, r.same, skips-of behind rest (boundary-utf8 w.0 behind (subst (λ (t : List ℕ). IsUtf8 t) w.1 u) w.3) s) refl
first-read loose include text rest cs u (ignored behind l some absent i s) =
    let none : signed_word loose text ≡ None = elim (option-cases (signed_word loose text)) [
      | inl e ↦ e
      | inr w ↦ absurd (absent (drop (marks_len w.0.0.2) w.0.0.2) w.0.1 (table include w.0.0.0 w.0.0.1 w.0.0.2)
          (signed-found loose include text w.0.0 w.0.1 u w.1).is)
    ] in
    let end = ignored-read text behind u i in
    rw (none, l, end) (ap (λ (t : List ℕ). Some (None, t)) (skips-of behind rest (rw end at (ignored-found text u).utf8) s))

-- what is read at the front
pub record FirstAt (loose include : Bool) (text : List ℕ) (cs : Option (List Comparison)) (rest : List ℕ) : Type 0 where
  pub is : BeginsAs loose include text rest cs
  pub utf8 : IsUtf8 rest
  pub shorter : length rest < length text

pub first-found : (loose include : Bool) (text : List ℕ) (cs : Option (List Comparison)) (rest : List ℕ) → IsUtf8 text → 0 < length text
    → first_word loose include text ≡ Some (cs, rest) → FirstAt loose include text cs rest
unfolding first_word
first-found loose include text cs rest u some h = go (signed_word loose text) refl h
  where
    skipped : (behind : List ℕ) → IsUtf8 behind
        → SkipsBlank behind (drop_spaces behind) × IsUtf8 (drop_spaces behind) × (length (drop_spaces behind) ≤ length behind)
    skipped behind v = let s = skips-is behind v in (s, skips-utf8 behind (drop_spaces behind) s v, spaces-le behind)

    go : (o : Front Signed) → signed_word loose text ≡ o → signed_or loose include text o ≡ Some (cs, rest) → FirstAt loose include text cs rest
    go None e k =
        let end = behind_ignored (length text) text in
        let t = cond_some loose (None, drop_spaces end) (cs, rest) k in
        let i = ignored-found text u in
        let s = skipped end i.utf8 in
        let absent : (partial behind : List ℕ) → NoValue (BeginsWord loose include text partial behind) = λ partial behind ds w.
        let r = word-read loose include w.0 partial behind ds w.2 (boundary-of behind w.3) in
        cc (e, ap (λ (t : List ℕ). signed_word loose t) w.1 ∙ r.read) in
        subst (λ (r : Option (List Comparison) × List ℕ). FirstAt loose include text r.0 r.1) t.1
        (record { is = ignored end t.0 (grind (arith, nat_tests)) absent i.is s.0; utf8 = s.1; shorter = omega (arith, i.less, some) })
    go (Some w) e k =
        let t = cond_some (is_short_word loose w.0.2) (Some (table include w.0.0 w.0.1 w.0.2), drop_spaces w.1) (cs, rest) k in
        let f = signed-found loose include text w.0 w.1 u e in
        let s = skipped w.1 f.utf8 in
        subst (λ (r : Option (List Comparison) × List ℕ). FirstAt loose include text r.0 r.1) t.1
        (record {
          is = formed (drop (marks_len w.0.2) w.0.2) w.1 (table include w.0.0 w.0.1 w.0.2) f.is t.0 s.0;
          utf8 = s.1;
          shorter = omega (arith, s.2, f.shorter);
        })

-- ---- words

words-step : (loose include : Bool) (n : ℕ) (text : List ℕ) → 0 < length text → words_within loose include (suc n) text
    ≡ (first_word loose include text >>? λ w. words_within loose include n w.1 >>? λ ds. Some (w.0 ∷ ds))
unfolding words_within
words-step loose include n text some = grind arith

begins-longer : (loose include : Bool) (text rest : List ℕ) (cs : Option (List Comparison)) → IsUtf8 text → BeginsAs loose include text rest cs
    → 0 < length text
begins-longer loose include text rest cs u (ignored behind l some absent i s) = grind (arith, nat_tests)
begins-longer loose include text rest cs u (formed partial behind ds w short s) =
    let r = word-read loose include w.0 partial behind ds w.2 (boundary-of behind w.3) in
    omega (arith, (signed-found loose include text r.word behind u (ap (signed_word loose) w.1 ∙ r.read)).shorter)

pub words-read : (loose include : Bool) (n : ℕ) (text : List ℕ) (all : List (Option (List Comparison))) → IsUtf8 text → AreWords loose include text all
    → length text ≤ n → words_within loose include n text ≡ Some all
unfolding words_within
words-read loose include n text all u AreWords.none le = refl
words-read loose include zero text all u (more t rest cs ds h k) le = absurd (omega (arith, le, begins-longer loose include t rest cs u h))
words-read loose include (suc n) text all u (more t rest cs ds h k) le =
    grind (arith, nat_tests, common_steps, begins-longer, first-read, first-found, words-step, words-read loose include n rest ds)

pub words-found : (loose include : Bool) (n : ℕ) (text : List ℕ) (all : List (Option (List Comparison))) → IsUtf8 text
    → words_within loose include n text ≡ Some all → AreWords loose include text all
unfolding words_within
words-found loose include n [] all u h = rw (← same_Some _ _ h) AreWords.none
words-found loose include zero (b ∷ text) all u h = cc h
words-found loose include (suc n) (b ∷ text) all u h =
    let w = bind_some (first_word loose include (b ∷ text)) _ all h in
    let d = bind_some (words_within loose include n w.0.1) (λ ds. Some (w.0.0 ∷ ds)) all w.2 in
    let f = first-found loose include (b ∷ text) w.0.0 w.0.1 u (omega arith) w.1 in
    rw (← same_Some _ _ d.2) (more (b ∷ text) w.0.1 w.0.0 d.0 f.is (words-found loose include n w.0.1 d.0 f.utf8 d.1))

-- the number only bounds the words
pub words-enough : (loose include : Bool) (n m : ℕ) (text : List ℕ) → IsUtf8 text → length text ≤ n → length text ≤ m
    → words_within loose include n text ≡ words_within loose include m text
words-enough loose include n m text u h k =
    let as_many = λ (i j : ℕ) (le : length text ≤ j) (all : List (Option (List Comparison))) (e : words_within loose include i text ≡ Some all).
    words-read loose include j text all u (words-found loose include i text all u e) le in
    let one = option-cases (words_within loose include n text) in
    let other = option-cases (words_within loose include m text) in
    grind (arith, as_many n m k, as_many m n h)

-- strictly no word is ignored
pub strict-kept : (include : Bool) (text : List ℕ) (all : List (Option (List Comparison))) → AreWords false include text all → is_lost all ≡ false
strict-kept include text all h = grind (arith, nat_tests)
