-- Where the reader of numbers stops, the text is wrong there and has no version.
use Rattle.nodejs_semver.proofs.Common.{IfSome, IsAfterBlank, IsNumber, IsUtf8, List, None, Option, Some, VersionValue, [], ap, append_assoc, arith}
use Rattle.nodejs_semver.proofs.Common.{begins, cases_Bool, drop, drop_all, drop_more, encode_utf8, eqb, eqb-true, false, is_ascii_digit, length}
use Rattle.nodejs_semver.proofs.Common.{length-append, length-drop, list_all, nat_tests, refl, space_len, subst, suc, sym, take, take_rest, true}
use Rattle.nodejs_semver.proofs.{Common.{zero, ℕ, ◌*◌, ◌++◌, ◌+◌, ◌-◌, ◌<◌, ◌==◌, ◌↔◌, ◌∙◌, ◌∷◌, ◌≡◌, ◌≤◌}, Diagnosing.OneFlaw.{HasTail, Leads}}
use Rattle.nodejs_semver.proofs.Diagnosing.OneFlaw.{Numbers, Numeral, Place, begins_alike, first_numeral, lead_place, next_place, no_flaw}
use Rattle.nodejs_semver.{proofs.Diagnosing.OneFlaw.{numeral_begins, numeral_once, only_flaw}, specs.Diagnosis.VersionFlaws.{IsExact, IsExpectedAt}}
use Rattle.nodejs_semver.specs.{Diagnosis.VersionFlaws.{IsFlaw, IsFront, IsGreatAt}, Internal.Stuck.{IsWhole, Stuck, at_digit, at_dot, at_great}}
use Rattle.nodejs_semver.specs.{Internal.Stuck.{begins_dot, later}, declared.diagnosis.versions.VersionFlaw.VersionFlaw}
use Rattle.semver_core.proofs.{Reading.Boundaries.spaces-gone, Text.{Pieces.digits_grow, Texts.{divided_at, mark_is, number_begins}}}
use Rattle.semver_core.{proofs.Text.Trims.after_blank_drops_spaces, specs.{Failures.NoValue, Internal.Fronts.{begins_byte, build_front, marked_list}}}
use Rattle.semver_core.specs.Internal.{Fronts.pre_release_front, Reading.{build_at, list_at, mark_len, or_nothing, pre_release_at, qualified}}
use Rattle.semver_core.specs.{Internal.Reading.triple_at, Text.{Parsing.Parses, VersionText.Reads}, declared.TheConstants.MAX_LENGTH}
use Rattle.std.proofs.{Common.{MatchOption, slice_range}, Math.Seq.{take-add, take-append_seam}, lemmas.List.{drop-drop, take-append-drop}}
use Rattle.std.specs.{Char.digit_value, Str.Parse.{digits_value, digits_value_after}}
use Rattle.nodejs_semver.specs.declared.diagnosis.versions.VersionFlaw.TheVariants as Flaw

-- so many dots and zeros
dots : ℕ → List ℕ
dots zero = []
dots (suc k) = 46 ∷ 48 ∷ dots k

numeral : (limit c : ℕ) (rest : List ℕ) → 9 ≤ limit → is_ascii_digit c ≡ true → begins is_ascii_digit rest ≡ false
    → Numeral limit (c ∷ rest) rest
numeral limit c rest nine h e =
    record {
      digits = c ∷ [];
      n = digits_value 10 (c ∷ []);
      divided = refl;
      is = record { number = grind (arith, nat_tests); ended = e };
    }

zeros : (limit k c : ℕ) → 9 ≤ limit → is_ascii_digit c ≡ true → Numbers limit k (c ∷ dots k) []
unfolding dots
zeros limit zero c nine h = numeral limit c [] nine h refl
zeros limit (suc k) c nine h = (48 ∷ dots k, numeral limit c (46 ∷ 48 ∷ dots k) nine h refl, zeros limit k 48 nine refl)

-- ---- what is right at a place, and what is not

right-digit : (limit : ℕ) (Starts : List ℕ → Type 0) (front : List ℕ) (k : ℕ) → 9 ≤ limit → Place limit Starts front k
    → (c : ℕ) → is_ascii_digit c ≡ true → IsFront limit (front ++ c ∷ [])
right-digit limit Starts front k nine p c h = (dots k, rw append_assoc (p.whole (c ∷ dots k) (zeros limit k c nine h)))

right-dot : (limit : ℕ) (Starts : List ℕ → Type 0) (front d : List ℕ) (n k : ℕ) → 9 ≤ limit → Place limit Starts front (suc k)
    → IsNumber limit d n → (c : ℕ) → eqb c 46 ≡ true → IsFront limit ((front ++ d) ++ c ∷ [])
right-dot limit Starts front d n k nine p number c h =
    let rest = 48 ∷ dots k in
    let joined : ((front ++ d) ++ c ∷ []) ++ rest ≡ front ++ (d ++ 46 ∷ rest) = rw (eqb-true c 46 h) (simp append_assoc) in
    let first : Numeral limit (d ++ 46 ∷ rest) (46 ∷ rest) =
    record { digits = d; n = n; divided = refl; is = record { number = number; ended = refl } } in
    (rest, rw joined (p.whole (d ++ 46 ∷ rest) (rest, first, zeros limit k 48 nine refl)))

no-digit : (limit : ℕ) (Starts : List ℕ → Type 0) (front : List ℕ) (k : ℕ) → Place limit Starts front k → (text : List ℕ)
    → Starts text → begins is_ascii_digit text ≡ false → NoValue (Reads limit (front ++ text))
no-digit limit Starts front k p text s h = λ v r.
    let tail = r.pre_release ++ (r.build ++ r.rest) in
    let found = first_numeral limit k text tail (p.only text tail s (v, r, refl)) in
    cc (sym h ∙ numeral_begins limit text found.0 found.1)

no-dot-yet : (limit : ℕ) (Starts : List ℕ → Type 0) (front : List ℕ) (k : ℕ) → Place limit Starts front k
    → IsFront limit (front ++ 46 ∷ []) → ⊥
no-dot-yet limit Starts front k p f =
    let w = subst (λ (t : List ℕ). IsWhole limit t) (append_assoc front (46 ∷ []) f.0) f.1 in
    no-digit limit Starts front k p (46 ∷ f.0) (p.dot f.0) refl w.0 w.1

great-begins : (limit : ℕ) (d rest : List ℕ) → list_all is_ascii_digit d ≡ true → limit < digits_value 10 d
    → begins is_ascii_digit (d ++ rest) ≡ true
great-begins limit [] rest each above = absurd (omega arith)
great-begins limit (c ∷ d) rest each above = grind arith

-- a whole run of digits is no less than digits at its front
grown : (v : ℕ) (d e x y : List ℕ) → list_all is_ascii_digit d ≡ true → begins is_ascii_digit y ≡ false → d ++ x ≡ e ++ y
    → digits_value_after 10 v d ≤ digits_value_after 10 v e
grown v [] e x y each ended same = digits_grow v e
grown v (c ∷ d) [] x y each ended same = grind arith
grown v (c ∷ d) (b ∷ e) x y each ended same = grind (arith, grown (v * 10 + digit_value c) d e x y)

-- digits of a number that is too great, whatever follows them
no-great : (limit : ℕ) (Starts : List ℕ → Type 0) (front : List ℕ) (k : ℕ) → Place limit Starts front k → (d rest : List ℕ)
    → list_all is_ascii_digit d ≡ true → limit < digits_value 10 d → NoValue (Reads limit (front ++ (d ++ rest)))
no-great limit Starts front k p d rest each above = λ v r.
    let tail = r.pre_release ++ (r.build ++ r.rest) in
    let starts = p.digit (d ++ rest) (great-begins limit d rest each above) in
    let found = first_numeral limit k (d ++ rest) tail (p.only (d ++ rest) tail starts (v, r, refl)) in
    let m = found.1 in
    absurd (omega (arith, above, m.is.number.value, m.is.number.safe, grown 0 d m.digits rest found.0 each m.is.ended m.divided))

no-dot : (limit : ℕ) (Starts : List ℕ → Type 0) (front d : List ℕ) (n k : ℕ) → Place limit Starts front (suc k)
    → IsNumber limit d n → (text : List ℕ)
    → begins is_ascii_digit text ≡ false → begins_dot text ≡ false → NoValue (Reads limit ((front ++ d) ++ text))
no-dot limit Starts front d n k p number text digit dot = λ v r.
    let tail = r.pre_release ++ (r.build ++ r.rest) in
    let h : HasTail limit (front ++ (d ++ text)) tail =
    subst (λ (t : List ℕ). HasTail limit t tail) (append_assoc front d text) (v, r, refl) in
    let found = p.only (d ++ text) tail (p.digit (d ++ text) (number_begins d text number.some number.each)) h in
    let same : text ≡ 46 ∷ found.0 =
    numeral_once limit d text (46 ∷ found.0) n (record { number = number; ended = digit }) found.1 in
    cc (sym dot ∙ ap (λ (t : List ℕ). begins_dot t) same)

-- ---- places

-- the text up to the end of a piece
cut : (text : List ℕ) (at end : ℕ) (piece : List ℕ) → at ≤ length text → end ≤ length text → drop at text ≡ piece ++ drop end text
    → take end text ≡ take at text ++ piece
cut text at end piece a e d =
    grind (arith, nat_tests, take-append_seam piece (drop end text), length-append piece (drop end text), length-drop at text, length-drop end text, take-add at (length piece) text)

dot-next : (text : List ℕ) (at : ℕ) → begins_dot (drop at text) ≡ true → (drop at text ≡ 46 ∷ drop (at + 1) text)
    × (at + 1 ≤ length text)
dot-next text at h =
    let within : at < length text = grind (arith, drop_all) in
    let next = drop_more text at 0 within in
    (grind (arith, next, eqb-true), omega (arith, within))

here : (limit : ℕ) (text : List ℕ) (at : ℕ) → NoValue (Reads limit (take at text ++ drop at text)) → NoValue (Reads limit text)
here limit text at h = subst (λ (t : List ℕ). NoValue (Reads limit t)) (take-append-drop at text) h

-- a flaw of a text that is not too long, and has no version
abbrev pub IsWrong : ℕ → List ℕ → VersionFlaw → Type 0
IsWrong limit text (Flaw.NumberTooGreat at) = IsGreatAt limit text at
IsWrong limit text (Flaw.Expected what at) = IsExpectedAt limit text what at
IsWrong limit text _ = ⊥

pub stuck_wrong : (limit : ℕ) (text : List ℕ) (Starts : List ℕ → Type 0) (k at : ℕ) (flaw : VersionFlaw) → 9 ≤ limit
    → at ≤ length text
    → Place limit Starts (take at text) k → Starts (drop at text) → Stuck limit text k at flaw → IsWrong limit text flaw
stuck_wrong limit text Starts k at flaw nine inside p s (at_great j a great) = record {
  inside = inside;
  right = right-digit limit Starts (take a text) j nine p;
  great = great;
  wrong = λ f. let w = rw append_assoc at f.1 in no-great limit Starts (take a text) j p great.0 f.0 great.3 great.5 w.0 w.1;
  none = here limit text a (rw great.2 (no-great limit Starts (take a text) j p great.0 great.1 great.3 great.5));
  no_dot = no-dot-yet limit Starts (take a text) j p;
  begun = p.begun;
}
stuck_wrong limit text Starts k at flaw nine inside p s (at_digit j a none) = record {
  inside = inside;
  right = right-digit limit Starts (take a text) j nine p;
  apart = none;
  wrong = λ c rest other e.
      no-digit limit Starts (take a text) j p (encode_utf8 c ++ other) (p.local c rest other (subst Starts e s))
      (begins_alike is_ascii_digit c other rest ∙ (ap (λ (t : List ℕ). begins is_ascii_digit t) (sym e) ∙ none));
  none = here limit text a (no-digit limit Starts (take a text) j p (drop a text) s none);
  dot = λ f. absurd (no-dot-yet limit Starts (take a text) j p f);
}
stuck_wrong limit text Starts k at flaw nine inside p s (at_dot j a end found none) =
    let m = found.piece in
    let front : take end text ≡ take a text ++ m.piece = cut text a end m.piece inside found.inside m.divided in
    record {
      inside = found.inside;
      right = λ c h. rw front (right-dot limit Starts (take a text) m.piece found.n j nine p m.is.number c h);
      apart = m.is.ended;
      wrong = λ c rest other e. rw front
          (no-dot limit Starts (take a text) m.piece found.n j p m.is.number (encode_utf8 c ++ other)
          (begins_alike is_ascii_digit c other rest ∙ (ap (λ (t : List ℕ). begins is_ascii_digit t) (sym e) ∙ m.is.ended))
          (begins_alike (λ b. b == 46) c other rest ∙ (ap (λ (t : List ℕ). begins_dot t) (sym e) ∙ none)));
      none = here limit text end (subst (λ (t : List ℕ). NoValue (Reads limit (t ++ drop end text))) (sym front)
          (no-dot limit Starts (take a text) m.piece found.n j p m.is.number (drop end text) m.is.ended none));
      dot = λ f. refl;
    }
stuck_wrong limit text Starts k at flaw nine inside p s (later j a end f found dot more) =
    let m = found.piece in
    let next = dot-next text end dot in
    let piece = m.piece ++ 46 ∷ [] in
    let divided : drop a text ≡ piece ++ drop (end + 1) text =
    m.divided ∙ (ap (λ (t : List ℕ). m.piece ++ t) next.0 ∙ sym (append_assoc m.piece (46 ∷ []) (drop (end + 1) text))) in
    let front : take (end + 1) text ≡ take a text ++ piece = cut text a (end + 1) piece inside next.1 divided in
    stuck_wrong limit text (λ _. Unit {0}) j (end + 1) f nine next.1
    (rw front (next_place limit Starts (take a text) m.piece found.n j p m.is.number)) tt more

-- ---- behind the mark and the whitespace

unmarked : (text : List ℕ) (start : ℕ) → mark_len text ≤ start → take start text ≡ [] → mark_len (drop start text) ≡ 0
unmarked text start le e = grind (arith, drop_all)

record Begun (limit : ℕ) (text : List ℕ) (start : ℕ) : Type 0 where
  inside : start ≤ length text
  place : Place limit (Leads (take start text)) (take start text) 2
  leads : Leads (take start text) (drop start text)
  divided : text ≡ take (mark_len text) text ++ (slice_range text (mark_len text) start ++ drop start text)

begun : (limit : ℕ) (text : List ℕ) (start : ℕ) → IsUtf8 text → IsAfterBlank text (mark_len text) start → Begun limit text start
begun limit text start utf8 a =
    let k = mark_len text in
    let blank = slice_range text k start in
    let place : k + (start - k) ≡ start = omega (arith, a.after) in
    let rest : drop k text ≡ blank ++ drop start text =
    sym (take-append-drop (start - k) (drop k text))
    ∙ ap (λ (t : List ℕ). blank ++ t) (drop-drop (start - k) k text ∙ ap (λ (n : ℕ). drop n text) place) in
    let front : take start text ≡ take k text ++ blank =
    cut text k start blank (omega (arith, a.after, a.boundary.0)) a.boundary.0 rest in
    record {
      inside = a.boundary.0;
      place = rw front (lead_place limit (take k text) blank (mark_is text) a.blank);
      leads = (
        ap (λ (t : List ℕ). space_len t) (after_blank_drops_spaces text k start utf8 a) ∙ spaces-gone 0 (drop k text),
        unmarked text start a.after,
      );
      divided = sym (take-append-drop k text) ∙ ap (λ (t : List ℕ). take k text ++ t) rest;
    }

-- ---- the answers

wrong_flaw : (limit : ℕ) (text : List ℕ) (flaw : VersionFlaw) → length text ≤ MAX_LENGTH → IsWrong limit text flaw
    → IsFlaw limit text flaw × (IsExact limit text → ⊥)
wrong_flaw limit text Flaw.TooLong short w = absurd w
wrong_flaw limit text (Flaw.Ignored at) short w = absurd w
wrong_flaw limit text flaw short w = ((short, w), λ e. w.none e.0 e.1.reads)

-- the answer where the reader stops
pub stuck_flaw : (limit : ℕ) (text : List ℕ) (start : ℕ) (flaw : VersionFlaw) → 9 ≤ limit → IsUtf8 text
    → IsAfterBlank text (mark_len text) start
    → length text ≤ MAX_LENGTH → Stuck limit text 2 start flaw → IsFlaw limit text flaw × (IsExact limit text → ⊥)
stuck_flaw limit text start flaw nine utf8 a short h =
    grind (arith, nat_tests, stuck_wrong, wrong_flaw limit text flaw short, begun limit text start utf8 a)

-- three numbers were read, and the place is behind what goes on with them
pub record Ended (limit : ℕ) (text : List ℕ) (start at : ℕ) : Type 0 where
  pub numbers : ℕ × ℕ × ℕ × ℕ
  pub triple : triple_at limit text start ≡ Some numbers
  pub place : at ≡ (build_at text (pre_release_at text numbers.3).1).1

-- a text is exact or has a flaw
abbrev pub IsDecided : ℕ → List ℕ → Option VersionFlaw → Type 0
IsDecided limit text found = MatchOption found (IsExact limit text) (λ flaw. IsFlaw limit text flaw × (IsExact limit text → ⊥))

pub decided : (limit : ℕ) (text : List ℕ) (found : Option VersionFlaw) → IsDecided limit text found
    → ((found ≡ None) ↔ IsExact limit text) × IfSome found (λ flaw. IsFlaw limit text flaw)
decided limit text found h = grind arith

pub decided_only : (limit : ℕ) (text : List ℕ) (found : Option VersionFlaw) → IsDecided limit text found → (flaw : VersionFlaw)
    → IsFlaw limit text flaw → found ≡ Some flaw
decided_only limit text found h = let d = decided limit text found h in only_flaw limit text found d.0 d.1

pub ruleset flaws_decided = (decided, decided_only)

-- what is left behind the identifiers at a place
marked-left : (text : List ℕ) (at start : ℕ)
    → (marked_list (drop at text) (drop start text)).1 ≡ drop (or_nothing at (list_at text start)).1 text
marked-left text at start = grind (arith, drop-drop)

pre-left : (text : List ℕ) (at : ℕ) → (pre_release_front (drop at text)).1 ≡ drop (pre_release_at text at).1 text
unfolding pre_release_front
pre-left text at =
    grind (arith, nat_tests, marked-left text at (at + 1), marked-left text at at, cases_Bool (begins_byte 45 (drop at text)), drop-drop 1 at text)

build-left : (text : List ℕ) (at : ℕ) → (build_front (drop at text)).1 ≡ drop (build_at text at).1 text
unfolding build_front
build-left text at =
    grind (arith, nat_tests, marked-left text at (at + 1), cases_Bool (begins_byte 43 (drop at text)), drop-drop 1 at text)

-- what is left behind a version
abbrev pub IsLeft : ℕ → List ℕ → ℕ → List ℕ → Type 0
IsLeft limit text start ignored = (at : ℕ) × Ended limit text start at × (ignored ≡ drop at text)

pub ended : (limit : ℕ) (text bytes : List ℕ) (read built : List ℕ × List ℕ) (start end : ℕ) → bytes ≡ text
    → (t : ℕ × ℕ × ℕ × ℕ) × (triple_at limit bytes start ≡ Some t) × (t.3 ≡ end)
    → read ≡ pre_release_front (take (length bytes - end) (drop end bytes)) → built ≡ build_front read.1
    → IsLeft limit text start built.1
ended limit text bytes read built start end same t pre build = grind (arith, nat_tests, build-left, take_rest, pre-left)

-- the version of such a text, and what is left behind it
parsed : (limit : ℕ) (text : List ℕ) (start at : ℕ) → IsUtf8 text → IsAfterBlank text (mark_len text) start
    → length text ≤ MAX_LENGTH → Ended limit text start at
    → (v : VersionValue) × (p : Parses limit text v) × (p.reads.rest ≡ drop at text)
parsed limit text start at utf8 a short e =
    let b = begun limit text start utf8 a in
    let d = divided_at limit text (take (mark_len text) text) (slice_range text (mark_len text) start) start e.numbers b.divided
    (mark_is text) a.blank e.triple in (
      qualified text e.numbers,
      record { short = short; reads = d.reads },
      d.rest_is ∙ ap (λ (n : ℕ). drop n text) (sym e.place),
    )

-- where nothing is left, and where something is
pub whole_left : (limit : ℕ) (text : List ℕ) (start : ℕ) (ignored : List ℕ) → IsUtf8 text
    → IsAfterBlank text (mark_len text) start
    → length text ≤ MAX_LENGTH → IsLeft limit text start ignored → length ignored ≡ 0 → IsExact limit text
whole_left limit text start ignored utf8 a short e none =
    let p = parsed limit text start e.0 utf8 a short e.1 in (p.0, p.1, p.2 ∙ (sym e.2 ∙ empty ignored none))
  where
    empty : (t : List ℕ) → length t ≡ 0 → t ≡ []
    empty [] h = refl
    empty (b ∷ t) h = absurd (omega (arith, h))

pub ignored_left : (limit : ℕ) (text : List ℕ) (start n : ℕ) (ignored : List ℕ) → IsUtf8 text
    → IsAfterBlank text (mark_len text) start → length text ≤ MAX_LENGTH → IsLeft limit text start ignored → 0 < length ignored
    → n ≡ length text - length ignored → IsFlaw limit text (Flaw.Ignored n) × (IsExact limit text → ⊥)
ignored_left limit text start n ignored utf8 a short e some place =
    let p = parsed limit text start e.0 utf8 a short e.1 in
    let len : length ignored ≡ length text - e.0 = ap length e.2 ∙ length-drop e.0 text in
    let same : n ≡ e.0 = omega (arith, some, len, place) in
    let flaw : IsFlaw limit text (Flaw.Ignored e.0) = (p.0, p.1, p.2, omega (arith, some, len)) in
    rw same (flaw, λ x. no_flaw limit text (Flaw.Ignored e.0) x flaw)
