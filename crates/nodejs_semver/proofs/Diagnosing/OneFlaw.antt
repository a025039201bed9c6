-- A text has one flaw: behind the place of a flaw no version text goes on.
use Rattle.nodejs_semver.proofs.Common.{Bool, IfSome, IsBlank, IsCharBoundary-before_ascii, IsNumber, IsUtf8, IsUtf8-drop, IsUtf8-take, IsWholeNumber}
use Rattle.nodejs_semver.proofs.Common.{List, NoPieceAt, None, Option, Some, VersionValue, [], and_parts, ap, append_assoc, arith, begins, cases_lt}
use Rattle.nodejs_semver.proofs.Common.{common_steps, drop, drop_at, drop_spaces, drop_spaces-blank, drop_spaces-none, encode_utf8, encode_utf8_all}
use Rattle.nodejs_semver.proofs.Common.{false, inl, inr, is_ascii_digit, is_whitespace, length, length-append, length-drop, length-take-le, list_all}
use Rattle.nodejs_semver.proofs.Common.{list_all-append, nat_tests, not, prefix_len, refl, release_value, space_len, subst, suc, sym, take, true}
use Rattle.nodejs_semver.proofs.{Common.{zero, ℕ, ◌++◌, ◌+◌, ◌-◌, ◌<◌, ◌↔◌, ◌∙◌, ◌∷◌, ◌≡◌, ◌≤◌}, Reading.PartialLaw.{build-solid, digits-solid}}
use Rattle.nodejs_semver.{proofs.Reading.PartialLaw.pre-solid, specs.Diagnosis.VersionFlaws.{IsExact, IsExpectedAt, IsFlaw, IsFront, IsGreatAt}}
use Rattle.nodejs_semver.specs.Internal.Stuck.{BeginsGreat, IsNumberAt, IsWhole, Stuck, at_digit, at_dot, at_great, begins_dot, later}
use Rattle.nodejs_semver.specs.declared.diagnosis.versions.{Expected.{Expected, TheVariants.{Digit, Dot}}, VersionFlaw.VersionFlaw}
use Rattle.semver_core.proofs.{Reading.{Bytes.{ends-append, is_solid}, Numbers.{digits-taken, run-ends}}, Text.Pieces.{number_complete, some_inside}}
use Rattle.semver_core.proofs.Text.{Runs.prefix_each, SpaceLaw.front_is_first_character, Spaces.after_spaces-end, Texts.{no_mark_at, number_begins}}
use Rattle.semver_core.{proofs.Text.Texts.read_at, specs.{Internal.Reading.{mark_len, number_at, triple_at}, Text.VersionText.{IsMark, Reads}}}
use Rattle.{semver_core.specs.Text.VersionText.{no_build, no_mark, no_pre_release}, std.proofs.Math.Seq.{drop-append_seam, get_or-append_seam}}
use Rattle.std.proofs.{Math.Seq.{take-add, take-append_seam}, lemmas.{List.{drop-drop, take-append-drop}, Str.Ascii.{IsAscii-cons, IsAscii-nil}}}
use Rattle.std.{proofs.lemmas.Str.{IsCharBoundary-from_take, IsUtf8-append, IsUtf8-encode, IsUtf8-from_ascii, IsUtf8-nil}, specs.Str.IsAscii}
use Rattle.std.specs.Str.Parse.{digits_value}
use lib.Utf8.{low_scalar}
use Rattle.nodejs_semver.specs.declared.diagnosis.versions.VersionFlaw.TheVariants as Flaw

run-some : (text : List ℕ) → begins is_ascii_digit text ≡ true → 0 < length (take (prefix_len is_ascii_digit text) text)
run-some text h = grind arith

number-is : (limit : ℕ) (text : List ℕ) (at end : ℕ) → at ≤ length text → (s : IsNumberAt limit text at end)
    → number_at limit text at ≡ Some (s.n, end)
number-is limit text at end inside s =
    let p = s.piece in
    let found = number_complete limit text at s.n p.piece (drop end text) p.divided p.is in
    grind (arith, found, ap length p.divided, length-append, length-drop)

-- three of them
pub triple_found : (limit : ℕ) (text : List ℕ) (at a b end : ℕ) → at ≤ length text → IsNumberAt limit text at a
    → begins_dot (drop a text) ≡ true
    → a + 1 ≤ length text → IsNumberAt limit text (a + 1) b → begins_dot (drop b text) ≡ true → b + 1 ≤ length text
    → IsNumberAt limit text (b + 1) end → (t : ℕ × ℕ × ℕ × ℕ) × (triple_at limit text at ≡ Some t) × (t.3 ≡ end)
triple_found limit text at a b end i m d j n e k p =
    let second = number-is limit text (a + 1) b j n in
    ((m.n, n.n, p.n, end), rw (number-is limit text at a i m, d, second, e, number-is limit text (b + 1) end k p) refl, refl)

-- where the reader stops: the run of digits is above the limit where it is no number
pub stuck_great : (limit : ℕ) (text : List ℕ) (at : ℕ) → begins is_ascii_digit (drop at text) ≡ true
    → ((n : ℕ) → NoPieceAt (λ digits rest. IsWholeNumber limit digits rest n) text at) → (k : ℕ)
    → Stuck limit text k at (Flaw.NumberTooGreat at)
stuck_great limit text at some none k =
    let y = drop at text in
    let len = prefix_len is_ascii_digit y in
    let run = take len y in
    let divided : y ≡ run ++ drop len y = sym (take-append-drop len y) in
    let each = prefix_each is_ascii_digit y in
    at_great k at (elim (cases_lt limit (digits_value 10 run)) [
      | inl above ↦ (run, drop len y, divided, each, run-ends y, above)
      | inr safe ↦ absurd (none (digits_value 10 run) run (drop len y) divided (record {
        number = record { some = run-some y some; each = each; value = refl; safe = safe };
        ended = run-ends y;
      }))
    ])

pub ruleset number_stops = (at_digit, stuck_great)

pub ruleset numbers_stop = (at_dot, later, triple_found)

-- ---- which texts have a version, where so much of them was read

-- the text is a number and what follows it
pub record Numeral (limit : ℕ) (text rest : List ℕ) : Type 0 where
  pub digits : List ℕ
  pub n : ℕ
  pub divided : text ≡ digits ++ rest
  pub is : IsWholeNumber limit digits rest n

-- a number, and so many more with a dot before each
abbrev pub Numbers : ℕ → ℕ → List ℕ → List ℕ → Type 0
Numbers limit zero text rest = Numeral limit text rest
Numbers limit (suc k) text rest = (next : List ℕ) × Numeral limit text (46 ∷ next) × Numbers limit k next rest

pub numeral_begins : (limit : ℕ) (text rest : List ℕ) → Numeral limit text rest → begins is_ascii_digit text ≡ true
numeral_begins limit text rest n = rw n.divided (number_begins n.digits rest n.is.number.some n.is.number.each)

pub first_numeral : (limit k : ℕ) (text rest : List ℕ) → Numbers limit k text rest → (next : List ℕ) × Numeral limit text next
first_numeral limit k text rest h = grind arith

-- what follows a number is one text
pub numeral_once : (limit : ℕ) (d x rest : List ℕ) (n : ℕ) → IsWholeNumber limit d x n → Numeral limit (d ++ x) rest → x ≡ rest
numeral_once limit d x rest n w m =
    let one = digits-taken d x w.number.each w.ended in
    let other = digits-taken m.digits rest m.is.number.each m.is.ended in
    cc (one, other, m.divided, drop_at d x (length d) refl, drop_at m.digits rest (length m.digits) refl)

-- behind the numbers of a version at the front of a text stands this
abbrev pub HasTail : ℕ → List ℕ → List ℕ → Type 0
HasTail limit text tail = (v : VersionValue) × (r : Reads limit text v) × (tail ≡ r.pre_release ++ (r.build ++ r.rest))

-- behind these bytes, where a text starts so, a number and so many more are right
pub record Place (limit : ℕ) (Starts : List ℕ → Type 0) (front : List ℕ) (k : ℕ) : Type 0 where
  pub local : (c : ℕ) (rest other : List ℕ) → Starts (encode_utf8 c ++ rest) → Starts (encode_utf8 c ++ other)
  pub digit : (text : List ℕ) → begins is_ascii_digit text ≡ true → Starts text
  pub dot : (text : List ℕ) → Starts (46 ∷ text)
  pub begun : (most : List ℕ) (c : ℕ) → front ≡ most ++ c ∷ [] → is_ascii_digit c ≡ false
  pub only : (text tail : List ℕ) → Starts text → HasTail limit (front ++ text) tail → Numbers limit k text tail
  pub whole : (text : List ℕ) → Numbers limit k text [] → IsWhole limit (front ++ text)

-- ---- the first bytes of a character

pub begins_alike : (test : ℕ → Bool) (c : ℕ) (rest other : List ℕ)
    → begins test (encode_utf8 c ++ rest) ≡ begins test (encode_utf8 c ++ other)
unfolding encode_utf8
begins_alike test c rest other = grind arith

mark-alike : (c : ℕ) (rest other : List ℕ) → mark_len (encode_utf8 c ++ rest) ≡ mark_len (encode_utf8 c ++ other)
unfolding encode_utf8
mark-alike c rest other = grind arith

-- ---- the mark and the whitespace

abbrev is_dark : ℕ → Bool
is_dark b = not (is_ascii_digit b)

white-bytes : (c : ℕ) → is_whitespace c ≡ true → list_all is_dark (encode_utf8 c) ≡ true
unfolding encode_utf8
white-bytes c h = grind (arith, nat_tests)

white-texts : (cs : List ℕ) → list_all is_whitespace cs ≡ true → list_all is_dark (encode_utf8_all cs) ≡ true
white-texts [] h = refl
white-texts (c ∷ cs) h = grind (arith, list_all-append, white-bytes, white-texts cs)

mark-dark : (mark : List ℕ) → IsMark mark → list_all is_dark mark ≡ true
mark-dark mark h = grind arith

-- no digit ends them
lead-begun : (mark blank : List ℕ) → IsMark mark → IsBlank blank → (most : List ℕ) (c : ℕ) → mark ++ blank ≡ most ++ c ∷ []
    → is_ascii_digit c ≡ false
lead-begun mark blank m b most c e = grind (arith, list_all-append is_dark, mark-dark, white-texts)

white-unmarked : (c : ℕ) (rest : List ℕ) → is_whitespace c ≡ true → mark_len (encode_utf8 c ++ rest) ≡ 0
unfolding encode_utf8
white-unmarked c rest h = grind (arith, nat_tests)

pub digit_starts : (text : List ℕ) → begins is_ascii_digit text ≡ true → (space_len text ≡ 0) × (mark_len text ≡ 0)
unfolding space_len
digit_starts text h = grind (arith, no_mark_at, nat_tests)

dot_starts : (text : List ℕ) → space_len (46 ∷ text) ≡ 0
unfolding space_len
dot_starts text = refl

-- what follows them is found
pub past_lead : (mark blank text : List ℕ) → IsMark mark → IsBlank blank → space_len text ≡ 0
    → (mark ++ blank ≡ [] → mark_len text ≡ 0)
    → drop_spaces (drop (mark_len (mark ++ (blank ++ text))) (mark ++ (blank ++ text))) ≡ text
past_lead mark blank text m b dark unmarked = go mark m unmarked
  where
    spaces : drop_spaces (blank ++ text) ≡ text
    spaces = rw b.spelled (drop_spaces-blank b.characters text b.each ∙ drop_spaces-none text dark)

    none : (cs : List ℕ) → list_all is_whitespace cs ≡ true → blank ≡ encode_utf8_all cs → (blank ≡ [] → mark_len text ≡ 0)
        → mark_len (blank ++ text) ≡ 0
    none [] each e u = ap (λ (t : List ℕ). mark_len (t ++ text)) e ∙ u e
    none (c ∷ cs) each e u = grind (arith, append_assoc, white-unmarked)

    go : (mark : List ℕ) → IsMark mark → (mark ++ blank ≡ [] → mark_len text ≡ 0)
        → drop_spaces (drop (mark_len (mark ++ (blank ++ text))) (mark ++ (blank ++ text))) ≡ text
    go mark no_mark u = rw (none b.characters b.each b.spelled u) spaces
    go mark other u = spaces

-- the text begins neither with whitespace nor, where nothing is in front, with a mark
abbrev pub Leads : List ℕ → List ℕ → Type 0
Leads front text = (space_len text ≡ 0) × (front ≡ [] → mark_len text ≡ 0)

-- behind the mark and the whitespace three numbers are right
pub lead_place : (limit : ℕ) (mark blank : List ℕ) → IsMark mark → IsBlank blank
    → Place limit (Leads (mark ++ blank)) (mark ++ blank) 2
lead_place limit mark blank m b = record {
  local = λ c rest other s. grind (arith, front_is_first_character, mark-alike, s);
  digit = λ text h. let d = digit_starts text h in (d.0, λ e. d.1);
  dot = λ text. (dot_starts text, λ e. refl);
  begun = lead-begun mark blank m b;
  only = read;
  whole = written;
}
  where
    read : (text tail : List ℕ) → Leads (mark ++ blank) text → HasTail limit ((mark ++ blank) ++ text) tail
        → Numbers limit 2 text tail
    read text tail s h =
        let r = h.1 in
        let third = r.patch ++ (r.pre_release ++ (r.build ++ r.rest)) in
        let second = r.minor ++ 46 ∷ third in
        let first = r.major ++ 46 ∷ second in
        let d = digit_starts first (number_begins r.major (46 ∷ second) r.major_is.some r.major_is.each) in
        let is : text ≡ first =
        sym (past_lead mark blank text m b s.0 s.1)
        ∙ (ap (λ (t : List ℕ). drop_spaces (drop (mark_len t) t)) (sym (append_assoc mark blank text) ∙ r.divided)
        ∙ past_lead r.mark r.blank first r.mark_is r.blank_is d.0 (λ e. d.1)) in (
          second,
          record { digits = r.major; n = h.0.major; divided = is; is = record { number = r.major_is; ended = refl } },
          (
            third,
            record { digits = r.minor; n = h.0.minor; divided = refl; is = record { number = r.minor_is; ended = refl } },
            record {
              digits = r.patch;
              n = h.0.patch;
              divided = ap (λ (t : List ℕ). r.patch ++ t) (sym h.2);
              is = subst (λ (t : List ℕ). IsWholeNumber limit r.patch t h.0.patch) (sym h.2) r.patch_is;
            },
          ),
        )

    written : (text : List ℕ) → Numbers limit 2 text [] → IsWhole limit ((mark ++ blank) ++ text)
    written text h =
        let x = h.1 in
        let y = h.2.1 in
        let z = h.2.2 in (
          release_value x.n y.n z.n,
          record {
            mark = mark;
            blank = blank;
            major = x.digits;
            minor = y.digits;
            patch = z.digits;
            pre_release = [];
            build = [];
            rest = [];
            divided = append_assoc mark blank text ∙ ap (λ (t : List ℕ). mark ++ (blank ++ t))
                (x.divided ∙ ap (λ (t : List ℕ). x.digits ++ 46 ∷ t)
                (y.divided ∙ ap (λ (t : List ℕ). y.digits ++ 46 ∷ t) z.divided));
            mark_is = m;
            blank_is = b;
            major_is = x.is.number;
            minor_is = y.is.number;
            patch_is = z.is;
            pre_release_is = no_pre_release [] refl;
            build_is = no_build [] refl;
          },
          refl,
        )

-- behind the first number and its dot, one fewer
pub next_place : (limit : ℕ) (Starts : List ℕ → Type 0) (front d : List ℕ) (n k : ℕ) → Place limit Starts front (suc k)
    → IsNumber limit d n → Place limit (λ _. Unit {0}) (front ++ (d ++ 46 ∷ [])) k
next_place limit Starts front d n k p number = record {
  local = λ c rest other s. tt;
  digit = λ text h. tt;
  dot = λ text. tt;
  begun = λ most c e. grind (arith, e, ends-append is_ascii_digit, length-append);
  only = λ text tail s h.
      let found = p.only (d ++ 46 ∷ text) tail (p.digit (d ++ 46 ∷ text) (number_begins d (46 ∷ text) number.some number.each))
      (subst (λ (t : List ℕ). HasTail limit t tail) (joined text) h) in
      let same = numeral_once limit d (46 ∷ text) (46 ∷ found.0) n (record { number = number; ended = refl }) found.1 in
      subst (λ (t : List ℕ). Numbers limit k t tail) (sym (ap (λ (t : List ℕ). drop 1 t) same)) found.2;
  whole = λ text h. rw (joined text)
      (p.whole (d ++ 46 ∷ text)
      (text, record { digits = d; n = n; divided = refl; is = record { number = number; ended = refl } }, h));
}
  where
    joined : (text : List ℕ) → (front ++ (d ++ 46 ∷ [])) ++ text ≡ front ++ (d ++ 46 ∷ text)
    joined text = append_assoc front (d ++ 46 ∷ []) text ∙ ap (λ (t : List ℕ). front ++ t) (append_assoc d (46 ∷ []) text)

-- ---- a version text is UTF-8, and so are the bytes before an ASCII character of it

solid-ascii : (text : List ℕ) → list_all is_solid text ≡ true → IsAscii text
solid-ascii [] h = IsAscii-nil
solid-ascii (c ∷ text) h = grind (arith, nat_tests, IsAscii-cons, solid-ascii text)

blank-utf8 : (cs : List ℕ) → list_all is_whitespace cs ≡ true → IsUtf8 (encode_utf8_all cs)
blank-utf8 [] h = IsUtf8-nil
blank-utf8 (c ∷ cs) h =
    let each = and_parts (is_whitespace c) (list_all is_whitespace cs) h in
    IsUtf8-append (encode_utf8 c) (encode_utf8_all cs) (IsUtf8-encode c (grind (arith, nat_tests, low_scalar))) (blank-utf8 cs each.1)

whole-utf8 : (limit : ℕ) (text : List ℕ) → IsWhole limit text → IsUtf8 text
whole-utf8 limit text w =
    let r = w.1 in
    let numbers = r.major ++ 46 ∷ (r.minor ++ 46 ∷ (r.patch ++ (r.pre_release ++ (r.build ++ r.rest)))) in
    let major = digits-solid limit r.major w.0.major r.major_is in
    let minor = digits-solid limit r.minor w.0.minor r.minor_is in
    let patch = digits-solid limit r.patch w.0.patch r.patch_is.number in
    let pre = pre-solid r.pre_release (r.build ++ r.rest) w.0.pre_release r.pre_release_is in
    let build = build-solid r.build r.rest w.0.build r.build_is in
    let solid : list_all is_solid numbers ≡ true = grind (arith, list_all-append, w.2) in
    let blank : IsUtf8 r.blank = rw r.blank_is.spelled (blank-utf8 r.blank_is.characters r.blank_is.each) in
    let behind = IsUtf8-append r.blank numbers blank (IsUtf8-from_ascii numbers (solid-ascii numbers solid)) in
    let mark : list_all is_solid r.mark ≡ true = grind (arith, r.mark_is) in
    rw r.divided (IsUtf8-append r.mark _ (IsUtf8-from_ascii r.mark (solid-ascii r.mark mark)) behind)

-- bytes with which a version text goes on, and this character behind them
abbrev GoesOn : ℕ → List ℕ → ℕ → Type 0
GoesOn limit front c = (c < 128) × IsFront limit (front ++ c ∷ [])

front-utf8 : (limit : ℕ) (front : List ℕ) (c : ℕ) → GoesOn limit front c → IsUtf8 front
front-utf8 limit front c f =
    let rest = c ∷ f.1.0 in
    let text = front ++ rest in
    let whole = subst (λ (t : List ℕ). IsWhole limit t) (append_assoc front (c ∷ []) f.1.0) f.1.1 in
    let long : length front < length text = omega (arith, length-append front rest) in
    let cut = IsCharBoundary-before_ascii text (length front) long (omega (arith, get_or-append_seam front c f.1.0 0, f.0)) in
    subst (λ (t : List ℕ). IsUtf8 t) (take-append_seam front rest)
    (IsUtf8-take text (length front) (whole-utf8 limit text whole) cut)

utf8-behind : (front text : List ℕ) → IsUtf8 front → IsUtf8 (front ++ text) → IsUtf8 text
utf8-behind front text u w =
    let inside : length front ≤ length (front ++ text) = omega (arith, length-append front text) in
    let cut = IsCharBoundary-from_take (front ++ text) (length front) w inside
    (subst (λ (t : List ℕ). IsUtf8 t) (sym (take-append_seam front text)) u) in
    subst (λ (t : List ℕ). IsUtf8 t) (drop-append_seam front text) (IsUtf8-drop (front ++ text) (length front) w cut)

-- ---- no version text goes on behind the place of a flaw

-- a character that is right where this is expected
abbrev sample : Expected → ℕ
sample Digit = 48
sample Dot = 46

expected-goes_on : (limit : ℕ) (text : List ℕ) (what : Expected) (at : ℕ) → IsExpectedAt limit text what at
    → GoesOn limit (take at text) (sample what)
expected-goes_on limit text what at x = grind arith

great-goes_on : (limit : ℕ) (text : List ℕ) (at : ℕ) → IsGreatAt limit text at → GoesOn limit (take at text) 48
great-goes_on limit text at x = (omega arith, x.right 48 refl)

expected-before : (limit : ℕ) (text : List ℕ) (what : Expected) (at next d : ℕ) → IsExpectedAt limit text what at
    → at < next → next ≤ length text → GoesOn limit (take next text) d → ⊥
expected-before limit text what at next d x lt inside g =
    let n = next - at in
    let y = drop at text in
    let z = take n y in
    let place : next ≡ at + n = omega (arith, lt) in
    let front : take next text ≡ take at text ++ z = cc (place, take-add at n text) in
    let long : length z ≡ n = omega (arith, lt, inside, length-take-le n y, length-drop at text) in
    let u = utf8-behind (take at text) z
    (front-utf8 limit (take at text) (sample what) (expected-goes_on limit text what at x))
    (rw front at (front-utf8 limit (take next text) d g)) in
    go z u.0 u.1.1 (omega arith) (sym (take-append-drop n y)) (rw front at g.1.1)
  where
    go : (z cs : List ℕ) → encode_utf8_all cs ≡ z → 0 < length z → drop at text ≡ z ++ drop (next - at) (drop at text)
        → IsWhole limit (((take at text ++ z) ++ d ∷ []) ++ g.1.0) → ⊥
    go z [] e some y whole = absurd (omega (arith, ap length e))
    go z (b ∷ cs) e some y whole =
        let w = simp (← e, append_assoc) at whole in
        x.wrong b (encode_utf8_all cs ++ drop (next - at) (drop at text)) (encode_utf8_all cs ++ d ∷ g.1.0)
        (simp (← e, append_assoc) at y) w.0 w.1

-- ---- a number that is too great has digits from its place on

digits-go_on : (d rest : List ℕ) (k : ℕ) → list_all is_ascii_digit d ≡ true → k < length d
    → begins is_ascii_digit (drop k (d ++ rest)) ≡ true
digits-go_on [] rest k h lt = absurd (omega arith)
digits-go_on (c ∷ d) rest zero h lt = grind arith
digits-go_on (c ∷ d) rest (suc k) h lt = grind (arith, digits-go_on d rest k)

digit-inside : (limit : ℕ) (text : List ℕ) (at k : ℕ) → (x : IsGreatAt limit text at) → k < length x.great.0
    → begins is_ascii_digit (drop (at + k) text) ≡ true
digit-inside limit text at k x lt = grind (arith, nat_tests, digits-go_on x.great.0 x.great.1 k x.great.3 lt, drop-drop k at text)

-- a number does not begin behind a digit
not-begun : (limit : ℕ) (text : List ℕ) (p : ℕ) → IsGreatAt limit text (p + 1) → begins is_ascii_digit (drop p text) ≡ true → ⊥
not-begun limit text p x h = go (drop p text) refl h
  where
    go : (y : List ℕ) → drop p text ≡ y → begins is_ascii_digit y ≡ true → ⊥
    go [] e h = cc
    go (c ∷ rest) e h = cc (h, x.begun (take p text) c (rw (take-add p 1 text, e) refl))

-- ---- one flaw

same-expected : (limit : ℕ) (text : List ℕ) (what other : Expected) (at : ℕ) → IsExpectedAt limit text what at
    → IsExpectedAt limit text other at → what ≡ other
same-expected limit text what other at x y = grind (arith, x.dot, y.dot, x.right 46, y.right 46)

great-before : (limit : ℕ) (text : List ℕ) (at next d : ℕ) → (x : IsGreatAt limit text at)
    → at + length x.great.0 ≤ next → GoesOn limit (take next text) d → ⊥
great-before limit text at next d x le g =
    let m = length x.great.0 in
    let n = next - (at + m) in
    let y = drop at text in
    let place : next ≡ at + (m + n) = omega (arith, le) in
    let digits : take m y ≡ x.great.0 = cc (x.great.2, take-append_seam x.great.0 x.great.1) in
    let front : take next text ≡ take at text ++ (x.great.0 ++ take n (drop m y)) =
    cc (place, take-add at (m + n) text, take-add m n y, digits) in
    let whole = simp (front, append_assoc) at g.1.1 in
    x.wrong (take n (drop m y) ++ d ∷ g.1.0, simp append_assoc whole)

expected-not-great : (limit : ℕ) (text : List ℕ) (what : Expected) (at other : ℕ) → IsExpectedAt limit text what at
    → IsGreatAt limit text other → ⊥
expected-not-great limit text what at other x y =
    let before = λ (lt : at < other). expected-before limit text what at other 48 x lt y.inside (great-goes_on limit text other y) in
    let behind = λ (le : other + length y.great.0 ≤ at).
    great-before limit text other at (sample what) y le (expected-goes_on limit text what at x) in
    let place : other + (at - other) ≡ at = omega (arith, before) in
    let digit = digit-inside limit text other (at - other) y (omega (arith, before, behind)) in
    cc (sym x.apart ∙ (ap (λ (n : ℕ). begins is_ascii_digit (drop n text)) (sym place) ∙ digit))

great-not-before : (limit : ℕ) (text : List ℕ) (at next : ℕ) → IsGreatAt limit text at → IsGreatAt limit text next
    → at < next → ⊥
great-not-before limit text at next x y lt =
    let behind = λ (le : at + length x.great.0 ≤ next). great-before limit text at next 48 x le (great-goes_on limit text next y) in
    let place : at + (next - at - 1) + 1 ≡ next = omega (arith, lt) in
    not-begun limit text (at + (next - at - 1)) (subst (λ (n : ℕ). IsGreatAt limit text n) (sym place) y)
    (digit-inside limit text at (next - at - 1) x (omega (arith, behind, lt)))

one-expected : (limit : ℕ) (text : List ℕ) (what other : Expected) (a b : ℕ) → IsExpectedAt limit text what a
    → IsExpectedAt limit text other b → Flaw.Expected what a ≡ Flaw.Expected other b
one-expected limit text what other a b x y =
    let less = λ (lt : a < b). expected-before limit text what a b (sample other) x lt y.inside (expected-goes_on limit text other b y) in
    let more = λ (lt : b < a). expected-before limit text other b a (sample what) y lt x.inside (expected-goes_on limit text what a x) in
    let same : a ≡ b = omega (arith, less, more) in
    grind (arith, same, same-expected limit text what other b)

one-great : (limit : ℕ) (text : List ℕ) (a b : ℕ) → IsGreatAt limit text a → IsGreatAt limit text b → a ≡ b
one-great limit text a b x y =
    grind (arith, great-not-before limit text a b, great-not-before limit text b a)

-- what follows a version at the front of a text is one text
one-rest : (limit : ℕ) (text : List ℕ) (v w : VersionValue) (r : Reads limit text v) (s : Reads limit text w) → r.rest ≡ s.rest
one-rest limit text v w r s =
    let behind = after_spaces-end 0 (drop (mark_len text) text) in
    let at = mark_len text + length behind.0 in
    let here : drop at text ≡ drop_spaces (drop (mark_len text) text) =
    cc (drop-drop (length behind.0) (mark_len text) text, behind.1, drop-append_seam behind.0 (drop_spaces (drop (mark_len text) text))) in
    let one = read_at limit text at v r (here ∙ numbers v r) in
    let two = read_at limit text at w s (here ∙ numbers w s) in
    cc (one.3, two.3, some_inside one.0 two.0 (sym one.1 ∙ two.1))
  where
    numbers : (v : VersionValue) (r : Reads limit text v) → drop_spaces (drop (mark_len text) text)
        ≡ r.major ++ 46 ∷ (r.minor ++ 46 ∷ (r.patch ++ (r.pre_release ++ (r.build ++ r.rest))))
    numbers v r = grind (arith, nat_tests, common_steps, digit_starts, number_begins, past_lead)

one-ignored : (limit : ℕ) (text : List ℕ) (a b : ℕ) → IsFlaw limit text (Flaw.Ignored a) → IsFlaw limit text (Flaw.Ignored b)
    → a ≡ b
one-ignored limit text a b x y =
    grind (arith, nat_tests, length-drop a text, length-drop b text, one-rest limit text x.0 y.0 x.1.reads y.1.reads)

pub one_flaw : (limit : ℕ) (text : List ℕ) (f g : VersionFlaw) → IsFlaw limit text f → IsFlaw limit text g → f ≡ g
one_flaw limit text Flaw.TooLong Flaw.TooLong x y = refl
one_flaw limit text Flaw.TooLong g x y = grind arith
one_flaw limit text f Flaw.TooLong x y = grind arith
one_flaw limit text (Flaw.NumberTooGreat a) (Flaw.NumberTooGreat b) x y =
    ap (λ (n : ℕ). Flaw.NumberTooGreat n) (one-great limit text a b x.1 y.1)
one_flaw limit text (Flaw.NumberTooGreat a) (Flaw.Expected other b) x y = absurd (expected-not-great limit text other b a y.1 x.1)
one_flaw limit text (Flaw.Expected what a) (Flaw.NumberTooGreat b) x y = absurd (expected-not-great limit text what a b x.1 y.1)
one_flaw limit text (Flaw.Expected what a) (Flaw.Expected other b) x y = one-expected limit text what other a b x.1 y.1
one_flaw limit text (Flaw.Ignored a) (Flaw.Ignored b) x y = ap (λ (n : ℕ). Flaw.Ignored n) (one-ignored limit text a b x y)
one_flaw limit text (Flaw.Ignored a) g x y = absurd (y.1.none x.0 x.1.reads)
one_flaw limit text f (Flaw.Ignored b) x y = absurd (x.1.none y.0 y.1.reads)

-- a text that is one version as a whole has none
pub no_flaw : (limit : ℕ) (text : List ℕ) (f : VersionFlaw) → IsExact limit text → IsFlaw limit text f → ⊥
no_flaw limit text Flaw.TooLong e x = absurd (omega (arith, x, e.1.short))
no_flaw limit text (Flaw.Ignored a) e x =
    grind (arith, nat_tests, length-drop a text, one-rest limit text x.0 e.0 x.1.reads e.1.reads)
no_flaw limit text f e x = x.1.none e.0 e.1.reads

-- so what is found is the flaw of the text
pub only_flaw : (limit : ℕ) (text : List ℕ) (found : Option VersionFlaw) → ((found ≡ None) ↔ IsExact limit text)
    → IfSome found (λ flaw. IsFlaw limit text flaw) → (f : VersionFlaw) → IsFlaw limit text f → found ≡ Some f
only_flaw limit text None none some f h = absurd (no_flaw limit text f (none.0 refl) h)
only_flaw limit text (Some g) none some f h = ap (λ (x : VersionFlaw). Some x) (one_flaw limit text g f some h)
