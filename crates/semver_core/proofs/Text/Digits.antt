-- What a loop over digits reads, step by step.
use Rattle.semver_core.proofs.Common.{List, None, Some, add-one, arith, drop, false, get_or, length, ltb, refl, true, ℕ, ◌*◌}
use Rattle.semver_core.proofs.Common.{◌+◌, ◌-◌, ◌<◌, ◌≡◌, ◌≤◌, drop-cons, nat_tests, drop_all, digit_value, is_ascii_digit}
use Rattle.semver_core.proofs.Common.{◌==◌, digits_end, digits_from, if◌then◌else◌, begins, Bool, take_rest, IsWholeNumber}
use Rattle.semver_core.proofs.Common.{Option, sym, number_at, IsPieceAt, IfSome, IfNone, is_identifier_char, AlphaNumeric}
use Rattle.semver_core.proofs.Common.{Numeric, identifier_of, [], ap, take, ◌∙◌, ◌∷◌, length-drop, list_all, prefix_len}
use Rattle.semver_core.proofs.Common.{number_of_run, MAX_SAFE_INTEGER, ◌++◌, run_from, add-zero, ◌^◌, prefix_len-le-length}
use Rattle.semver_core.proofs.Common.{digits_value_after, take-append_seam, ◌&&◌, lt-ltb}
use Rattle.semver_core.specs.{Internal.CommonReading.{grown, id_by}, Text.Characters.{HasFeed, NoPieceAt}}
use Rattle.std.proofs.Common.{drop-drop}
use Rattle.semver_core.proofs.Text.Runs.{all_more, prefix_ends, prefix_whole, take_one}
use Rattle.{std.proofs.lemmas.Str.digit_value_digit, semver_core.proofs.Text.Pieces.{number_sound, number_complete, digits_grow}}

pub digit_value-is : (c : ℕ) → is_ascii_digit c ≡ true → digit_value c ≡ c - 48
digit_value-is c h = let e = digit_value_digit c (grind (arith, nat_tests)) in omega arith

pub digits_over : (limit : ℕ) (v k : ℕ) (xs : List ℕ) (i : ℕ) → i < length xs → is_ascii_digit (get_or xs i 0) ≡ true → limit < v * 10 + (get_or xs i 0 - 48)
    → digits_from limit v k (drop i xs) ≡ None
unfolding digits_from
digits_over limit v k xs i lt d big = grind (arith, nat_tests, drop-cons, digit_value-is)

pub digits_stop : (limit : ℕ) (v k : ℕ) (xs : List ℕ) (i : ℕ) → i < length xs → is_ascii_digit (get_or xs i 0) ≡ false
    → digits_from limit v k (drop i xs) ≡ digits_end v k
unfolding digits_from
digits_stop limit v k xs i lt d = rw (drop-cons xs i 0, d) refl

pub digits_past : (limit : ℕ) (v k : ℕ) (xs : List ℕ) (i : ℕ) → length xs ≤ i → digits_from limit v k (drop i xs) ≡ digits_end v k
unfolding digits_from
digits_past limit v k xs i le = rw (drop_all i xs le) refl

pub digits_one_more : (limit : ℕ) (v k : ℕ) (xs : List ℕ) (i : ℕ) → i < length xs → is_ascii_digit (get_or xs i 0) ≡ true → v * 10 + (get_or xs i 0 - 48) ≤ limit
    → digits_from limit v k (drop i xs) ≡ digits_from limit (v * 10 + (get_or xs i 0 - 48)) (k + 1) (drop (i + 1) xs)
unfolding digits_from
digits_one_more limit v k xs i lt d small = grind (arith, nat_tests, drop-cons, digit_value-is, add-one i)

pub digit_other : (c : ℕ) → is_ascii_digit c ≡ true → (c == 10) ≡ false
digit_other c d = grind (arith, nat_tests)

pub ruleset digits_one = (digits_one_more, digits_over, digits_stop, digits_past, digit_other)

-- ---- A line feed stands at a place or behind it.

pub last_feed : (front : List ℕ) → HasFeed (front ++ 10 ∷ [])
last_feed [] = refl
last_feed (b ∷ front) = grind (arith, last_feed front)

pub some_feed : (bytes : List ℕ) (at : ℕ) → HasFeed (drop at bytes) → at < length bytes
some_feed bytes at feed = grind (arith, drop_all)

pub feed_inside : (bytes : List ℕ) (at : ℕ) → HasFeed (drop at bytes) → ltb at (length bytes) ≡ true
feed_inside bytes at feed = lt-ltb at (length bytes) (some_feed bytes at feed)

-- ---- Places in a text.

pub begins_before_end : (test : ℕ → Bool) (text : List ℕ) (at : ℕ) → begins test (drop at text) ≡ true → at < length text
begins_before_end test text at h = grind (arith, drop_all)

pub ruleset places = (begins_before_end, take_rest)

-- ---- The clauses of the calls that read a piece, from what they compute.

pub number_found : (limit : ℕ) (text : List ℕ) (at : ℕ) (r : Option (ℕ × ℕ)) → r ≡ number_at limit text at
    → IfSome r (λ found. IsPieceAt (λ digits rest. IsWholeNumber limit digits rest found.0) text at found.1)
number_found limit text at r e = grind (arith, number_sound)

pub number_none : (limit : ℕ) (text : List ℕ) (at : ℕ) (r : Option (ℕ × ℕ)) → r ≡ number_at limit text at
    → IfNone r ((n : ℕ) → NoPieceAt (λ digits rest. IsWholeNumber limit digits rest n) text at)
number_none limit text at r e = grind (arith, number_complete)

-- ---- A run that is read in one pass.

-- the loop
pub run_step : (n : Option ℕ) (xs : List ℕ) (i : ℕ) → i < length xs → is_identifier_char (get_or xs i 0) ≡ true
    → run_from n i (drop i xs) ≡ run_from (grown n (get_or xs i 0)) (i + 1) (drop (i + 1) xs)
unfolding run_from
run_step n xs i lt h = rw (drop-cons xs i 0, add-one i, h) refl

pub run_stop : (n : Option ℕ) (xs : List ℕ) (i : ℕ) → i < length xs → is_identifier_char (get_or xs i 0) ≡ false → run_from n i (drop i xs) ≡ (i, n)
unfolding run_from
run_stop n xs i lt h = rw (drop-cons xs i 0, h) refl

pub run_past : (n : Option ℕ) (xs : List ℕ) (i : ℕ) → length xs ≤ i → run_from n i (drop i xs) ≡ (i, n)
unfolding run_from
run_past n xs i le = rw (drop_all i xs le) refl

-- what it finds
pub run_found : (n : Option ℕ) (at : ℕ) (t : List ℕ)
    → run_from n at t ≡ (at + prefix_len is_identifier_char t, number_of_run n (take (prefix_len is_identifier_char t) t))
unfolding run_from number_of_run
run_found n at [] = rw (add-zero at) refl
run_found n at (c ∷ rest) = grind (arith, take_one, run_found (grown n c) (at + 1) rest)

run_number : (v : ℕ) (run : List ℕ) → v < 2 ^ 64
    → number_of_run (Some v) run ≡ (if list_all is_ascii_digit run && ltb (digits_value_after 10 v run) (2 ^ 64)
    then Some (digits_value_after 10 v run) else None)
unfolding number_of_run
run_number v [] small = grind (arith, nat_tests)
run_number v (c ∷ run) small =
    let grows = digits_grow (v * 10 + digit_value c) run in
    let none = none_stays run in
    grind (arith, nat_tests, run_number (v * 10 + digit_value c) run)
  where
    none_stays : (run : List ℕ) → number_of_run None run ≡ None
    none_stays [] = refl
    none_stays (c ∷ run) = none_stays run

-- the identifier that a run spells
pub id_spelled : (run : List ℕ) → id_by (number_of_run (Some 0) run) run ≡ identifier_of run
id_spelled run = grind (arith, nat_tests, run_number 0 run)

pub grown_small : (v b : ℕ) → v < 2 ^ 64 → is_ascii_digit b ≡ true → v * 10 + (b - 48) < 2 ^ 64 → grown (Some v) b ≡ Some (v * 10 + (b - 48))
grown_small v b s d h = grind (arith, nat_tests, digit_value-is)

pub grown_big : (v b : ℕ) → is_ascii_digit b ≡ true → 2 ^ 64 ≤ v * 10 + (b - 48) → grown (Some v) b ≡ None
grown_big v b d h = grind (arith, nat_tests, digit_value-is)

-- the run that `scan_run` found
pub scan_end : (text : List ℕ) (start : ℕ) (r : ℕ × Option ℕ) → r ≡ run_from (Some 0) start (drop start text)
    → (r.0 ≡ start + prefix_len is_identifier_char (drop start text))
    × (r.1 ≡ number_of_run (Some 0) (take (prefix_len is_identifier_char (drop start text)) (drop start text)))
scan_end text start r e =
    let both = e ∙ run_found (Some 0) start (drop start text) in
    (ap (λ (q : ℕ × Option ℕ). q.0) both, ap (λ (q : ℕ × Option ℕ). q.1) both)

pub scan_fits : (text : List ℕ) (start : ℕ) (r : ℕ × Option ℕ) → r ≡ run_from (Some 0) start (drop start text) → start ≤ length text
    → (start ≤ r.0) × (r.0 ≤ length text)
scan_fits text start r e le =
    let end = (scan_end text start r e).0 in
    let most = prefix_len-le-length is_identifier_char (drop start text) in
    (omega arith, omega (arith, length-drop start text))

-- no character of identifiers stands there
pub scan_stops : (text : List ℕ) (start : ℕ) (r : ℕ × Option ℕ) → r ≡ run_from (Some 0) start (drop start text) → begins is_identifier_char (drop r.0 text) ≡ false
scan_stops text start r e =
    let n = prefix_len is_identifier_char (drop start text) in
    rw (ap (λ p. drop p text) (scan_end text start r e).0 ∙ sym (drop-drop n start text)) (prefix_ends is_identifier_char (drop start text))

pub scan_number : (run : List ℕ) (v : ℕ) → Some v ≡ number_of_run (Some 0) run → identifier_of run ≡ Numeric v
scan_number run v e = sym (id_spelled run) ∙ ap (λ n. id_by n run) (sym e)

pub scan_text : (run : List ℕ) → None ≡ number_of_run (Some 0) run → identifier_of run ≡ AlphaNumeric run
scan_text run e = sym (id_spelled run) ∙ ap (λ n. id_by n run) (sym e)

pub run_of_number : (text : List ℕ) (at n end : ℕ) → Some (n, end) ≡ number_at MAX_SAFE_INTEGER text at → begins is_identifier_char (drop end text) ≡ false
    → (end, Some n) ≡ run_from (Some 0) at (drop at text)
run_of_number text at n end e stop =
    let s = number_sound MAX_SAFE_INTEGER text at n end (sym e) in
    let c = number_complete MAX_SAFE_INTEGER text at n s.0 (drop end text) s.1 s.2 in
    let chars = all_more is_ascii_digit is_identifier_char s.0 (λ c h. grind (arith, nat_tests)) s.2.number.each in
    let run = prefix_whole is_identifier_char s.0 (drop end text) chars stop in
    let taken = take-append_seam s.0 (drop end text) in
    grind (arith, nat_tests, run_found (Some 0) at (drop at text), run_number 0 s.0)

pub ruleset grown_either = (grown_small, grown_big)

pub ruleset run_ends = (run_step, run_stop, run_past)

pub ruleset scanned = (scan_number, scan_text)

pub ruleset run_facts = (scan_end, scan_fits, scan_number, scan_text)
