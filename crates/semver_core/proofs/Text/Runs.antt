-- Runs of identifier characters, and lists of them.
use Rattle.semver_core.proofs.Common.{Bool, list_at, list_of, begins, is_identifier_char, Id, Numeric, goes_on}
use Rattle.semver_core.proofs.Common.{identifier_of, List, Some, [], add-one, add_comm, ap, append_assoc, arith, drop, eqb}
use Rattle.semver_core.proofs.Common.{false, get_or, length, ltb, refl, rules, sym, take, true, ℕ, ◌++◌, ◌+◌, ◌-◌, ◌<◌, ◌∙◌}
use Rattle.semver_core.proofs.Common.{◌∷◌, ◌≡◌, ◌≤◌, nat_tests, drop-drop, length-drop, is_ascii_digit, All, list_all}
use Rattle.semver_core.proofs.Common.{prefix_len, IsCharBoundary, IsUtf8, ◌==◌, digits_value, list_len, map, ◌^◌, take-add}
use Rattle.semver_core.proofs.Common.{slice_split_at, slice_split_none, prefix_len-le-length, IsCharBoundary-after_ascii}
use Rattle.std.proofs.lemmas.{List.{get_or-take, length-take, get_or-drop}, List.Sums.prefix_len_passes}
use Rattle.std.proofs.lemmas.Str.Parse.{IsNumeralModel, numerals_by_value}

-- what holds of each character, and what follows from that
pub all_more : (p q : ℕ → Bool) (text : List ℕ) → ((c : ℕ) → p c ≡ true → q c ≡ true) → list_all p text ≡ true → list_all q text ≡ true
all_more p q [] h each = refl
all_more p q (c ∷ rest) h each = grind (arith, h c, all_more p q rest h)

pub numerals : IsNumeralModel (λ ds. list_all is_ascii_digit ds ≡ true) (digits_value 10)
numerals = numerals_by_value _ (search rules)

-- a run of digits is the number where it fits
pub of_digits : (run : List ℕ) → list_all is_ascii_digit run ≡ true → digits_value 10 run < 2 ^ 64 → identifier_of run ≡ Numeric (digits_value 10 run)
of_digits run d small =
    let fits : ltb (digits_value 10 run) (2 ^ 64) ≡ true = grind (arith, nat_tests) in
    rw (d, fits) refl

-- a front does not begin so where the whole does not
pub begins_less : (test : ℕ → Bool) (a r : List ℕ) → begins test (a ++ r) ≡ false → begins test a ≡ false
begins_less test a r h = grind arith

-- one more element at the front
pub take_one : (n c : ℕ) (rest : List ℕ) → take (1 + n) (c ∷ rest) ≡ c ∷ take n rest
take_one n c rest = rw (add_comm 1 n, add-one n) refl

pub drop_one : (n c : ℕ) (rest : List ℕ) → drop (1 + n) (c ∷ rest) ≡ drop n rest
drop_one n c rest = rw (add_comm 1 n, add-one n) refl

-- the run at the front: each passes, what follows does not, and that fixes it
pub prefix_each : (p : ℕ → Bool) (t : List ℕ) → list_all p (take (prefix_len p t) t) ≡ true
prefix_each p [] = refl
prefix_each p (c ∷ rest) = grind (arith, take_one, prefix_each p rest)

pub prefix_ends : (p : ℕ → Bool) (t : List ℕ) → begins p (drop (prefix_len p t) t) ≡ false
prefix_ends p [] = refl
prefix_ends p (c ∷ rest) = grind (arith, drop_one, prefix_ends p rest)

pub prefix_whole : (p : ℕ → Bool) (run more : List ℕ) → list_all p run ≡ true → begins p more ≡ false → prefix_len p (run ++ more) ≡ length run
prefix_whole p [] more h k = grind arith
prefix_whole p (c ∷ run) more h k = grind (arith, prefix_whole p run more)

-- the list goes over the run at its front, and then as the rest does
list_len_run : (t : List ℕ) → list_len t ≡ prefix_len is_identifier_char t + list_len (drop (prefix_len is_identifier_char t) t)
unfolding list_len
list_len_run [] = refl
list_len_run (c ∷ rest) = grind (arith, drop_one, list_len_run rest)

pub list_len_stop : (t : List ℕ) → goes_on t ≡ false → list_len t ≡ 0
unfolding list_len
list_len_stop t h = grind arith

-- what goes on after a run goes on with a dot
dot_after : (t : List ℕ) → begins is_identifier_char t ≡ false → goes_on t ≡ true → (t ≡ 46 ∷ drop 1 t) × (begins is_identifier_char (drop 1 t) ≡ true)
dot_after t n h = (grind (arith, nat_tests), grind (arith, nat_tests))

list_len_dot : (rest : List ℕ) → begins is_identifier_char rest ≡ true → list_len (46 ∷ rest) ≡ 1 + list_len rest
unfolding list_len
list_len_dot rest h = rw h refl

pub not_dot : (c : ℕ) → is_identifier_char c ≡ true → eqb c 46 ≡ false
not_dot c h = grind (arith, nat_tests)

-- no run holds a dot
run_no_dot : (t : List ℕ) → All (λ c. eqb c 46 ≡ false) (take (prefix_len is_identifier_char t) t)
run_no_dot t k d lt = grind (arith, get_or-take, length-take, not_dot, prefix_len_passes)

-- the list is one run
pub list_stop : (t : List ℕ) → goes_on (drop (prefix_len is_identifier_char t) t) ≡ false
    → (list_of t ≡ identifier_of (take (prefix_len is_identifier_char t) t) ∷ []) × (list_len t ≡ prefix_len is_identifier_char t)
list_stop t h =
    let len : list_len t ≡ prefix_len is_identifier_char t = omega (arith, list_len_run t, list_len_stop (drop (prefix_len is_identifier_char t) t) h) in
    (rw len (ap (map identifier_of) (slice_split_none (λ c. c == 46) (take (prefix_len is_identifier_char t) t) (run_no_dot t))), len)

pub drop_next : (n : ℕ) (t rest : List ℕ) (c : ℕ) → drop n t ≡ c ∷ rest → drop (n + 1) t ≡ rest
drop_next n t rest c e = rw (← drop-drop 1 n t, e) refl

-- the list is a run, a dot and a list
pub list_next : (t : List ℕ) → goes_on (drop (prefix_len is_identifier_char t) t) ≡ true
    → (list_of t ≡ identifier_of (take (prefix_len is_identifier_char t) t) ∷ list_of (drop (prefix_len is_identifier_char t + 1) t))
    × (list_len t ≡ prefix_len is_identifier_char t + 1 + list_len (drop (prefix_len is_identifier_char t + 1) t))
    × (begins is_identifier_char (drop (prefix_len is_identifier_char t + 1) t) ≡ true)
list_next t h =
    let n = prefix_len is_identifier_char t in
    let rest = drop (n + 1) t in
    let after = dot_after (drop n t) (prefix_ends is_identifier_char t) h in
    let dot : drop n t ≡ 46 ∷ rest = after.0 ∙ ap (λ l. 46 ∷ l) (drop-drop 1 n t) in
    let more : begins is_identifier_char rest ≡ true = rw drop-drop at after.1 in
    let len : list_len t ≡ n + (1 + list_len rest) = rw (dot, list_len_dot rest more) at (list_len_run t) in
    let taken : take (list_len t) t ≡ take n t ++ 46 ∷ take (list_len rest) rest =
    rw (len, take-add n (1 + list_len rest) t, dot, take_one) refl in
    let split = slice_split_at (λ c. c == 46) (take n t) 46 (take (list_len rest) rest) (run_no_dot t) refl in
    (rw taken (ap (map identifier_of) split), rw len (omega arith), more)

pub ascii : (c : ℕ) → is_identifier_char c ≡ true → c < 128
ascii c h = grind (arith, nat_tests)

-- a text may be cut after a run
pub run_boundary : (text : List ℕ) (start end : ℕ) → IsUtf8 text → start ≤ length text → begins is_identifier_char (drop start text) ≡ true
    → end ≡ start + prefix_len is_identifier_char (drop start text) → IsCharBoundary text end
run_boundary text start end u le h is =
    let n = prefix_len is_identifier_char (drop start text) in
    let some : 0 < n = grind arith in
    let most = prefix_len-le-length is_identifier_char (drop start text) in
    let inside : start + (n - 1) < length text = omega (arith, length-drop start text) in
    let passes = prefix_len_passes is_identifier_char (drop start text) (n - 1) 0 (omega arith) in
    let low : get_or text (start + (n - 1)) 0 < 128 = ascii _ (rw get_or-drop at passes) in
    let last : start + (n - 1) + 1 ≡ end = omega arith in
    rw last at (IsCharBoundary-after_ascii text (start + (n - 1)) u inside low)

-- the last run of a list
pub list_done : (text : List ℕ) (at start end : ℕ) (before : List Id) (id : Id) → begins is_identifier_char (drop at text) ≡ true
    → list_of (drop at text) ≡ before ++ list_of (drop start text) → at + list_len (drop at text) ≡ start + list_len (drop start text)
    → end ≡ start + prefix_len is_identifier_char (drop start text) → id ≡ identifier_of (take (prefix_len is_identifier_char (drop start text)) (drop start text)) → goes_on (drop end text) ≡ false
    → Some (before ++ id ∷ [], end) ≡ list_at text at
list_done text at start end before id front whole ends is spelled stop =
    let n = prefix_len is_identifier_char (drop start text) in
    let rest : drop end text ≡ drop n (drop start text) = rw is (sym (drop-drop n start text)) in
    let facts = list_stop (drop start text) (rw rest at stop) in
    let place : at + list_len (drop at text) ≡ end = omega (arith, facts.1) in
    rw (front, whole, place, facts.0, spelled) refl

-- one more run of a list
pub list_more : (text : List ℕ) (at start end : ℕ) (before : List Id) (id : Id)
    → list_of (drop at text) ≡ before ++ list_of (drop start text) → at + list_len (drop at text) ≡ start + list_len (drop start text)
    → end ≡ start + prefix_len is_identifier_char (drop start text) → id ≡ identifier_of (take (prefix_len is_identifier_char (drop start text)) (drop start text)) → goes_on (drop end text) ≡ true
    → (begins is_identifier_char (drop (end + 1) text) ≡ true) × (list_of (drop at text) ≡ (before ++ id ∷ []) ++ list_of (drop (end + 1) text))
    × (at + list_len (drop at text) ≡ end + 1 + list_len (drop (end + 1) text))
list_more text at start end before id whole ends is spelled more =
    let n = prefix_len is_identifier_char (drop start text) in
    let rest : drop end text ≡ drop n (drop start text) = rw is (sym (drop-drop n start text)) in
    let next : drop (end + 1) text ≡ drop (n + 1) (drop start text) =
    (let sum : end + 1 ≡ start + (n + 1) = omega arith in rw sum (sym (drop-drop (n + 1) start text))) in
    let facts = list_next (drop start text) (rw rest at more) in
    (rw next facts.2, whole ∙ rw (next, facts.0, spelled, append_assoc) refl, rw next (omega (arith, facts.1)))
