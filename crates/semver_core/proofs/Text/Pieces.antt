-- A number and an identifier list are read exactly where the grammar has them.
use Rattle.semver_core.proofs.Common.{list_at, begins, is_identifier_char, Id, IsLongestIdentifiers, goes_on, is_identifier}
use Rattle.semver_core.proofs.Common.{pieces, IsWholeNumber, Bool, List, None, Some, [], arith, drop, false, length}
use Rattle.semver_core.proofs.Common.{ltb, refl, sym, take, true, ℕ, ◌*◌, ◌++◌, ◌+◌, ◌∷◌, ◌≡◌, ◌≤◌, nat_tests}
use Rattle.semver_core.proofs.Common.{drop-drop, take-append-drop, digit_value, is_ascii_digit, list_all, onto_first}
use Rattle.semver_core.proofs.Common.{digits_end, digits_from, list_len, number_at, ◌&&◌, take-append_seam, digits_value_after}
use Rattle.semver_core.proofs.Common.{prefix_len, if◌then◌else◌}
use Rattle.{std.proofs.Math.Seq.drop-append_seam, std.proofs.lemmas.List.Folds.length-prefix_len}
use Rattle.semver_core.proofs.Text.Runs.{drop_one, list_len_stop, not_dot, prefix_each, prefix_ends, prefix_whole, take_one}

pub some_inside : {A : Type 0} (x y : A) → Some x ≡ Some y → x ≡ y
some_inside x y e = cc

-- what stands after a piece
pub rest_at : (text : List ℕ) (at end : ℕ) (piece rest : List ℕ) → drop at text ≡ piece ++ rest → end ≡ at + length piece → drop end text ≡ rest
rest_at text at end piece rest e is = rw (is, ← drop-drop (length piece) at text, e) (drop-append_seam piece rest)

pub digits_grow : (v : ℕ) (d : List ℕ) → v ≤ digits_value_after 10 v d
digits_grow v [] = omega arith
digits_grow v (c ∷ d) = let next = digits_grow (v * 10 + digit_value c) d in omega arith

-- ---- numbers

-- what a loop over digits finds
digits_found : (limit v k : ℕ) (t : List ℕ) → v ≤ limit
    → digits_from limit v k t ≡ (if ltb limit (digits_value_after 10 v (take (prefix_len is_ascii_digit t) t)) then None
    else digits_end (digits_value_after 10 v (take (prefix_len is_ascii_digit t) t)) (k + prefix_len is_ascii_digit t))
unfolding digits_from
digits_found limit v k [] small = grind (arith, nat_tests)
digits_found limit v k (c ∷ rest) small =
    let grows = digits_grow (v * 10 + digit_value c) (take (prefix_len is_ascii_digit rest) rest) in
    grind (arith, nat_tests, take_one, digits_found limit (v * 10 + digit_value c) (k + 1) rest)

pub number_sound : (limit : ℕ) (text : List ℕ) (at n end : ℕ) → number_at limit text at ≡ Some (n, end)
    → (digits : List ℕ) × (drop at text ≡ digits ++ drop end text) × IsWholeNumber limit digits (drop end text) n
number_sound limit text at n end e =
    let t = drop at text in
    let m = prefix_len is_ascii_digit t in
    let found = digits_found limit 0 0 t (omega arith) in
    let place : end ≡ at + m = grind (arith, nat_tests) in
    let rest : drop end text ≡ drop m t = rw place (sym (drop-drop m at text)) in
    let divided = take-append-drop m t in
    let each = prefix_each is_ascii_digit t in
    let ended = prefix_ends is_ascii_digit t in
    let count = length-prefix_len is_ascii_digit t in
    (take m t, grind arith, grind (arith, nat_tests))

pub number_complete : (limit : ℕ) (text : List ℕ) (at n : ℕ) (digits rest : List ℕ) → drop at text ≡ digits ++ rest → IsWholeNumber limit digits rest n
    → (number_at limit text at ≡ Some (n, at + length digits)) × (drop (at + length digits) text ≡ rest)
number_complete limit text at n digits rest e w =
    let run = prefix_whole is_ascii_digit digits rest w.number.each w.ended in
    let found = digits_found limit 0 0 (digits ++ rest) (omega arith) in
    let taken = take-append_seam digits rest in
    (grind (arith, nat_tests), rest_at text at (at + length digits) digits rest e refl)

-- ---- identifier lists

-- the pieces of a text that follows identifier characters: the first may be empty
abbrev pub tail_runs : List (List ℕ) → Bool
tail_runs [] = true
tail_runs (first ∷ others) = list_all is_identifier_char first && list_all is_identifier others

pub onto_tail : (c : ℕ) (ps : List (List ℕ)) → is_identifier_char c ≡ true → tail_runs ps ≡ true → list_all is_identifier (onto_first c ps) ≡ true
onto_tail c ps h t = grind (arith, nat_tests)

pub tail_onto : (c : ℕ) (ps : List (List ℕ)) → tail_runs (onto_first c ps) ≡ true → tail_runs ps ≡ true
tail_onto c ps t = grind arith

pub runs_tail : (ps : List (List ℕ)) → list_all is_identifier ps ≡ true → tail_runs ps ≡ true
runs_tail ps h = grind arith

-- a text of runs whose first character is one of identifiers
pub begun_runs : (t : List ℕ) → begins is_identifier_char t ≡ true → tail_runs (pieces t) ≡ true
    → list_all is_identifier (pieces t) ≡ true
begun_runs t h runs = grind (arith, not_dot, onto_tail, tail_onto)

pub begins_taken : (rest : List ℕ) → begins is_identifier_char rest ≡ true
    → begins is_identifier_char (take (list_len rest) rest) ≡ true
unfolding list_len
begins_taken rest h = grind (arith, take_one)

-- what a longest list takes is runs, where the first may go on from before
pub taken_runs : (t : List ℕ) → tail_runs (pieces (take (list_len t) t)) ≡ true
unfolding list_len
taken_runs [] = refl
taken_runs (c ∷ rest) =
    grind (arith, nat_tests, take_one, taken_runs rest, begins_taken rest, onto_tail, runs_tail, begun_runs (take (list_len rest) rest))

pub list_ended : (t : List ℕ) → goes_on (drop (list_len t) t) ≡ false
unfolding list_len
list_ended [] = refl
list_ended (c ∷ rest) = grind (arith, drop_one, list_ended rest)

pub list_sound : (text : List ℕ) (at : ℕ) (ids : List Id) (end : ℕ) → list_at text at ≡ Some (ids, end)
    → (begins is_identifier_char (drop at text) ≡ true) × ((piece : List ℕ) × (drop at text ≡ piece ++ drop end text) × IsLongestIdentifiers piece (drop end text) ids)
list_sound text at ids end e =
    let t = drop at text in
    let n = list_len t in
    let some : begins is_identifier_char t ≡ true = grind arith in
    let rest : drop end text ≡ drop n t = grind (arith, drop-drop) in
    let runs = begun_runs (take n t) (begins_taken t some) (taken_runs t) in
    let ended = list_ended t in
    (some, (take n t, grind (arith, take-append-drop), grind arith))

pub first_char : (c : ℕ) (ps : List (List ℕ)) → tail_runs (onto_first c ps) ≡ true → is_identifier_char c ≡ true
first_char c ps t = grind arith

pub runs_begin : (s r : List ℕ) → list_all is_identifier (pieces s) ≡ true → begins is_identifier_char (s ++ r) ≡ true
runs_begin [] r h = cc
runs_begin (c ∷ s) r h = grind (arith, first_char, runs_tail)

-- a text whose pieces are runs is listed, and so is what goes on behind it
pub list_len-append : (s more : List ℕ) → tail_runs (pieces s) ≡ true → list_len (s ++ more) ≡ length s + list_len more
unfolding list_len
list_len-append [] more h = omega arith
list_len-append (c ∷ s) more h =
    grind (arith, nat_tests, first_char, runs_begin, runs_tail, tail_onto, list_len-append s more)

pub list_complete : (text : List ℕ) (at : ℕ) (piece rest : List ℕ) (ids : List Id) → drop at text ≡ piece ++ rest → IsLongestIdentifiers piece rest ids
    → (list_at text at ≡ Some (ids, at + length piece)) × (drop (at + length piece) text ≡ rest)
list_complete text at piece rest ids e l =
    let begun = runs_begin piece rest l.identifiers.runs in
    let len : list_len (piece ++ rest) ≡ length piece =
    omega (arith, list_len-append piece rest (runs_tail (pieces piece) l.identifiers.runs), list_len_stop rest l.ended) in
    (rw (e, begun, len, take-append_seam piece rest, ← l.identifiers.spelled) refl, rest_at text at (at + length piece) piece rest e refl)

pub list_none : (text : List ℕ) (at : ℕ) → begins is_identifier_char (drop at text) ≡ false → list_at text at ≡ None
list_none text at h = rw h refl
