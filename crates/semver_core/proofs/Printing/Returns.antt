-- Serves proofs: a printed version reads as itself.
use Rattle.semver_core.proofs.Common.{id_text, begins, is_identifier_char, Id, Numeric, goes_on, identifier_of}
use Rattle.semver_core.proofs.Common.{is_identifier, pieces, IsNumber, Reads, begins_pre_release, no_mark, VersionValue}
use Rattle.semver_core.proofs.Common.{List, [], ap, append-nil, arith, eqb, false, length, refl, subst, sym, true, ℕ}
use Rattle.semver_core.proofs.Common.{◌++◌, ◌<◌, ◌∙◌, ◌∷◌, ◌≡◌, ◌≤◌, nat_tests, lt-ltb, is_ascii_digit}
use Rattle.semver_core.proofs.Common.{All, list_all, ◌==◌, digits_value, is_normal, marked_list, version_text}
use Rattle.semver_core.proofs.Common.{IsBuild, IsPreRelease, dashed, no_build, no_pre_release, plus, map}
use Rattle.semver_core.proofs.Common.{suc, zero, ◌^◌, slice_split_at, slice_split_none, decimal, join_with_byte}
use Rattle.semver_core.proofs.Common.{Err, Ok, Result, Parses}
use Rattle.semver_core.proofs.Common.{IfOk, append_assoc, ◌*◌, ◌+◌, codes, digits}
use Rattle.semver_core.specs.{Internal.Readable.{IsReadable, readable}, Printing.RoundTrip.is_readable}
use Rattle.{semver_core.specs.Text.Identifiers.IsIdentifiers, std.proofs.lemmas.Fmt.{decimal_is_IsNumeral, digits_decimal}}
use Rattle.{std.proofs.lemmas.Fmt.digits_value-decimal, std.specs.List.slice_range, semver_core.proofs.Text.Runs.not_dot}
use Rattle.semver_core.proofs.Text.Runs.{all_more, of_digits, numerals}

-- ---- one identifier

pub decimal_digits : (n : ℕ) → n < 2 ^ 64 → list_all is_ascii_digit (decimal n) ≡ true
decimal_digits n small = digits_decimal numerals n small

pub decimal_value : (n : ℕ) → n < 2 ^ 64 → digits_value 10 (decimal n) ≡ n
decimal_value n small = digits_value-decimal numerals n small

pub decimal_some : (n : ℕ) → n < 2 ^ 64 → 0 < length (decimal n)
decimal_some n small = (decimal_is_IsNumeral n small).0.0

decimal_run : (n : ℕ) → n < 2 ^ 64 → is_identifier (decimal n) ≡ true
decimal_run n small =
    let chars = all_more is_ascii_digit is_identifier_char (decimal n) (λ c d. grind (arith, nat_tests)) (decimal_digits n small) in
    rw (lt-ltb 0 (length (decimal n)) (decimal_some n small), chars) refl

decimal_identifier : (n : ℕ) → n < 2 ^ 64 → identifier_of (decimal n) ≡ Numeric n
decimal_identifier n small =
    let value = decimal_value n small in
    of_digits (decimal n) (decimal_digits n small) (rw value small) ∙ ap Numeric value

-- the text of an identifier is a run that spells it
pub id_run : (id : Id) → is_normal id ≡ true → is_identifier (id_text id) ≡ true
id_run id h = grind (arith, nat_tests, decimal_run)

pub id_spelled : (id : Id) → is_normal id ≡ true → identifier_of (id_text id) ≡ id
id_spelled id h = grind (arith, nat_tests, decimal_identifier)

-- ---- lists joined by dots

chars_no_dot : (run : List ℕ) → list_all is_identifier_char run ≡ true → All (λ c. eqb c 46 ≡ false) run
chars_no_dot [] h k d lt = absurd (grind arith)
chars_no_dot (c ∷ run) h zero d lt = grind (arith, not_dot)
chars_no_dot (c ∷ run) h (suc k) d lt = grind (arith, chars_no_dot run)

pub run_chars : (run : List ℕ) → is_identifier run ≡ true → list_all is_identifier_char run ≡ true
run_chars run h = grind arith

-- runs joined by dots are cut at the dots into the same runs
pub pieces_joined : (run : List ℕ) (runs : List (List ℕ)) → list_all is_identifier (run ∷ runs) ≡ true → pieces (join_with_byte 46 (run ∷ runs)) ≡ run ∷ runs
pieces_joined run [] h = slice_split_none (λ c. c == 46) run (chars_no_dot run (grind (arith, run_chars)))
pieces_joined run (next ∷ runs) h =
    let one = chars_no_dot run (grind (arith, run_chars)) in
    slice_split_at (λ c. c == 46) run 46 (join_with_byte 46 (next ∷ runs)) one refl
    ∙ ap (λ l. run ∷ l) (pieces_joined next runs (grind arith))

pub ids_runs : (ids : List Id) → list_all is_normal ids ≡ true → list_all is_identifier (map id_text ids) ≡ true
ids_runs [] h = refl
ids_runs (id ∷ ids) h = grind (arith, id_run id, ids_runs ids)

pub ids_spelled : (ids : List Id) → list_all is_normal ids ≡ true → ids ≡ map identifier_of (map id_text ids)
ids_spelled [] h = refl
ids_spelled (id ∷ ids) h = grind (arith, id_spelled id, ids_spelled ids)

pub joined_is : (id : Id) (ids : List Id) → list_all is_normal (id ∷ ids) ≡ true → IsIdentifiers (join_with_byte 46 (map id_text (id ∷ ids))) (id ∷ ids)
joined_is id ids h =
    let cut = pieces_joined (id_text id) (map id_text ids) (ids_runs (id ∷ ids) h) in
    record { runs = rw cut (ids_runs (id ∷ ids) h); spelled = rw cut (ids_spelled (id ∷ ids) h) }

-- ---- the pieces of a version

pub build_back : (ids : List Id) → list_all is_normal ids ≡ true → IsBuild (marked_list (43 ∷ []) ids) [] ids
build_back [] h = no_build [] refl
build_back (id ∷ ids) h = plus _ [] (id ∷ ids) (record { identifiers = joined_is id ids h; ended = refl })

-- no identifier list goes on with what a build begins with, and no pre-release begins so
build_stops : (ids : List Id) → (goes_on (marked_list (43 ∷ []) ids ++ []) ≡ false) × (begins_pre_release (marked_list (43 ∷ []) ids ++ []) ≡ false)
build_stops ids = (grind arith, grind arith)

pub pre_back : (ids builds : List Id) → list_all is_normal ids ≡ true → IsPreRelease (marked_list (45 ∷ []) ids) (marked_list (43 ∷ []) builds ++ []) ids
pre_back [] builds h = no_pre_release (marked_list (43 ∷ []) builds ++ []) (build_stops builds).1
pre_back (id ∷ ids) builds h = dashed _ (marked_list (43 ∷ []) builds ++ []) (id ∷ ids) (record { identifiers = joined_is id ids h; ended = (build_stops builds).0 })

no_digit : (ids builds : List Id) → begins is_ascii_digit (marked_list (45 ∷ []) ids ++ (marked_list (43 ∷ []) builds ++ [])) ≡ false
no_digit ids builds = grind arith

pub number_back : (limit n : ℕ) → limit < 2 ^ 64 → n ≤ limit → IsNumber limit (decimal n) n
number_back limit n max small =
    let fits : n < 2 ^ 64 = omega arith in
    record { some = decimal_some n fits; each = decimal_digits n fits; value = sym (decimal_value n fits); safe = small }

-- a printed version reads as itself
pub version_back : (limit : ℕ) (v : VersionValue) → limit < 2 ^ 64 → IsReadable limit v → Reads limit (version_text v) v
version_back limit v max h = record {
  mark = [];
  blank = [];
  major = decimal v.major;
  minor = decimal v.minor;
  patch = decimal v.patch;
  pre_release = marked_list (45 ∷ []) v.pre_release;
  build = marked_list (43 ∷ []) v.build;
  rest = [];
  divided = rw (append-nil (marked_list (43 ∷ []) v.build)) refl;
  mark_is = no_mark;
  blank_is = record { characters = []; each = refl; spelled = refl };
  major_is = number_back limit v.major max h.major;
  minor_is = number_back limit v.minor max h.minor;
  patch_is = record { number = number_back limit v.patch max h.patch; ended = no_digit v.pre_release v.build };
  pre_release_is = pre_back v.pre_release v.build h.pre_release;
  build_is = build_back v.build h.build;
}

-- what comes back from a printed version
pub printed_back : (limit : ℕ) (text : List ℕ) (v : VersionValue) → limit < 2 ^ 64 → text ≡ version_text v → is_readable limit v ≡ true → Reads limit text v
printed_back limit text v max e h = subst (λ (t : List ℕ). Reads limit t v) (sym e) (version_back limit v max (readable limit v h))

-- ---- Serves proofs: a version that is printed and parsed.

pub reread_same : {E : Type 0} (limit : ℕ) (text : List ℕ) (r : Result VersionValue E) (v : VersionValue)
    → ((w : VersionValue) → Reads limit text w → w ≡ v)
    → IfOk r (λ w. Parses limit text w) → IfOk r (λ w. w ≡ v)
reread_same limit text (Ok w) v only p = only w p.reads
reread_same limit text (Err x) v only p = tt

-- ---- Serves proofs: what a loop over identifiers has written.

-- a marked list is its first identifier, and the others with a dot before each
pub marked_first : (mark : List ℕ) (x : Id) (xs : List Id) → mark ++ (id_text x ++ marked_list (46 ∷ []) xs) ≡ marked_list mark (x ∷ xs)
marked_first mark x [] = ap (λ l. mark ++ l) (append-nil (id_text x))
marked_first mark x (y ∷ ys) = refl

-- after one more identifier of the list, and the mark before it
pub marked_step : (so_far all mark : List ℕ) (ids rest : List Id) (x : Id) → ids ≡ x ∷ rest → so_far ++ marked_list mark ids ≡ all
    → (so_far ++ (mark ++ id_text x)) ++ marked_list (46 ∷ []) rest ≡ all
marked_step so_far all mark ids rest x e h = append_assoc so_far (mark ++ id_text x) (marked_list (46 ∷ []) rest)
    ∙ ap (λ l. so_far ++ l) (append_assoc mark (id_text x) (marked_list (46 ∷ []) rest) ∙ marked_first mark x rest) ∙ rw e at h

-- the digits below ten, each at its own place, without the dot behind it and with it
pub digit_text : (n : ℕ) → n < 10 → (slice_range (codes "0.1.2.3.4.5.6.7.8.9.") (2 * n) (2 * n + 1) ≡ decimal n)
    × (slice_range (codes "0.1.2.3.4.5.6.7.8.9.") (2 * n) (2 * n + 2) ≡ decimal n ++ 46 ∷ [])
unfolding digits
digit_text zero h = (refl, refl)
digit_text (suc zero) h = (refl, refl)
digit_text (suc (suc zero)) h = (refl, refl)
digit_text (suc (suc (suc zero))) h = (refl, refl)
digit_text (suc (suc (suc (suc zero)))) h = (refl, refl)
digit_text (suc (suc (suc (suc (suc zero))))) h = (refl, refl)
digit_text (suc (suc (suc (suc (suc (suc zero)))))) h = (refl, refl)
digit_text (suc (suc (suc (suc (suc (suc (suc zero))))))) h = (refl, refl)
digit_text (suc (suc (suc (suc (suc (suc (suc (suc zero)))))))) h = (refl, refl)
digit_text (suc (suc (suc (suc (suc (suc (suc (suc (suc zero))))))))) h = (refl, refl)
digit_text (suc (suc (suc (suc (suc (suc (suc (suc (suc (suc n)))))))))) h = absurd (omega (arith, h))
