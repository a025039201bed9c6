-- Where the identifiers that begin at a place end, and that what stands there spells them.
use Rattle.semver_core.proofs.Common.{NoValue, begins, is_identifier_char, goes_on, identifier_of, is_identifier, pieces}
use Rattle.semver_core.proofs.Common.{is_listed, listed, Reads, VersionValue, HasIdentifiers, List, Some, [], add-one, arith}
use Rattle.semver_core.proofs.Common.{drop, false, length, refl, take, true, ℕ, ◌+◌, ◌-◌, ◌<◌, ◌∷◌, ◌≡◌, ◌≤◌, drop-cons, drop_all}
use Rattle.semver_core.proofs.Common.{list_all, list_from, list_len, Parses, map, take_rest, MAX_LENGTH, Id, ap, get_or, ◌==◌}
use Rattle.semver_core.proofs.Common.{length-map, length-slice_split, nat_tests, ◌||◌, ◌&&◌}
use Rattle.semver_core.proofs.Common.{append-nil, cases_Bool, eqb-true, inl, inr, sym, take_all, ◌∙◌}
use Rattle.semver_core.proofs.Text.Pieces.{begins_taken, begun_runs, list_len-append, runs_tail, taken_runs}
use Rattle.semver_core.proofs.Text.{Listed.{listed_begins, listed_none}, Runs.list_len_stop}

-- the loop
pub end_step : (xs : List ℕ) (i : ℕ) → i < length xs → goes_on (drop i xs) ≡ true
    → list_len (drop i xs) ≡ 1 + list_len (drop (i + 1) xs)
unfolding list_len
end_step xs i lt h =
    let more = rw (drop-cons xs i 0 lt) at h in
    rw (drop-cons xs i 0 lt, add-one i, more) refl

pub ruleset list_ends = (end_step, list_len_stop)

-- whether it goes on
pub goes_here : (xs : List ℕ) (i : ℕ) → i < length xs
    → goes_on (drop i xs) ≡ (is_identifier_char (get_or xs i 0) || (get_or xs i 0 == 46 && begins is_identifier_char (drop (i + 1) xs)))
goes_here xs i lt = rw (drop-cons xs i 0 lt, add-one i) refl

pub goes_past : (xs : List ℕ) (i : ℕ) → length xs ≤ i → goes_on (drop i xs) ≡ false
goes_past xs i le = rw (drop_all i xs le) refl

pub char_other : (c : ℕ) → is_identifier_char c ≡ true → (c == 10) ≡ false
char_other c h = grind (arith, nat_tests)

pub ruleset goes_at = (goes_here, goes_past, char_other)

-- what stands there
pub runs_taken : (t : List ℕ) → begins is_identifier_char t ≡ true → list_all is_identifier (pieces (take (list_len t) t)) ≡ true
runs_taken t h = begun_runs (take (list_len t) t) (begins_taken t h) (taken_runs t)

spelled : (s : List ℕ) → list_all is_identifier (pieces s) ≡ true → listed s ≡ map identifier_of (pieces s)
unfolding listed
spelled s h = grind arith

pub is_spelled : (s : List ℕ) → list_all is_identifier (pieces s) ≡ true → is_listed s ≡ true
unfolding is_listed
is_spelled s h = grind arith

pub cut_listed : (text : List ℕ) (start end : ℕ) → end ≡ start + list_len (drop start text)
    → begins is_identifier_char (drop start text) ≡ true → is_listed (take (end - start) (drop start text)) ≡ true
cut_listed text start end e h =
    let n : end - start ≡ list_len (drop start text) = omega (arith, e) in
    rw n (is_spelled (take (list_len (drop start text)) (drop start text)) (runs_taken (drop start text) h))

pub cut_found : (text : List ℕ) (at start end : ℕ) → end ≡ start + list_len (drop start text)
    → begins is_identifier_char (drop start text) ≡ true
    → (listed (take (end - start) (drop start text)), end) ≡ list_from text at (Some start)
cut_found text at start end e h =
    let n : end - start ≡ list_len (drop start text) = omega (arith, e) in
    rw (n, h, e, spelled (take (list_len (drop start text)) (drop start text)) (runs_taken (drop start text) h)) refl

pub some_found : (text : List ℕ) (at start : ℕ) (found : List Id × ℕ) → begins is_identifier_char (drop start text) ≡ true
    → found ≡ list_from text at (Some start) → 0 < length found.0
some_found text at start found h e =
    let list = take (list_len (drop start text)) (drop start text) in
    let is : found.0 ≡ map identifier_of (pieces list) = rw (e, h) refl in
    omega (arith, ap length is, length-map (pieces list) identifier_of, length-slice_split (λ c. c == 46) list)

pub nothing_spelled : listed [] ≡ []
nothing_spelled = listed_none [] refl

pub nothing_listed : is_listed [] ≡ true
unfolding is_listed
nothing_listed = refl

pub ruleset lists_cut = (cut_listed, cut_found, take_rest, nothing_spelled, nothing_listed)

-- a whole text spells a list
listed_runs : (text : List ℕ) → 0 < length text → is_listed text ≡ list_all is_identifier (pieces text)
unfolding is_listed
listed_runs text h = grind arith

whole_spelled : (text : List ℕ) → begins is_identifier_char text ≡ true → list_len text ≡ length text → is_listed text ≡ true
whole_spelled text h e = rw (ap (λ n. take n text) e ∙ take_all (length text) text (omega arith)) at (is_spelled (take (list_len text) text) (runs_taken text h))

pub none_listed : (text : List ℕ) → length text ≡ 0 → is_listed text ≡ true
none_listed [] h = nothing_listed
none_listed (c ∷ rest) h = absurd (omega arith)

pub not_begun : (text : List ℕ) → 0 < length text → begins is_identifier_char text ≡ false → is_listed text ≡ false
not_begun text some h = grind (arith, listed_begins)

pub whole_listed : (text : List ℕ) → begins is_identifier_char text ≡ true → (list_len text == length text) ≡ is_listed text
whole_listed text h =
    let runs = listed_runs text (grind arith) in
    grind (arith, nat_tests, whole_spelled text h, append-nil, list_len-append text [], list_len_stop [] refl, runs_tail)

pub ruleset whole_lists = (none_listed, not_begun, whole_listed)

-- ---- the clauses of the readers

pub not_parsed : (limit : ℕ) (text : List ℕ) → NoValue (Reads limit text) → NoValue (Parses limit text)
not_parsed limit text h = λ v p. h v p.reads

pub short_parsed : (limit : ℕ) (text : List ℕ) (v : VersionValue) → length text ≤ MAX_LENGTH → Reads limit text v → Parses limit text v
short_parsed limit text v short r = record { short = short; reads = r }

pub short_memory : (limit : ℕ) (text : List ℕ) → length text ≤ MAX_LENGTH → (v : VersionValue) × Reads limit text v × HasIdentifiers v
    → (v : VersionValue) × Parses limit text v × HasIdentifiers v
short_memory limit text short m = (m.0, record { short = short; reads = m.1 }, m.2)

pub ruleset parsed = (not_parsed, short_parsed, short_memory, nothing_listed)
