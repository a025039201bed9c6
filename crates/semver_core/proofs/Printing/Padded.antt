-- Serves proofs: identifiers of which none begins with a 0 and goes on print as the text that spells them.
use Rattle.semver_core.proofs.Common.{List, [], Bool, ap, arith, add-one, cases_Bool, drop, false, get_or, id_text}
use Rattle.semver_core.proofs.Common.{identifier_of, is_identifier, is_listed, is_u64_text, listed, length, inl, inr, map, nat_tests}
use Rattle.semver_core.proofs.Common.{onto_first, pieces, refl, sym, true, ℕ, ◌+◌, ◌<◌, ◌&&◌, ◌||◌, ◌∙◌, ◌∷◌, ◌≡◌, ◌==◌, ◌^◌, and_parts}
use Rattle.semver_core.proofs.Common.{is_ascii_digit, list_all, digits_value, join_with_byte, drop-cons, ◌≤◌, drop_all}
use Rattle.semver_core.proofs.Text.Runs.{numerals}
use Rattle.semver_core.specs.Internal.Sources.{begins_padded_run, has_padded, is_padded}
use Rattle.std.specs.List.{list_any}
use Rattle.std.proofs.lemmas.{Fmt.decimal-digits_value, List.Splits.join_with_byte-slice_split}

-- ---- the text where none is padded

-- one identifier
run_prints : (run : List ℕ) → is_identifier run ≡ true → is_padded run ≡ false → id_text (identifier_of run) ≡ run
run_prints run h p = elim (cases_Bool (is_u64_text run)) [
  | inl fits ↦
      let both = and_parts (list_all is_ascii_digit run) _ fits in
      let some : 0 < length run = grind (arith, nat_tests, h) in
      let one : get_or run 0 0 ≡ 48 → length run ≡ 1 = λ zero. grind (arith, nat_tests) in
      let small : digits_value 10 run < 2 ^ 64 = grind (arith, nat_tests, both.1) in
      rw fits (decimal-digits_value numerals run both.0 some one small)
  | inr text ↦ rw text refl
]

runs_print : (runs : List (List ℕ)) → list_all is_identifier runs ≡ true → list_any is_padded runs ≡ false
    → map id_text (map identifier_of runs) ≡ runs
runs_print [] h p = refl
runs_print (run ∷ runs) h p =
    let both = and_parts (is_identifier run) (list_all is_identifier runs) h in
    grind (arith, nat_tests, run_prints run both.0, runs_print runs both.1)

pub unpadded_prints : (text : List ℕ) → is_listed text ≡ true → has_padded text ≡ false
    → text ≡ join_with_byte 46 (map id_text (listed text))
unfolding is_listed listed has_padded
unpadded_prints [] h p = refl
unpadded_prints (c ∷ rest) h p =
    sym (ap (join_with_byte 46) (runs_print (pieces (c ∷ rest)) h p) ∙ join_with_byte-slice_split 46 (c ∷ rest))

-- ---- the test, byte by byte

-- a run behind a dot of the text is padded
unfoldable pub behind_padded : List ℕ → Bool
behind_padded [] = false
behind_padded (c ∷ rest) = (c == 46 && begins_padded_run rest) || behind_padded rest

abbrev first_padded : List (List ℕ) → Bool
first_padded [] = false
first_padded (run ∷ runs) = is_padded run

abbrev behind : List (List ℕ) → List (List ℕ)
behind [] = []
behind (run ∷ runs) = runs

onto_behind : (c : ℕ) (runs : List (List ℕ)) → behind (onto_first c runs) ≡ behind runs
onto_behind c runs = grind arith

any_split : (runs : List (List ℕ)) → list_any is_padded runs ≡ (first_padded runs || list_any is_padded (behind runs))
any_split runs = grind arith

first_is : (text : List ℕ) → first_padded (pieces text) ≡ begins_padded_run text
first_is [] = refl
first_is (c ∷ []) = grind (arith, nat_tests)
first_is (c ∷ d ∷ rest) = grind (arith, nat_tests)

behind_is : (text : List ℕ) → list_any is_padded (behind (pieces text)) ≡ behind_padded text
unfolding behind_padded
behind_is [] = refl
behind_is (c ∷ rest) = grind (arith, nat_tests, any_split (pieces rest), first_is rest, behind_is rest, onto_behind c (pieces rest))

has_is : (text : List ℕ) → has_padded text ≡ (begins_padded_run text || behind_padded text)
unfolding has_padded
has_is text = grind (arith, first_is text, behind_is text)

pub padded_first : (text : List ℕ) → begins_padded_run text ≡ true → has_padded text ≡ true
padded_first text h = has_is text ∙ rw h refl

pub padded_behind : (text : List ℕ) → begins_padded_run text ≡ false → has_padded text ≡ behind_padded text
padded_behind text h = has_is text ∙ rw h refl

behind_at : (text : List ℕ) (at : ℕ) → at < length text
    → behind_padded (drop at text)
    ≡ ((get_or text at 0 == 46 && begins_padded_run (drop (at + 1) text)) || behind_padded (drop (at + 1) text))
unfolding behind_padded
behind_at text at lt = rw (add-one at, drop-cons text at 0 lt) refl

pub behind_here : (text : List ℕ) (at : ℕ) → at < length text → get_or text at 0 ≡ 46 → begins_padded_run (drop (at + 1) text) ≡ true
    → behind_padded (drop at text) ≡ true
behind_here text at lt dot h = behind_at text at lt ∙ rw (dot, h) refl

pub behind_dot : (text : List ℕ) (at : ℕ) → at < length text → begins_padded_run (drop (at + 1) text) ≡ false
    → behind_padded (drop at text) ≡ behind_padded (drop (at + 1) text)
behind_dot text at lt h = behind_at text at lt ∙ rw h (grind arith)

pub behind_other : (text : List ℕ) (at : ℕ) → at < length text → (get_or text at 0 ≡ 46 → ⊥)
    → behind_padded (drop at text) ≡ behind_padded (drop (at + 1) text)
behind_other text at lt h =
    behind_at text at lt ∙ grind (arith, nat_tests)

pub behind_end : (text : List ℕ) (at : ℕ) → length text ≤ at → behind_padded (drop at text) ≡ false
unfolding behind_padded
behind_end text at h = rw (drop_all at text) refl

pub ruleset padded = (padded_first, padded_behind, behind_end)
