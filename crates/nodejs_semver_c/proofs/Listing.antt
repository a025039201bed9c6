-- A text spells identifiers exactly where the longest list at its front is all of it.
use Rattle.std.proofs.Common.{◌≡◌, ◌<◌, ◌≤◌, ◌∷◌, ◌∙◌, ◌==◌, ℕ, List, [], append-nil, arith, false, inl, inr, length, refl, sym, take_all, true}
use Rattle.std.specs.List.{list_all}
use Rattle.nodejs_semver.proofs.Common.{cases_Bool, nat_tests}
use Rattle.semver_core.proofs.Text.Ends.{is_spelled, nothing_listed, runs_taken}
use Rattle.semver_core.proofs.Text.Listed.{listed_begins}
use Rattle.semver_core.proofs.Text.Pieces.{list_len-append, runs_tail}
use Rattle.semver_core.proofs.Text.Runs.{not_dot}
use Rattle.semver_core.specs.Internal.Reading.{list_len}
use Rattle.semver_core.specs.Text.Characters.{begins, is_identifier_char}
use Rattle.semver_core.specs.Text.Identifiers.{is_identifier, is_listed, pieces}
use Rattle.nodejs_semver_c.specs.Internal.Keeps.{is_character}

one_listed : (c : ℕ) → is_identifier_char c ≡ true → is_listed (c ∷ []) ≡ true
unfolding is_listed
one_listed c h = rw (not_dot c h, h) refl

pub empty_listed : (text : List ℕ) → (length text == 0) ≡ true → is_listed text ≡ true
empty_listed [] h = nothing_listed
empty_listed (c ∷ rest) h = absurd (grind (arith, nat_tests, h))

pub character_listed : (text : List ℕ) → is_character text ≡ true → is_listed text ≡ true
character_listed [] h = nothing_listed
character_listed (c ∷ []) h = one_listed c h
character_listed (c ∷ d ∷ rest) h = absurd (cc h)

pub whole_listed : (text : List ℕ) → begins is_identifier_char text ≡ true → length text ≤ list_len text → is_listed text ≡ true
whole_listed text h le = is_spelled text (rw (take_all (list_len text) text le) at (runs_taken text h))

some_runs : (text : List ℕ) → 0 < length text → is_listed text ≡ true → list_all is_identifier (pieces text) ≡ true
unfolding is_listed
some_runs [] some h = absurd (omega arith)
some_runs (c ∷ rest) some h = h

begins_some : (text : List ℕ) → begins is_identifier_char text ≡ true → 0 < length text
begins_some [] h = absurd (cc h)
begins_some (c ∷ rest) h = omega arith

pub not_begun : (text : List ℕ) → 0 < length text → begins is_identifier_char text ≡ false → is_listed text ≡ false
not_begun text some h = elim (cases_Bool (is_listed text)) [
  | inl is ↦ absurd (cc (sym h ∙ listed_begins text is some))
  | inr other ↦ other
]

pub cut_short : (text : List ℕ) → begins is_identifier_char text ≡ true → list_len text < length text → is_listed text ≡ false
cut_short text h lt = elim (cases_Bool (is_listed text)) [
  | inl is ↦
      let runs = runs_tail (pieces text) (some_runs text (begins_some text h) is) in
      let all = rw (append-nil text) at (list_len-append text [] runs) in
      absurd (omega (arith, all, lt))
  | inr other ↦ other
]

pub ruleset short_lists = (empty_listed, character_listed)

pub ruleset whole_lists = (whole_listed, not_begun, cut_short)
