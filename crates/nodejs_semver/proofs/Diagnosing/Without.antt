-- A range text means what its words mean that are not ignored.
use Rattle.nodejs_semver.proofs.Common.{AllByRecursion, IsBlank, IsCutAtBars, IsUtf8, List, Means, Run, Span, VersionValue, Word, [], ap, arith}
use Rattle.nodejs_semver.proofs.Common.{common_steps, empty_is, denotes, false, filter, filter_map, flat_map, interval_of, is_empty, is_some, list_all, map}
use Rattle.nodejs_semver.proofs.Common.{middle_is_trim, more_pieces, nat_tests, one_piece, part_denotes, precedence, refl, run_items, sym, table}
use Rattle.nodejs_semver.proofs.{Common.{trim, true, words, ℕ, ◌++◌, ◌↔◌, ◌∙◌, ◌∷◌, ◌≡◌}, Dividing.MeaningLaw.{blank-empty, empty-blank, one_meaning}}
use Rattle.nodejs_semver.{proofs.Dividing.MeaningLaw.words-law, specs.Diagnosis.IgnoredWords.{AreAlike, IsWhollyIgnored, ignored_as}}
use Rattle.nodejs_semver.specs.Text.Meaning.{AreAllIntervals, HasRuns, HasWords, all_intervals, blank_piece, next_piece}
use Rattle.{nodejs_semver.specs.Text.Meaning.no_piece, semver_core.proofs.Dividing.BarsDivide.{bars_once, pieces-utf8}}
use Rattle.std.{proofs.lemmas.Bool.false_from_ne_true, specs.{List.AllZip, Prelude.is_none}}

-- two pieces have the same words but for ignored ones, and words both or neither; a piece has words, and all are ignored
abbrev IsAlike : ℕ → List ℕ → List ℕ → Type 0
IsAlike limit piece other = (ws us : List Word) × HasWords limit piece ws × HasWords limit other us
    × (filter (λ w. is_none (ignored_as limit w)) ws ≡ filter (λ w. is_none (ignored_as limit w)) us)
    × (is_empty ws ≡ is_empty us)

abbrev IsIgnored : ℕ → List ℕ → Type 0
IsIgnored limit piece = (ws : List Word) × HasWords limit piece ws × (is_empty ws ≡ false)
    × (list_all (λ w. is_some (ignored_as limit w)) ws ≡ true)

-- ---- the bounds of the words

kept-is : (limit : ℕ) (word : Word) → is_none (ignored_as limit word) ≡ is_some (table limit word)
unfolding table
kept-is limit word = grind arith

kept-bounds : (limit : ℕ) (ws : List Word)
    → filter_map (table limit) (filter (λ w. is_none (ignored_as limit w)) ws) ≡ filter_map (table limit) ws
kept-bounds limit [] = refl
kept-bounds limit (w ∷ ws) = grind (arith, kept-is limit w, kept-bounds limit ws)

ignored-bounds : (limit : ℕ) (ws : List Word)
    → list_all (λ w. is_some (ignored_as limit w)) ws ≡ is_empty (filter_map (table limit) ws)
ignored-bounds limit [] = refl
ignored-bounds limit (w ∷ ws) = grind (arith, kept-is limit w, ignored-bounds limit ws)

-- a piece has words unless it is blank
piece-words : (limit : ℕ) (piece : List ℕ) (ws : List Word) → HasWords limit piece ws → is_empty (trim piece) ≡ is_empty ws
piece-words limit piece ws h = grind (arith, nat_tests, middle_is_trim piece h.0 h.1)

words-are : (limit : ℕ) (piece : List ℕ) (ws : List Word) → IsUtf8 piece → HasWords limit piece ws
    → words limit (trim piece) ≡ ws
words-are limit piece ws u h = grind (arith, nat_tests, middle_is_trim piece h.0 h.1, words-law limit piece h.0 ws u h.1)

-- ---- texts that are alike mean the same

empty-alike : (limit : ℕ) (piece other : List ℕ) → IsAlike limit piece other → is_empty (trim piece) ≡ is_empty (trim other)
empty-alike limit piece other h = piece-words limit piece h.0 h.2 ∙ (h.5 ∙ sym (piece-words limit other h.1 h.3))

piece-alike : (limit : ℕ) (piece other : List ℕ) → IsUtf8 piece → IsUtf8 other → IsAlike limit piece other
    → part_denotes limit (trim piece) ≡ part_denotes limit (trim other)
piece-alike limit piece other u v h =
    grind (arith, nat_tests, kept-bounds limit h.0, kept-bounds limit h.1, empty-alike limit piece other h, words-are limit piece h.0 u h.2, words-are limit other h.1 v h.3)

all-alike : (limit : ℕ) (ps qs : List (List ℕ)) → AllByRecursion IsUtf8 ps → AllByRecursion IsUtf8 qs
    → AllZip (IsAlike limit) ps qs → (list_all is_empty (map trim ps) ≡ list_all is_empty (map trim qs))
    × (flat_map (part_denotes limit) (map trim ps) ≡ flat_map (part_denotes limit) (map trim qs))
all-alike limit [] [] u v h = (refl, refl)
all-alike limit (p ∷ ps) (q ∷ qs) u v h =
    grind (arith, piece-alike limit p q, empty-alike limit p q, all-alike limit ps qs)
all-alike limit ps qs u v h = absurd h

denotes-alike : (limit : ℕ) (text other : List ℕ) → IsUtf8 text → IsUtf8 other → AreAlike limit text other
    → denotes limit text ≡ denotes limit other
denotes-alike limit text other u v h =
    grind (arith, nat_tests, pieces-utf8 text h.0 h.2 u, pieces-utf8 other h.1 h.3 v, all-alike limit h.0 h.1 (pieces-utf8 text h.0 h.2 u) (pieces-utf8 other h.1 h.3 v) h.4, bars_once text h.0 h.2, bars_once other h.1 h.3)

pub same_without : (limit : ℕ) (text other : List ℕ) (list : List (Span VersionValue)) → IsUtf8 text → IsUtf8 other
    → AreAlike limit text other → Means limit text list → Means limit other list
same_without limit text other list u v h m = grind (arith, nat_tests, common_steps, one_meaning, denotes-alike)

-- ---- which texts are rejected

no-runs : (runs : List (Run VersionValue)) (others : List (Span VersionValue)) → map (interval_of precedence) runs ++ others ≡ []
    → (runs ≡ []) × (others ≡ [])
no-runs [] others e = (refl, e)
no-runs (r ∷ runs) others e = cc e

dark-words : (limit : ℕ) (piece : List ℕ) (ws : List Word) → IsUtf8 piece → (IsBlank piece → ⊥) → HasWords limit piece ws
    → is_empty ws ≡ false
dark-words limit piece ws u dark h = false_from_ne_true _ (λ e. dark (empty-blank piece u (piece-words limit piece ws h ∙ e)))

pieces-ignored : (limit : ℕ) (pieces : List (List ℕ)) (list : List (Span VersionValue)) → AllByRecursion IsUtf8 pieces
    → AreAllIntervals limit pieces list → list ≡ [] → AllByRecursion (IsIgnored limit) pieces
pieces-ignored limit pieces list u no_piece e = tt
pieces-ignored limit pieces list u (blank_piece piece rest others blank more) e = cc e
pieces-ignored limit pieces list u (next_piece piece rest runs others dark h more) e =
    let parts = no-runs runs others e in
    let none : filter_map (table limit) h.0 ≡ [] = sym h.2.0 ∙ ap (λ (l : List (Run VersionValue)). flat_map run_items l) parts.0 in (
      (h.0, h.1, dark-words limit piece h.0 u.0 dark h.1, ignored-bounds limit h.0 ∙ ap is_empty none),
      pieces-ignored limit rest others u.1 more parts.1,
    )

filled : (limit : ℕ) (piece : List ℕ) → IsIgnored limit piece → IsBlank piece → ⊥
filled limit piece h blank = cc (sym (blank-empty piece blank) ∙ (piece-words limit piece h.0 h.1 ∙ h.2))

ignored-mean : (limit : ℕ) (pieces : List (List ℕ)) → AllByRecursion (IsIgnored limit) pieces → AreAllIntervals limit pieces []
ignored-mean limit [] h = no_piece
ignored-mean limit (piece ∷ pieces) h =
    let none = empty_is _ (sym (ignored-bounds limit h.0.0) ∙ h.0.3) in
    let runs : HasRuns limit piece [] = (h.0.0, h.0.1, (sym none, tt, tt)) in
    next_piece piece pieces [] [] (filled limit piece h.0) runs (ignored-mean limit pieces h.1)

not-blank : (limit : ℕ) (text : List ℕ) (pieces : List (List ℕ)) → IsCutAtBars text pieces
    → AllByRecursion (IsIgnored limit) pieces → AllByRecursion IsBlank pieces → ⊥
not-blank limit text pieces (one_piece piece h) ignored blank = filled limit piece ignored.0 blank.0
not-blank limit text pieces (more_pieces piece rest others h ended cut) ignored blank =
    filled limit piece ignored.0 blank.0

pub rejected_if_ignored : (limit : ℕ) (text : List ℕ) → IsUtf8 text → Means limit text [] ↔ IsWhollyIgnored limit text
rejected_if_ignored limit text u = (
  λ m. grind (arith, pieces-ignored, pieces-utf8),
  λ h. all_intervals h.0 [] h.1 (not-blank limit text h.0 h.1 h.2) (ignored-mean limit h.0 h.2),
)
