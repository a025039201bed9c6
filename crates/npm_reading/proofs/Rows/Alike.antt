-- Worked rows, computed: the intervals of texts in both readings, which are alike, and of texts of which they are not.
use Rattle.nodejs_semver.proofs.Common.{AlphaNumeric, Before, List, MAX_SAFE_INTEGER, Span, VersionValue, [], after_spaces, any_version}
use Rattle.nodejs_semver.proofs.Common.{codes, component_front, cut_bars, denotes, drop_end_spaces, encode_utf8, false, from_boundary, is_boundary, list_len, lowest}
use Rattle.nodejs_semver.proofs.Common.{partial_front, refl, release_value, runs_from, space_len, table, word_at, words_within, ℕ, ◌∷◌, ◌≡◌}
use Rattle.npm_reading.specs.{Alike.AreAlike, Ranges.{IsRangeIn, intervals_in}}
use Rattle.npm_words.proofs.Common.{after_ends, alternative_of, alternatives_of, digits, dotted_patch, dotted_place, end_front, first_word, hyphen_ends}
use Rattle.npm_words.proofs.Common.{npm_sign, patch_place, place_front, pre_front, qualified_partial, signed_word}
use Rattle.npm_words.proofs.Grammar.AlternativeLaw.{alternatives_are}
use Rattle.npm_words.specs.{Internal.Words.{npm_alternatives, places_front}, Table.written_zeros}
use Rattle.semver_core.specs.Internal.Fronts.{build_front, dotted_front, number_of, number_with, pre_release_front, pre_release_with}
use Rattle.{semver_core.specs.Text.Identifiers.listed, std.specs.Prelude.unwrap_or}
use Rattle.npm_words.specs.Internal.Words as Npm
use Rattle.semver_core.specs.Values.Spans as Sides

-- the intervals of a text here, and those to node-semver
abbrev here : List ℕ → List (Span VersionValue)
here text = denotes MAX_SAFE_INTEGER text

abbrev there : List ℕ → List (Span VersionValue)
there text = intervals_in false (unwrap_or (npm_alternatives false false text) [])

abbrev Alike : List ℕ → Type 0
Alike text = AreAlike (here text) (there text)

-- from a release to below the least pre-release of another one
abbrev band : ℕ → ℕ → Span VersionValue
band M n = record { lower = Before (release_value M 0 0); upper = Before (lowest n 0 0) }

-- 1.0.0-a
abbrev lettered : VersionValue
lettered = record (release_value 1 0 0) { pre_release = AlphaNumeric (codes "a") ∷ [] }

rows-alike : Alike (codes "^1.2.3") × Alike (codes "~1.2") × Alike (codes "1.x || >=3.0.0") × Alike (codes "1.0.0 - 2.3") × Alike (codes ">=1.0.0-rc.1 <2")
    × Alike (codes "<1") × Alike (codes "<=1.2") × Alike (codes "0.x") × Alike (codes "*") × Alike (codes " || ")
unfolding table is_boundary number_of number_with space_len after_spaces drop_end_spaces cut_bars partial_front component_front dotted_front pre_release_front build_front
    list_len listed word_at words_within from_boundary runs_from digits alternatives_of alternative_of hyphen_ends end_front after_ends Npm.words_within first_word
    signed_word npm_sign places_front place_front dotted_place dotted_patch patch_place qualified_partial pre_front pre_release_with written_zeros
rows-alike = ((refl, tt), (refl, tt), (refl, (refl, tt)), (refl, tt), (refl, tt), (refl, tt), (refl, tt), (refl, tt), (refl, tt), (refl, tt))

rows-intervals :
    -- `^1  ||>2   < 4 ~v3` has the same in both
    (here (codes "^1  ||>2   < 4 ~v3") ≡ band 1 2 ∷ (band 3 4 ∷ [])) × (there (codes "^1  ||>2   < 4 ~v3") ≡ band 1 2 ∷ (band 3 4 ∷ []))
    -- `<1` has another upper bound, and `*` no lower one
    × (here (codes "<1") ≡ Sides.< (release_value 1 0 0) ∷ []) × (there (codes "<1") ≡ Sides.< (lowest 1 0 0) ∷ [])
    × (here (codes "*") ≡ Sides.>= (release_value 0 0 0) ∷ []) × (there (codes "*") ≡ any_version)
    -- `>=1.0.0-a <1` is an interval here, and accepts nothing to node-semver
    × (here (codes ">=1.0.0-a <1") ≡ record { lower = Before lettered; upper = Before (release_value 1 0 0) } ∷ [])
    × (there (codes ">=1.0.0-a <1") ≡ Sides.< (lowest 0 0 0) ∷ []) × (Alike (codes ">=1.0.0-a <1") → ⊥)
unfolding table is_boundary number_of number_with space_len after_spaces drop_end_spaces cut_bars partial_front component_front dotted_front pre_release_front build_front
    list_len listed word_at words_within from_boundary runs_from digits alternatives_of alternative_of hyphen_ends end_front after_ends Npm.words_within first_word
    signed_word npm_sign places_front place_front dotted_place dotted_patch patch_place qualified_partial pre_front pre_release_with written_zeros
rows-intervals = (refl, refl, refl, refl, refl, refl, refl, refl, λ h. cc h.0)

-- the range of a text, of which the second alternative is empty
row-range : IsRangeIn false MAX_SAFE_INTEGER false (codes "^1.2 ||") any_version
unfolding encode_utf8 table is_boundary number_of number_with space_len after_spaces drop_end_spaces cut_bars partial_front component_front dotted_front pre_release_front build_front
    list_len listed word_at words_within from_boundary runs_from digits alternatives_of alternative_of hyphen_ends end_front after_ends Npm.words_within first_word
    signed_word npm_sign places_front place_front dotted_place dotted_patch patch_place qualified_partial pre_front pre_release_with written_zeros
row-range = record {
  alternatives = unwrap_or (npm_alternatives false false (codes "^1.2 ||")) [];
  has = (alternatives_are _ _ _ _ _ (codes "^1.2 ||", (refl, refl))).1 (refl, refl, refl);
  is = refl;
}
