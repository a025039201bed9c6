-- For proofs and private contracts. The parts of a range text, computed: the pieces between its bars are those of
-- `IsCutAtBars`.
use Rattle.semver_core.specs.Internal.Fronts.{after_byte, begins_byte}
use Rattle.semver_core.specs.Internal.Reading.{◌>>?◌}
use Rattle.semver_core.specs.Internal.Spaces.{trim}
use Rattle.semver_core.specs.Text.Bars.{is_bar}
use Rattle.semver_core.specs.Text.Characters.{begins}
use Rattle.std.specs.List.{onto_first}
use Rattle.std.specs.Prelude.{[], Bool, List, None, Option, Some, drop, false, if◌then◌else◌, length, map, nat_lt, suc, take, true, ℕ, ◌&&◌, ◌+◌}
use Rattle.std.specs.Prelude.{◌∷◌}

-- the texts between the bars, leftmost bars first, not trimmed. After the first bar of two, the second one is skipped.
unfoldable pub cut_bars : Bool → List ℕ → List (List ℕ)
cut_bars passed [] = [] ∷ []
cut_bars true (b ∷ rest) = cut_bars false rest
cut_bars false (b ∷ rest) =
    elim (is_bar b && begins is_bar rest) [ true ↦ [] ∷ cut_bars true rest | false ↦ onto_first b (cut_bars false rest) ]

-- the parts of a range text
abbrev pub parts : List ℕ → List (List ℕ)
parts text = map trim (cut_bars false text)

-- ---- the part at the front

abbrev pub begins_bars : List ℕ → Bool
begins_bars [] = false
begins_bars (b ∷ rest) = is_bar b && begins is_bar rest

-- how many bytes stand before the first `||`
unfoldable pub bars_at : List ℕ → ℕ
bars_at [] = 0
bars_at (b ∷ rest) = if begins_bars (b ∷ rest) then 0 else suc (bars_at rest)

abbrev pub front_part : List ℕ → List ℕ × Option (List ℕ)
front_part text =
    if nat_lt (bars_at text) (length text) then (take (bars_at text) text, Some (drop (bars_at text + 2) text)) else (text, None)

-- the parts of a text that may be absent
abbrev pub later_parts : Option (List ℕ) → List (List ℕ)
later_parts None = []
later_parts (Some text) = parts text

-- how much of a text is left to be cut
abbrev pub left_over : Option (List ℕ) → ℕ
left_over None = 0
left_over (Some text) = 1 + length text

-- ---- bars with one space or none on each side

-- what follows one space or none
abbrev pub after_gap : List ℕ → List ℕ
after_gap text = if begins_byte 32 text then drop 1 text else text

-- what follows `||`, with one space or none on each side
unfoldable pub after_bars : List ℕ → Option (List ℕ)
after_bars text =
    after_byte 124 (after_gap text) >>? λ one. after_byte 124 one >>? λ two. Some (after_gap two)
