-- For proofs and private contracts. What `coerce` finds in a text, as functions.
use Rattle.std.specs.Prelude.{◌≡◌, ◌<◌, ◌≤◌, ◌+◌, ◌-◌, ◌==◌, ◌&&◌, nat_le, ℕ, Bool, true, false, List, []}
use Rattle.std.specs.Prelude.{◌∷◌, Option, Some, None, count_by, drop, take, if◌then◌else◌, length}
use Rattle.std.specs.Prelude.{option_map}
use Rattle.std.specs.Char.{is_ascii_digit}
use Rattle.std.specs.List.{prefix_len}
use Rattle.semver_core.specs.Internal.Reading.{◌>>?◌}
use Rattle.semver_core.specs.Text.Characters.{begins, ends}
use Rattle.semver_core.specs.Text.Identifiers.{Id, listed}
use Rattle.semver_core.specs.Values.Versions.{VersionValue, release_value}
use Rattle.semver_core.specs.declared.TheConstants.{MAX_LENGTH}
use Rattle.semver_core.specs.Internal.Fronts.{Front, number_with}
use Rattle.npm_words.specs.Coerced.{begins_identifier_in, goes_on_in}
use Rattle.npm_words.specs.declared.coerced.Stretch.{Stretch}

-- how long the run at the front is, and 0 where none stands there
abbrev pub run_len : List ℕ → ℕ
run_len text = let digits = prefix_len is_ascii_digit text in if nat_le digits 16 then digits else 0

-- the same of a run with a dot before it
abbrev pub dotted_len : List ℕ → ℕ
dotted_len [] = 0
dotted_len (b ∷ rest) = if b == 46 then (if run_len rest == 0 then 0 else 1 + run_len rest) else 0

-- how long the longest tuple at the front is, and 0 where none stands there
abbrev pub behind_first : List ℕ → ℕ → ℕ → ℕ
behind_first text major minor =
    if minor == 0 then major else major + minor + dotted_len (drop (major + minor) text)

unfoldable pub tuple_len : List ℕ → ℕ
tuple_len text = if run_len text == 0 then 0
    else behind_first text (run_len text) (dotted_len (drop (run_len text) text))

-- the same at a place, before which no digit may stand
abbrev pub tuple_len_at : List ℕ → ℕ → ℕ
tuple_len_at text at = if ends is_ascii_digit (take at text) then 0 else tuple_len (drop at text)

-- how far the longest list of identifiers goes
unfoldable pub list_len_in : Bool → List ℕ → ℕ
list_len_in strict [] = 0
list_len_in strict (c ∷ rest) = if goes_on_in strict (c ∷ rest) then 1 + list_len_in strict rest else 0

-- how long the list at the front is with its mark, and 0 where none stands there
abbrev pub marked_len : Bool → Bool → ℕ → List ℕ → ℕ
marked_len included strict mark text =
    if included && begins (λ c. c == mark) text && begins_identifier_in strict (drop 1 text)
    then 1 + list_len_in strict (drop 1 text) else 0

abbrev pub pre_len : Bool → List ℕ → ℕ
pre_len included text = marked_len included true 45 text

abbrev pub build_len : Bool → List ℕ → ℕ
build_len included text = marked_len included false 43 (drop (pre_len included text) text)

-- where the tuple at a place ends with what it goes on with, and 0 where none begins there
abbrev pub end_behind : Bool → List ℕ → ℕ → ℕ
end_behind included text end =
    let behind = drop end text in end + pre_len included behind + build_len included behind

abbrev pub end_at : Bool → List ℕ → ℕ → ℕ
end_at included text at =
    let len = tuple_len_at text at in if len == 0 then 0 else end_behind included text (at + len)

-- from each place of the stretch a list goes up to its end
pub record IsStretch (strict : Bool) (text : List ℕ) (s : Stretch) : Type 0 where
  pub fits : s.to ≤ length text
  pub each : (i : ℕ) → s.from ≤ i → i < s.to → i + list_len_in strict (drop i text) ≡ s.to

-- no tuple begins before the place
abbrev pub BeginsAfter : List ℕ → ℕ → Type 0
BeginsAfter text at = (x : ℕ) → x < at → tuple_len_at text x ≡ 0

-- the first tuple begins at the place
pub record IsFirstPlace (text : List ℕ) (at : ℕ) : Type 0 where
  pub inside : at ≤ length text
  pub here : 0 < tuple_len_at text at
  pub first : BeginsAfter text at

-- of the tuples that begin before a place none ends later than the one here, and none that ends
-- there begins sooner
pub record IsLastBefore (included : Bool) (text : List ℕ) (place start end : ℕ) : Type 0 where
  pub before : start ≤ place
  pub here : 0 < end → end_at included text start ≡ end
  pub last : (x : ℕ) → x < place → end_at included text x ≤ end
  pub longest : (x : ℕ) → x < place → 0 < end → end_at included text x ≡ end → start ≤ x

-- the tuple that ends last begins at the place
pub record IsLastPlace (included : Bool) (text : List ℕ) (at : ℕ) : Type 0 where
  pub end : ℕ
  pub some : 0 < end
  pub is : IsLastBefore included text (length text) at end

-- the tuple that is looked for begins at the place
abbrev pub IsChosenPlace : Bool → Bool → List ℕ → ℕ → Type 0
IsChosenPlace included rtl text at =
    elim rtl [ false ↦ IsFirstPlace text at | true ↦ IsLastPlace included text at ]

-- the number behind a dot, and 0 where no dot stands
abbrev pub next_number : Bool → ℕ → List ℕ → Front ℕ
next_number zeros limit [] = Some (0, [])
next_number zeros limit (b ∷ rest) = if b == 46 then number_with zeros limit rest else Some (0, b ∷ rest)

-- the release that a tuple spells
unfoldable pub tuple_release : Bool → ℕ → List ℕ → Option VersionValue
tuple_release zeros limit text = number_with zeros limit text >>? λ a. next_number zeros limit a.1 >>? λ b.
    next_number zeros limit b.1 >>? λ c. Some (release_value a.0 b.0 c.0)

-- how long `.0` for each number is that a tuple does not have
abbrev pub absent_len : List ℕ → ℕ
absent_len tuple =
    let dots = count_by (λ c. c == 46) tuple in if dots == 0 then 4 else if dots == 1 then 2 else 0

-- the list behind a mark at the front, and what stands behind it
abbrev pub marked_front : Bool → Bool → ℕ → List ℕ → List ℕ × List ℕ
marked_front included strict mark text =
    let len = marked_len included strict mark text in (drop 1 (take len text), drop len text)

-- a release with the identifiers behind it
abbrev pub qualified : List Id → List Id → VersionValue → VersionValue
qualified pre build release = record release { pre_release = pre; build = build }

-- the version of the tuple at the front with the lists behind it, if its text is short enough

unfoldable pub version_front : Bool → Bool → ℕ → List ℕ → Option VersionValue
version_front included zeros limit text =
    let tuple = take (tuple_len text) text in
    let pre = marked_front included true 45 (drop (tuple_len text) text) in
    let build = marked_front included false 43 pre.1 in
    if nat_le (length text - length build.1 + absent_len tuple) MAX_LENGTH
    then option_map (qualified (listed pre.0) (listed build.0)) (tuple_release zeros limit tuple) else None
