-- Statement: which end of a hyphen range node-semver's strict reading rejects, and where it stands.
use Rattle.std.specs.Prelude.{◌≡◌, ◌+◌, ◌||◌, not, ℕ, Bool, true, false, List, [], ◌++◌}
use Rattle.std.specs.Prelude.{codes, length}
use Rattle.std.specs.List.{list_all}
use Rattle.semver_core.specs.Text.Boundaries.{IsFirstBoundary, SkipsBlank}
use Rattle.semver_core.specs.Text.Characters.{BeginsBlank, begins}
use Rattle.semver_core.specs.Text.Comparators.{at_least, at_most}
use Rattle.semver_core.specs.Values.Versions.{VersionValue, is_release}
use Rattle.npm_words.specs.Alternatives.{is_valid}
use Rattle.npm_words.specs.Malformed.{is_mark}
use Rattle.npm_words.specs.MalformedWords.{IsMalformedWord}
use Rattle.npm_words.specs.RangeText.{AreMarks, IsEnd, end_sign, is_right_end, last_marks}
use Rattle.npm_words.specs.Table.{Comparison, Partial, hyphen_lower, hyphen_upper}

-- marks and whitespace or none, and then a text that begins with neither
abbrev pub SkipsMarks : List ℕ → List ℕ → Type 0
SkipsMarks text rest = (marks : List ℕ) × (text ≡ marks ++ rest) × AreMarks marks
    × (begins is_mark rest ≡ false) × (BeginsBlank rest → ⊥)

-- where an end would be, whatever is written there: marks and whitespace, and one word
abbrev pub IsEndPlace : List ℕ → List ℕ → Type 0
IsEndPlace text behind = (word : List ℕ) × SkipsMarks text word × IsFirstBoundary word behind

-- whitespace, `-` and whitespace, and then a text that does not begin with whitespace
abbrev pub SkipsDash : List ℕ → List ℕ → Type 0
SkipsDash text rest = (after : List ℕ) × BeginsBlank text × SkipsBlank text (codes "-" ++ after)
    × BeginsBlank after × SkipsBlank after rest

-- the text has the form of a hyphen range: two such ends with whitespace, `-` and whitespace
-- between them
pub record HasEnds (text : List ℕ) : Type 0 where
  pub first : List ℕ
  pub before : List ℕ
  pub second : List ℕ
  pub divided : text ≡ first ++ before
  pub lower : IsEndPlace text before
  pub dash : SkipsDash before second
  pub upper : IsEndPlace second []

-- the text is an end of a hyphen range whose comparators are valid: one before whose version any
-- marks may stand if `changes` is true of it, and whose comparators are these of its marks, of its
-- partial, and of the text of that with the last marks
pub record IsRightEnd (limit : ℕ) (changes : VersionValue → Bool)
    (comparators : List ℕ → Partial → List ℕ → List Comparison) (text : List ℕ) : Type 0 where
  pub is : IsEnd false text []
  pub right : is_right_end false changes is.partial is.marks is.places ≡ true
  pub valid : list_all (is_valid limit) (comparators is.marks is.partial
      (last_marks is.marks ++ is.places)) ≡ true

abbrev pub IsLower : ℕ → Bool → List ℕ → Type 0
IsLower limit include = IsRightEnd limit (λ v. false)
    (λ marks. hyphen_lower (end_sign at_least marks) include)

abbrev pub IsUpper : ℕ → Bool → List ℕ → Type 0
IsUpper limit include = IsRightEnd limit (λ v. include || not (is_release v))
    (λ marks. hyphen_upper (end_sign at_most marks) include)

-- the first end that is not right of a text of that form stands at these bytes
pub data IsWrongEnd (limit : ℕ) (include : Bool) (text : List ℕ) (start end : ℕ) : Type 0 where
  lower : (h : HasEnds text) → (IsLower limit include h.first → ⊥) → start ≡ 0
      → end ≡ length h.first → IsWrongEnd limit include text start end
  upper : (h : HasEnds text) → IsLower limit include h.first → (IsUpper limit include h.second → ⊥)
      → start + length h.second ≡ length text → end ≡ length text
      → IsWrongEnd limit include text start end

-- what is malformed in a text that is no alternative: that end, or else the first word that is
pub data IsMalformedPart (limit : ℕ) (include : Bool) (text : List ℕ) (start end : ℕ) : Type 0 where
  an_end : IsWrongEnd limit include text start end → IsMalformedPart limit include text start end
  a_word : ((from to : ℕ) → IsWrongEnd limit include text from to → ⊥)
      → IsMalformedWord limit include text start end → IsMalformedPart limit include text start end
