-- Statement: how range texts are written for node-semver, strictly and by its option `loose`, and
-- the comparators of each alternative. In parentheses stand the names of the grammar that
-- node-semver publishes. Left out is one `*`, and a comparator before it, in a word that is else a
-- whole version, as in `>*1.2.3`, which node-semver passes over: such a word is malformed. Of the
-- loose reading a text is left out, and rejected, with a partial that has more than 250 characters
-- in front of its build. Inside a malformed word an identifier of more than 250 characters and a
-- number of more than 256 digits are whole, which node-semver cuts (`Malformed`).
use Rattle.std.specs.Prelude.{◌≡◌, ◌⊎◌, ◌==◌, ◌<◌, ◌-◌, ◌&&◌, ◌||◌, not, nat_le, nat_lt, ℕ, Bool, true, false}
use Rattle.std.specs.Prelude.{List, [], ◌∷◌, ◌++◌, length, drop, Option, Some, None, codes, encode_utf8_all}
use Rattle.std.specs.Prelude.{flat_map, if◌then◌else◌, is_none}
use Rattle.std.specs.Option.{unwrap_or}
use Rattle.std.specs.List.{list_all, prefix_len, suffix_len}
use Rattle.std.specs.Str.{bytes_eq}
use Rattle.semver_core.specs.Failures.{NoValue}
use Rattle.semver_core.specs.Lists.{is_empty}
use Rattle.semver_core.specs.Text.Characters.{BeginsBlank, begins, is_whitespace, IsBlank, IsTrim}
use Rattle.semver_core.specs.Values.Versions.{VersionValue, is_release}
use Rattle.npm_words.specs.Malformed.{IsIgnored, is_mark}
use Rattle.npm_words.specs.Partials.{IsPlaces}
use Rattle.npm_words.specs.Table.{Comparison, Partial, Sign, caret, compared, hyphen_lower, hyphen_upper}
use Rattle.npm_words.specs.Table.{table, tilde, whole}
use Rattle.semver_core.specs.Text.Comparators.{Comparator, above, at_least, at_most, below, equal}
use Rattle.semver_core.specs.Text.Boundaries.{IsBoundary, SkipsBlank}

-- ---- partials

-- loosely a partial has at most 250 characters in front of its `+`
abbrev pub is_short : Bool → List ℕ → Bool
is_short loose text = not loose || nat_le (prefix_len (λ b. not (b == 43)) text) 250

-- ---- words

abbrev pub spelling : Sign → List ℕ
spelling (compared c) = elim c [
  | at_least ↦ codes ">="
  | above ↦ codes ">"
  | equal ↦ codes "="
  | at_most ↦ codes "<="
  | below ↦ codes "<"
]
spelling s = elim s [ caret ↦ codes "^" | _ ↦ codes "~" ]

-- the sign of a word (of primitive, tilde and caret), with the whitespace behind it. A `=` behind
-- `>` or `<` belongs to the sign, whitespace between them or not; `^` may have a `=` behind it, `~`
-- one of `>`, `>=` and `=`, and `~>` one of `>` and `>=`.
pub data IsSignText : List ℕ → Sign → Type 0 where
  no_sign : IsSignText [] (compared equal)
  sign : (s : Sign) (x : List ℕ) → IsBlank x → IsSignText (spelling s ++ x) s
  late_above : (x : List ℕ) → IsBlank x → IsSignText (codes ">" ++ (x ++ codes "=")) (compared at_least)
  late_below : (x : List ℕ) → IsBlank x → IsSignText (codes "<" ++ (x ++ codes "=")) (compared at_most)
  caret_equal : (x y : List ℕ) → IsBlank x → IsBlank y
      → IsSignText (codes "^" ++ (x ++ (codes "=" ++ y))) caret
  tilde_sign : (c : Comparator) (x y : List ℕ) → IsBlank x → IsBlank y
      → (c ≡ above) ⊎ (c ≡ at_least) ⊎ (c ≡ equal)
      → IsSignText (codes "~" ++ (x ++ (spelling (compared c) ++ y))) tilde
  tilde_twice : (c : Comparator) (x y : List ℕ) → IsBlank x → 0 < length x → IsBlank y
      → (c ≡ above) ⊎ (c ≡ at_least)
      → IsSignText (codes "~>" ++ (x ++ (spelling (compared c) ++ y))) tilde

-- the marks that may stand between a sign and a partial: loosely any, strictly one `v` at most
-- before a whole version that is compared
abbrev pub are_marks : Bool → Sign → Partial → List ℕ → Bool
are_marks false (compared c) (whole v) marks = is_empty marks || bytes_eq marks (codes "v")
are_marks loose s p marks = list_all is_mark marks

-- a word (simple), with the text of its partial: a sign, marks and the partial. Without a sign, and
-- behind `>` and `<`, the first mark is no `=`, since that would belong to the sign.
pub data IsWord (loose include : Bool) : List ℕ → List ℕ → List Comparison → Type 0 where
  word : (signs marks text : List ℕ) (s : Sign) (p : Partial) → IsSignText signs s
      → are_marks loose s p marks ≡ true
      → ((is_empty signs || list_all (λ b. b == 60 || b == 62) (spelling s))
      && begins (λ b. b == 61) marks) ≡ false
      → IsPlaces loose text p
      → IsWord loose include (signs ++ (marks ++ text)) text (table include s p (marks ++ text))

-- a word of this partial is at the front of the text, up to whitespace or the end, and this behind
-- it
abbrev pub BeginsWord : Bool → Bool → List ℕ → List ℕ → List ℕ → List Comparison → Type 0
BeginsWord loose include text partial behind cs = (word : List ℕ) × (text ≡ word ++ behind)
    × IsWord loose include word partial cs × IsBoundary behind

-- ---- alternatives

-- the first word, with its comparators, and this behind it and its whitespace. Where no word is, a
-- malformed one is ignored loosely.
pub data BeginsAs (loose include : Bool) (text rest : List ℕ) : Option (List Comparison) → Type 0 where
  formed : (partial behind : List ℕ) (cs : List Comparison)
      → BeginsWord loose include text partial behind cs → is_short loose partial ≡ true
      → SkipsBlank behind rest → BeginsAs loose include text rest (Some cs)
  ignored : (behind : List ℕ) → loose ≡ true → is_empty text ≡ false
      → ((p r : List ℕ) → NoValue (BeginsWord loose include text p r))
      → IsIgnored text behind → SkipsBlank behind rest → BeginsAs loose include text rest None

-- words with whitespace between them
pub data AreWords (loose include : Bool) : List ℕ → List (Option (List Comparison)) → Type 0 where
  none : AreWords loose include [] []
  more : (text rest : List ℕ) (cs : Option (List Comparison)) (read : List (Option (List Comparison)))
      → BeginsAs loose include text rest cs → AreWords loose include rest read
      → AreWords loose include text (cs ∷ read)

-- all their comparators
abbrev pub comparators_of : List (Option (List Comparison)) → List Comparison
comparators_of read = flat_map (λ cs. unwrap_or cs []) read

-- there are none, and the first word and the last one are ignored
abbrev pub is_lost : List (Option (List Comparison)) → Bool
is_lost read = is_empty (comparators_of read)
    && (nat_lt 0 (prefix_len is_none read) && nat_lt 0 (suffix_len is_none read))

-- any marks and whitespace
abbrev pub AreMarks : List ℕ → Type 0
AreMarks text = (cs : List ℕ) × (text ≡ encode_utf8_all cs)
    × (list_all (λ c. is_mark c || is_whitespace c) cs ≡ true)

-- an end of a hyphen range at the front of the text, and this behind it
pub record IsEnd (loose : Bool) (text behind : List ℕ) : Type 0 where
  pub marks : List ℕ
  pub places : List ℕ
  pub partial : Partial
  pub divided : text ≡ marks ++ (places ++ behind)
  pub are : AreMarks marks
  pub is : IsPlaces loose places partial

-- the text is a hyphen range (hyphen): two ends with whitespace, `-` and whitespace between them
pub record IsHyphen (loose : Bool) (text : List ℕ) : Type 0 where
  pub before : List ℕ
  pub second : List ℕ
  pub lower : IsEnd loose text before
  pub dash : (after : List ℕ) × BeginsBlank before × SkipsBlank before (codes "-" ++ after)
      × BeginsBlank after × SkipsBlank after second
  pub upper : IsEnd loose second []

-- the marks behind the last whitespace among them. Where they are not all, the end is compared by
-- `=`, as a word is that begins there.
abbrev pub last_marks : List ℕ → List ℕ
last_marks marks = drop (length marks - suffix_len is_mark marks) marks

abbrev pub end_sign : Comparator → List ℕ → Comparator
end_sign c marks = if list_all is_mark marks then c else equal

-- any marks may stand loosely, before a partial version, and before a whole one of which this is
-- true, that it is written anew; before another whole version stand marks as where it is compared
abbrev pub is_right_end : Bool → (VersionValue → Bool) → Partial → List ℕ → List ℕ → Bool
is_right_end loose changes p marks places = is_short loose places
    && (loose || elim p [
      | whole v ↦ changes v || are_marks false (compared equal) (whole v) marks
      | _ ↦ true
    ])

-- an alternative (range): a hyphen range, or words, of which none may be left
pub data IsAlternative (loose include : Bool) : List ℕ → Bool → List Comparison → Type 0 where
  hyphen : (text : List ℕ) (h : IsHyphen loose text)
      → is_right_end loose (λ v. false) h.lower.partial h.lower.marks h.lower.places ≡ true
      → is_right_end loose (λ v. include || not (is_release v))
      h.upper.partial h.upper.marks h.upper.places ≡ true
      → IsAlternative loose include text false
      (hyphen_lower (end_sign at_least h.lower.marks) include h.lower.partial
      (last_marks h.lower.marks ++ h.lower.places)
      ++ hyphen_upper (end_sign at_most h.upper.marks) include h.upper.partial
      (last_marks h.upper.marks ++ h.upper.places))
  words : (text : List ℕ) (read : List (Option (List Comparison))) → (IsHyphen loose text → ⊥)
      → AreWords loose include text read
      → IsAlternative loose include text (is_lost read) (comparators_of read)

-- the alternatives between bars (range-set), each without the whitespace around it. Words without
-- comparators are none if the first and the last one are ignored.
pub data AreAlternatives (loose include : Bool) : List (List ℕ) → List (List Comparison) → Type 0 where
  none : AreAlternatives loose include [] []
  next : (part text : List ℕ) (parts : List (List ℕ)) (lost : Bool) (cs : List Comparison)
      (rest : List (List Comparison)) → IsAlternative loose include text lost cs
      → IsTrim part text → AreAlternatives loose include parts rest
      → AreAlternatives loose include (part ∷ parts) (if lost then rest else cs ∷ rest)
