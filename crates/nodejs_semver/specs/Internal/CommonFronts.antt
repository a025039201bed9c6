-- For proofs and private contracts. What of a common range text stands at the front of a text, read from the left.
use Rattle.std.specs.Prelude.{ℕ, zero, suc, ◌==◌, ◌&&◌, ◌||◌, Bool, false, List, [], ◌∷◌, ◌++◌, length, drop}
use Rattle.std.specs.Prelude.{Option, Some, None, if◌then◌else◌}
use Rattle.semver_core.specs.Text.Characters.{begins}
use Rattle.semver_core.specs.Cuts.{Span, interval, meet}
use Rattle.semver_core.specs.Values.Order.{precedence}
use Rattle.semver_core.specs.Lists.{is_empty}
use Rattle.semver_core.specs.Values.Versions.{VersionValue}
use Rattle.semver_core.specs.Internal.Fronts.{component_front, dotted_front, Front}
use Rattle.nodejs_semver.specs.Internal.Fronts.{minor_front}
use Rattle.std.specs.List.{list_any}
use Rattle.nodejs_semver.specs.Text.PartialText.{Partial}
use Rattle.semver_core.specs.Internal.Reading.{◌>>?◌}
use Rattle.nodejs_semver.specs.Text.Table.{table}
use Rattle.nodejs_semver.specs.Text.WordText.{Word, caret, compare, hyphen, plain, tilde}
use Rattle.nodejs_semver.specs.Internal.Words.{comparator_at, tilde_sign}
pub use Rattle.semver_core.specs.Internal.Parts.{after_gap}
unfoldable pub use Rattle.semver_core.specs.Internal.Parts.{after_bars}

-- the partial at the front; neither `v` nor whitespace is skipped
unfoldable pub bare_front : ℕ → List ℕ → Front Partial
bare_front limit text =
    component_front limit text >>? λ a. Some (minor_front limit a.0 a.1 (dotted_front limit a.1))

-- a comparator and a partial
unfoldable pub comparison_front : ℕ → List ℕ → Front Word
comparison_front limit text =
    comparator_at text >>? λ c. bare_front limit c.1 >>? λ p. Some (compare c.0 p.0, p.1)

-- what follows a tilde, and what follows a caret
unfoldable pub tilde_front : ℕ → List ℕ → Front Word
tilde_front limit text =
    bare_front limit (tilde_sign text).1 >>? λ p. Some (tilde (tilde_sign text).0 p.0, p.1)

unfoldable pub caret_front : ℕ → List ℕ → Front Word
caret_front limit text = bare_front limit text >>? λ p. Some (caret p.0, p.1)

-- a space, `-` and a space
abbrev pub begins_dash : List ℕ → Bool
begins_dash [] = false
begins_dash (a ∷ []) = false
begins_dash (a ∷ b ∷ []) = false
begins_dash (a ∷ b ∷ c ∷ rest) = a == 32 && (b == 45 && c == 32)

-- the partial behind a dash
abbrev pub upper_front : ℕ → Partial → List ℕ → Front Word
upper_front limit lower text = bare_front limit text >>? λ q. Some (hyphen lower q.0, q.1)

-- one partial, or a hyphen word
unfoldable pub partials_front : ℕ → List ℕ → Front Word
partials_front limit text =
    bare_front limit text >>? λ p.
    if begins_dash p.1 then upper_front limit p.0 (drop 3 p.1) else Some (plain p.0, p.1)

-- an interval that there may be, and what follows it
abbrev pub part_read : List ℕ → Option (Span VersionValue) → Front (Span VersionValue)
part_read rest found = found >>? λ s. Some (s, rest)

-- the interval that the table gives a word that was read, and what follows the word
abbrev pub word_read : ℕ → Front Word → Front (Span VersionValue)
word_read limit read = read >>? λ w. part_read w.1 (table limit w.0)

-- what an interval has in common with that of two bounds
abbrev pub common_with : Span VersionValue → Span VersionValue → Option (Span VersionValue)
common_with s t = interval precedence t >>? λ b. meet precedence s b

-- what the intervals of two pairs of bounds have in common
abbrev pub both_of : Span VersionValue → Span VersionValue → Option (Span VersionValue)
both_of s t = interval precedence s >>? λ a. common_with a t

abbrev pub is_sign : ℕ → Bool
is_sign b = b == 60 || (b == 61 || b == 62)

-- a space and a comparator
abbrev pub begins_second : List ℕ → Bool
begins_second [] = false
begins_second (a ∷ rest) = a == 32 && begins is_sign rest

-- one comparison, or two with an interval in common
unfoldable pub comparisons_front : ℕ → List ℕ → Front (Span VersionValue)
comparisons_front limit text =
    word_read limit (comparison_front limit text) >>? λ s.
    if begins_second s.1
    then (word_read limit (comparison_front limit (drop 1 s.1)) >>? λ t. part_read t.1 (meet precedence s.0 t.0))
    else Some s

-- the interval of the part at the front
unfoldable pub part_front : ℕ → List ℕ → Front (Span VersionValue)
part_front limit [] = None
part_front limit (b ∷ rest) =
    if is_sign b then comparisons_front limit (b ∷ rest)
    else if b == 126 then word_read limit (tilde_front limit rest)
    else if b == 94 then word_read limit (caret_front limit rest)
    else word_read limit (partials_front limit (b ∷ rest))

-- a list to which an interval was added, if there is one, with what follows the interval's part
abbrev pub passed : List (Span VersionValue) → Front (Span VersionValue) → Option (List ℕ) × List (Span VersionValue)
passed list None = (None, list)
passed list (Some p) = (Some p.1, list ++ p.0 ∷ [])

abbrev pub onto : Span VersionValue → List (Span VersionValue) → List (Span VersionValue)
onto s list = s ∷ list

-- the interval of a part and what follows the part, where nothing stands behind bars, and else others too
abbrev pub part_before : Span VersionValue → List ℕ → Option (List ℕ) → (List ℕ → Front (List (Span VersionValue)))
    → Front (List (Span VersionValue))
part_before s left None others = Some (s ∷ [], left)
part_before s left (Some next) others = others next >>? λ more. Some (onto s more.0, more.1)

-- the intervals of the parts at the front, of which there are at most so many, and what follows them
unfoldable pub fronts_within : ℕ → ℕ → List ℕ → Front (List (Span VersionValue))
fronts_within limit zero text = None
fronts_within limit (suc n) text =
    part_front limit text >>? λ part. part_before part.0 part.1 (after_bars part.1) (λ next. fronts_within limit n next)

abbrev pub common_fronts : ℕ → List ℕ → Front (List (Span VersionValue))
common_fronts limit text = fronts_within limit (length text) text

-- whether a `+` stands in a text
abbrev pub has_plus : List ℕ → Bool
has_plus text = list_any (λ b. b == 43) text

-- the intervals of common parts, and those of a common text, which has no build
abbrev pub common_parts : ℕ → List ℕ → Option (List (Span VersionValue))
common_parts limit text = common_fronts limit text >>? λ f. if is_empty f.1 then Some f.0 else None

abbrev pub common_range : ℕ → List ℕ → Option (List (Span VersionValue))
common_range limit text = if has_plus text then None else common_parts limit text
