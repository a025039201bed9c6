-- For proofs and private contracts. The words of a part, computed: a word is read from its sign on. `word_at` gives the word of
-- `IsWordAt`.
use Rattle.std.specs.Prelude.{ℕ, zero, suc, ◌==◌, Bool, true, false, List, [], ◌∷◌, length}
use Rattle.std.specs.Prelude.{Option, Some, None, if◌then◌else◌}
use Rattle.semver_core.specs.Internal.Spaces.{drop_spaces}
use Rattle.nodejs_semver.specs.Text.PartialText.{Partial}
use Rattle.semver_core.specs.Internal.Fronts.{Front, after_byte}
use Rattle.nodejs_semver.specs.Internal.Fronts.{partial_front}
use Rattle.semver_core.specs.Internal.Reading.{◌>>?◌}
use Rattle.semver_core.specs.Text.Comparators.{Comparator, at_least, above, equal, at_most, below}
use Rattle.nodejs_semver.specs.Text.WordText.{Word, hyphen, plain, compare, tilde, caret, malformed}
pub use Rattle.semver_core.specs.Internal.Boundaries.{after_some_space}
unfoldable pub use Rattle.semver_core.specs.Internal.Boundaries.{from_boundary, is_boundary}

-- the first result of two
abbrev pub or_else : {A : Type 0} → Option A → Option A → Option A
or_else (Some x) o = Some x
or_else None o = o

-- the text, where it begins at a boundary
abbrev pub at_boundary : Word → List ℕ → Front Word
at_boundary word rest = if is_boundary rest then Some (word, rest) else None

-- the sign with a longer form takes it where it stands
abbrev pub or_equal : Comparator → Comparator → List ℕ → Comparator × List ℕ
or_equal one two [] = (one, [])
or_equal one two (b ∷ rest) = if b == 61 then (two, rest) else (one, b ∷ rest)

abbrev pub comparator_at : List ℕ → Option (Comparator × List ℕ)
comparator_at [] = None
comparator_at (b ∷ rest) =
    if b == 62 then Some (or_equal above at_least rest)
    else if b == 60 then Some (or_equal below at_most rest)
    else if b == 61 then Some (equal, rest)
    else None

-- after `~`, whitespace or none, and `>` or none
abbrev pub tilde_sign : List ℕ → Bool × List ℕ
tilde_sign [] = (false, [])
tilde_sign (b ∷ rest) = if b == 62 then (true, rest) else (false, b ∷ rest)

-- the sign of a word with one partial; a plain word has none
pub data Sign : Type 0 where
  unsigned : Sign
  compared : Comparator → Sign
  tilded : Bool → Sign
  careted : Sign

-- the word of a sign and a partial
abbrev pub signed_word : Sign → Partial → Word
signed_word unsigned p = plain p
signed_word (compared c) p = compare c p
signed_word (tilded greater) p = tilde greater p
signed_word careted p = caret p

-- the sign behind which a comparator stands or none, and what follows it
abbrev pub comparing : Option (Comparator × List ℕ) → List ℕ → Sign × List ℕ
comparing None text = (unsigned, text)
comparing (Some c) text = (compared c.0, drop_spaces c.1)

-- the sign at the front of a text, and what follows it and its whitespace
abbrev pub sign_at : List ℕ → Sign × List ℕ
sign_at [] = (unsigned, [])
sign_at (b ∷ rest) =
    if b == 126 then (tilded (tilde_sign (drop_spaces rest)).0, drop_spaces (tilde_sign (drop_spaces rest)).1)
    else if b == 94 then (careted, drop_spaces rest)
    else comparing (comparator_at (b ∷ rest)) (b ∷ rest)

-- what makes a hyphen word of the partial before the text: whitespace, `-`, whitespace and a partial up to a boundary
abbrev pub upper_behind : ℕ → List ℕ → Front Partial
upper_behind limit text =
    after_some_space text >>? λ sign.
    after_byte 45 sign >>? λ gap.
    after_some_space gap >>? λ second.
    partial_front limit second >>? λ q.
    if is_boundary q.1 then Some q else None

-- the same behind a partial that has a sign or none
abbrev pub upper_of : ℕ → Sign → List ℕ → Front Partial
upper_of limit unsigned rest = upper_behind limit rest
upper_of limit (compared c) rest = None
upper_of limit (tilded greater) rest = None
upper_of limit careted rest = None

-- the word of a sign, a partial behind it and what follows the partial
abbrev pub word_behind : ℕ → Sign → Partial → List ℕ → Front Word
word_behind limit sign p rest =
    or_else (upper_of limit sign rest >>? λ q. Some (hyphen p q.0, q.1)) (at_boundary (signed_word sign p) rest)

-- the word behind a sign
abbrev pub behind_sign : ℕ → Sign × List ℕ → Front Word
behind_sign limit s = partial_front limit s.1 >>? λ p. word_behind limit s.0 p.0 p.1

abbrev pub or_malformed : Front Word → List ℕ → Word × List ℕ
or_malformed (Some r) text = r
or_malformed None text = (malformed, from_boundary text)

-- the word at the front of a text, and what follows it
unfoldable pub word_at : ℕ → List ℕ → Word × List ℕ
word_at limit text = or_malformed (behind_sign limit (sign_at text)) text

-- the words of a part, of which there are at most as many as it has bytes
unfoldable pub words_within : ℕ → ℕ → List ℕ → List Word
words_within limit zero text = []
words_within limit (suc n) [] = []
words_within limit (suc n) (b ∷ text) =
    let read = word_at limit (b ∷ text) in read.0 ∷ words_within limit n (drop_spaces read.1)

abbrev pub words : ℕ → List ℕ → List Word
words limit part = words_within limit (length part) part
