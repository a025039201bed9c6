-- Statement. How ignored words are told.
use Rattle.std.specs.Prelude.{◌≡◌, ◌-◌, ◌^◌, ◌++◌, if◌then◌else◌, nat_le, ℕ, List}
use Rattle.std.specs.Prelude.{drop, length, map, min, take}
use Rattle.nodejs_semver.specs.declared.diagnosis.ranges.IgnoredKind.{IgnoredKind}
use Rattle.nodejs_semver.specs.declared.diagnosis.ranges.IgnoredKind.TheVariants.{Malformed, WithoutBounds}
use Rattle.nodejs_semver.specs.declared.diagnosis.ranges.IgnoredWord.{IgnoredWord}
use Rattle.nodejs_semver_c.specs.declared.diagnosis.Word.{Word}
use Rattle.nodejs_semver_c.specs.declared.TheConstants.{OK, TOO_SMALL, WORD_MALFORMED, WORD_WITHOUT_BOUNDS}

abbrev pub word_number : IgnoredKind → ℕ
word_number Malformed = WORD_MALFORMED
word_number WithoutBounds = WORD_WITHOUT_BOUNDS

abbrev pub told_word : IgnoredWord → Word
told_word w = record { start = w.start; end = w.end; kind = word_number w.kind }

-- as many values as an array has room for stand at its front
abbrev pub fitted : {A B : Type 0} → (A → B) → List A → List B → List B
fitted told xs old = take (length old) (map told xs) ++ drop (length xs) old

-- the words are told so, and their number
abbrev pub TellsWords : List IgnoredWord → (old new : List Word) (len status : ℕ) → Type 0
TellsWords ws old new len status = (new ≡ fitted told_word ws old) × (len ≡ min (length ws) (2 ^ 64 - 1))
    × (status ≡ (if nat_le (length ws) (length old) then OK else TOO_SMALL))
