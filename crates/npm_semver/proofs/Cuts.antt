-- The first word of some arguments, by where their first one is cut, and how the words that are left grow fewer.
use Rattle.std.proofs.Common.{◌≡◌, ◌≢◌, ◌+◌, ◌<◌, ◌≤◌, ◌∷◌, ◌++◌, [], ℕ, List, Option, None, arith, length, drop, ◌==◌, length-append, false, true, map, ◌∙◌}
use Rattle.npm_semver.specs.Arguments.{Asked, Asks, IsAsked, asked_by, left_by, next, none, nothing_asked, some, word_of}
use Rattle.npm_semver.specs.Words.{FirstWord, IsUncut, front, whole}
use Rattle.npm_semver.specs.declared.question.Word.{Word}
use Rattle.npm_semver.specs.declared.question.Word.TheVariants.{Help, IncludePrerelease, Reverse, Range, Version, Increment, Identifier, Base, Loose, Coerce, FromRight, FromLeft, Greatest, Least, KeepOrder, AsWritten, Field, Json, Strict, Why, Input, Nul, Unknown, Text}

pub cut_front : (words rest : List (List ℕ)) (argument word behind : List ℕ) → words ≡ argument ∷ rest → argument ≡ word ++ (61 ∷ behind)
    → IsUncut word → FirstWord words word (behind ∷ rest)
cut_front words rest argument word behind begun cut uncut = rw (begun, cut) (front word behind rest uncut)

pub uncut_word : (words rest : List (List ℕ)) (argument : List ℕ) → words ≡ argument ∷ rest → IsUncut argument → FirstWord words argument rest
uncut_word words rest argument begun uncut = rw begun (whole argument rest uncut)

-- a word counts one more than its bytes, so that a cut makes words smaller
abbrev pub size : List (List ℕ) → ℕ
size [] = 0
size (word ∷ rest) = length word + 1 + size rest

pub size_behind : (words behind : List (List ℕ)) (word : List ℕ) → FirstWord words word behind → size behind < size words
size_behind words behind word (whole w rest uncut) = omega arith
size_behind words behind word (front w back rest uncut) = grind (arith, length-append)

size_drop : (behind : List (List ℕ)) → size (drop 1 behind) ≤ size behind
size_drop [] = grind arith
size_drop (w ∷ rest) = grind arith

pub size_left : (word : Word) (behind : List (List ℕ)) → size (left_by word behind) ≤ size behind
size_left Help behind = omega arith
size_left IncludePrerelease behind = omega arith
size_left Reverse behind = omega arith
size_left Range behind = size_drop behind
size_left Version behind = size_drop behind
size_left Increment behind = grind (arith, size_drop behind)
size_left Identifier behind = size_drop behind
size_left Base behind = size_drop behind
size_left Loose behind = omega arith
size_left Coerce behind = omega arith
size_left FromRight behind = omega arith
size_left FromLeft behind = omega arith
size_left Greatest behind = omega arith
size_left Least behind = omega arith
size_left KeepOrder behind = omega arith
size_left AsWritten behind = omega arith
size_left Field behind = size_drop behind
size_left Json behind = omega arith
size_left Strict behind = omega arith
size_left Why behind = omega arith
size_left Input behind = omega arith
size_left Nul behind = omega arith
size_left Unknown behind = omega arith
size_left Text behind = omega arith

-- one more word is read
pub asks_next : (words behind left : List (List ℕ)) (text : List ℕ) (word : Word) (before after : Asked) (asked : Option Asked)
    → FirstWord words text behind → word ≡ word_of text → word ≢ Help → left ≡ left_by word behind → after ≡ asked_by word text behind before
    → Asks left after asked → Asks words before asked
asks_next words behind left text word before after asked first is other left_is after_is asks =
    next words behind text before asked first (λ e. other (is ∙ e)) (rw (← is, ← left_is, ← after_is) asks)

pub is_filled : {X : Type 0} (xs : List X) (f : X → List ℕ) (asked : Option Asked) → (length xs == 0) ≡ false → Asks (map f xs) nothing_asked asked
    → IsAsked (map f xs) asked
is_filled [] f asked filled asks = absurd (grind arith)
is_filled (x ∷ xs) f asked filled asks = some (f x) (map f xs) asked asks

pub is_empty_asked : {X : Type 0} (xs : List X) (f : X → List ℕ) → (length xs == 0) ≡ true → IsAsked (map f xs) None
is_empty_asked [] f empty = none
is_empty_asked (x ∷ xs) f empty = absurd (grind arith)
