-- Statement: the versions that are printed.
use Rattle.std.specs.Prelude.{◌≡◌, ◌&&◌, ◌∷◌, [], ℕ, Bool, true, false, is_some, List}
use Rattle.std.specs.Cmp.Lexicographic.{slice_cmp}
use Rattle.std.specs.List.Sorted.{IsPermutation, IsSorted}
use Rattle.std.specs.Ordering.{nat_cmp, ordering_then}
use Rattle.std.specs.declared.cmp.Ordering.{Ordering}
use Rattle.semver_core.specs.Failures.{NoValue}
use Rattle.semver_core.specs.Text.Characters.{IsTrim}
use Rattle.semver_core.specs.Values.Order.{precedence}
use Rattle.semver_core.specs.Values.Versions.{VersionValue}
use Rattle.npm_words.specs.Alternatives.{accepts}
use Rattle.npm_words.specs.Table.{Comparison}
use Rattle.npm_semver.specs.Readings.{HasRange, IsVersionIn}
use Rattle.npm_semver.specs.declared.reading.ReadOptions.{ReadOptions}

-- whether a range text accepts a version; a text that is no range accepts none
pub data Says (r : ReadOptions) (v : VersionValue) : List ℕ → Bool → Type 0 where
  range : (text : List ℕ) (alternatives : List (List Comparison)) → HasRange r text alternatives
      → Says r v text (accepts r.include_prerelease alternatives v)
  no_range : (text : List ℕ) → NoValue (HasRange r text) → Says r v text false

-- whether all range texts accept a version
pub data AllSay (r : ReadOptions) (v : VersionValue) : List (List ℕ) → Bool → Type 0 where
  none : AllSay r v [] true
  more : (text : List ℕ) (texts : List (List ℕ)) (a b : Bool) → Says r v text a → AllSay r v texts b
      → AllSay r v (text ∷ texts) (a && b)

-- a text as it was given: without the whitespace around it, and whole where a field is read
pub data IsGiven (r : ReadOptions) (text : List ℕ) : List ℕ → Type 0 where
  trimmed : (middle : List ℕ) → is_some r.field ≡ false → IsTrim text middle → IsGiven r text middle
  whole : is_some r.field ≡ true → IsGiven r text text

-- a version, and the text that it was given as
pub record Entry : Type 0 where
  pub version : VersionValue
  pub text : List ℕ

-- the versions among these texts that all range texts accept, in the order of the texts
pub data AreListed (r : ReadOptions) (ranges : List (List ℕ)) : List (List ℕ) → List Entry → Type 0 where
  none : AreListed r ranges [] []
  no_version : (text : List ℕ) (texts : List (List ℕ)) (es : List Entry) → NoValue (IsVersionIn r text)
      → AreListed r ranges texts es → AreListed r ranges (text ∷ texts) es
  rejected : (text : List ℕ) (texts : List (List ℕ)) (v : VersionValue) (es : List Entry)
      → IsVersionIn r text v → AllSay r v ranges false → AreListed r ranges texts es
      → AreListed r ranges (text ∷ texts) es
  accepted : (text given : List ℕ) (texts : List (List ℕ)) (v : VersionValue) (es : List Entry)
      → IsVersionIn r text v → AllSay r v ranges true → IsGiven r text given → AreListed r ranges texts es
      → AreListed r ranges (text ∷ texts) (record { version = v; text = given } ∷ es)

-- by precedence, and of versions that tie by the bytes of their texts
abbrev pub order : Entry → Entry → Ordering
order d e = ordering_then (precedence d.version e.version) (slice_cmp nat_cmp d.text e.text)

-- what is printed: those, in ascending order
pub record IsListing (r : ReadOptions) (ranges texts : List (List ℕ)) (printed : List Entry) : Type 0 where
  pub listed : List Entry
  pub are : AreListed r ranges texts listed
  pub same : IsPermutation listed printed
  pub sorted : IsSorted order printed
