-- Statement: how texts are read: the part of a text that is a version, strictly or coerced, and the range.
use Rattle.std.specs.Prelude.{◌≡◌, ◌==◌, ◌||◌, ◌∷◌, not, true, false, Bool, List, ℕ, zero, suc}
use Rattle.std.specs.Prelude.{Option, Some, None, length, slice_get}
use Rattle.std.specs.List.{filter, slice_split}
use Rattle.semver_core.specs.Failures.{NoValue}
use Rattle.semver_core.specs.Values.Versions.{VersionValue}
use Rattle.semver_core.specs.declared.TheConstants.{MAX_SAFE_INTEGER}
use Rattle.npm_words.specs.Coerced.{IsChosenFrom, IsCoerced, IsNumberIn}
use Rattle.npm_words.specs.Alternatives.{HasAlternativesIn}
use Rattle.npm_words.specs.Table.{Comparison}
use Rattle.npm_words.specs.VersionText.{IsVersionText}
use Rattle.npm_semver.specs.declared.reading.ReadOptions.{ReadOptions}

-- without an option: strictly, without pre-releases, and the whole text
abbrev pub strictly : ReadOptions
strictly = record {
  include_prerelease = false;
  is_loose = false;
  is_coerced = false;
  from_right = false;
  field = None;
}

-- a space or a tab
abbrev pub is_blank : ℕ → Bool
is_blank b = b == 32 || b == 9

-- the fields of a text: what stands between blanks
abbrev pub fields : List ℕ → List (List ℕ)
fields text = filter (λ part. not (length part == 0)) (slice_split is_blank text)

-- the field of this number, if there are so many: the first has number 1
abbrev pub nth_field : ℕ → List ℕ → Option (List ℕ)
nth_field zero text = None
nth_field (suc n) text = slice_get (fields text) n

-- the part of a text that is read: all of it, or a field
abbrev pub part_by : Option ℕ → List ℕ → Option (List ℕ)
part_by None text = Some text
part_by (Some n) text = nth_field n text

-- what is found, the leftmost numbers or those that end last, is kept with its pre-release only
-- where pre-releases are included
abbrev pub IsFoundIn : ReadOptions → List ℕ → VersionValue → Type 0
IsFoundIn r = IsCoerced r.include_prerelease (IsChosenFrom r.from_right) (IsNumberIn r.is_loose)

-- the part is the version: strictly, also where the reading is loose; where it is coerced, what is
-- found in it, and only if nothing is found what it is strictly
pub data IsVersionAs (r : ReadOptions) (part : List ℕ) (v : VersionValue) : Type 0 where
  strict : r.is_coerced ≡ false → IsVersionText MAX_SAFE_INTEGER part v → IsVersionAs r part v
  found : r.is_coerced ≡ true → IsFoundIn r part v → IsVersionAs r part v
  not_found : r.is_coerced ≡ true → NoValue (IsFoundIn r part) → IsVersionText MAX_SAFE_INTEGER part v
      → IsVersionAs r part v

-- the text has the part that is read, and that is the version
pub record IsVersionIn (r : ReadOptions) (text : List ℕ) (v : VersionValue) : Type 0 where
  pub part : List ℕ
  pub has : part_by r.field text ≡ Some part
  pub is : IsVersionAs r part v

-- the text is a range of these alternatives
abbrev pub HasRange : ReadOptions → List ℕ → List (List Comparison) → Type 0
HasRange r = HasAlternativesIn r.is_loose MAX_SAFE_INTEGER r.include_prerelease

-- some text of these is so
pub data SomeText (Is : List ℕ → Type 0) : List (List ℕ) → Type 0 where
  here : (text : List ℕ) (texts : List (List ℕ)) → Is text → SomeText Is (text ∷ texts)
  later : (text : List ℕ) (texts : List (List ℕ)) → SomeText Is texts → SomeText Is (text ∷ texts)

-- the first text of these that is so
pub data IsFirst (Is : List ℕ → Type 0) : List (List ℕ) → List ℕ → Type 0 where
  this : (text : List ℕ) (texts : List (List ℕ)) → Is text → IsFirst Is (text ∷ texts) text
  further : (text found : List ℕ) (texts : List (List ℕ)) → (Is text → ⊥) → IsFirst Is texts found
      → IsFirst Is (text ∷ texts) found
