-- Statement: what a range text accepts, by how it is read.
use Rattle.std.specs.Prelude.{ℕ, Bool, List}
use Rattle.semver_core.specs.Values.Versions.{VersionValue}
use Rattle.npm_words.specs.Alternatives.{HasAlternativesIn, accepts}
use Rattle.npm_words.specs.Table.{Comparison}
use Rattle.npm_words.specs.declared.options.Reading.{Reading}

-- a range text, and how it is read: loosely or strictly, and with pre-releases included or not
pub record ReadText : Type 0 where
  pub reading : Reading
  pub text : List ℕ

-- the text, so read, has these alternatives
abbrev pub HasAlternativesAs : ℕ → ReadText → List (List Comparison) → Type 0
HasAlternativesAs limit r = HasAlternativesIn r.reading.loose limit r.reading.include_prerelease r.text

-- it has alternatives, and this holds of the set of the versions that they accept
pub record OfAccepted (limit : ℕ) (r : ReadText) (Holds : (VersionValue → Bool) → Type 0) : Type 0 where
  pub alternatives : List (List Comparison)
  pub has : HasAlternativesAs limit r alternatives
  pub holds : Holds (accepts r.reading.include_prerelease alternatives)
