-- Statement: which part of a range text node-semver's strict reading rejects first, and where it
-- stands.
use Rattle.std.specs.Prelude.{◌≡◌, ◌+◌, ℕ, Bool, List, ◌∷◌, ◌++◌, length}
use Rattle.std.specs.List.{AllByRecursion}
use Rattle.semver_core.specs.Failures.{NoValue}
use Rattle.semver_core.specs.Text.Characters.{IsAfterBlank, IsTrim}
use Rattle.npm_words.specs.MalformedEnds.{IsMalformedPart}
use Rattle.npm_words.specs.Table.{Comparison}
use Rattle.semver_core.specs.Text.Bars.{IsCutAtBars}
use Rattle.npm_reading.specs.declared.range_flaws.RangeFlaw.{RangeFlaw}
use Rattle.npm_words.specs.RangeFlaws.{IsAlternativeText, bytes_of}

-- the first piece between the bars of a text that is no alternative, without the whitespace around
-- it, and what is malformed in it stand at these bytes
pub record IsRangeFlaw (limit : ℕ) (include : Bool) (text : List ℕ) (flaw : RangeFlaw)
    : Type 0 where
  pub front : List (List ℕ)
  pub piece : List ℕ
  pub behind : List (List ℕ)
  pub divided : IsCutAtBars text (front ++ piece ∷ behind)
  pub right : AllByRecursion (λ p. (cs : List Comparison)
      × IsAlternativeText limit include p cs) front
  pub wrong : NoValue (IsAlternativeText limit include piece)
  pub blank : ℕ
  pub after_blank : IsAfterBlank piece 0 blank
  pub middle : List ℕ
  pub trimmed : IsTrim piece middle
  pub start : flaw.start ≡ bytes_of front + blank
  pub end : flaw.end ≡ flaw.start + length middle
  pub at : ℕ
  pub to : ℕ
  pub word : IsMalformedPart limit include middle at to
  pub word_start : flaw.word_start ≡ flaw.start + at
  pub word_end : flaw.word_end ≡ flaw.start + to
