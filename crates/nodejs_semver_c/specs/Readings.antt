-- Statement. How the texts of a call are read.
use Rattle.std.specs.Prelude.{◌<◌, ◌==◌, if◌then◌else◌, Bool, false, true, ℕ, List, [], Option, Some, None}
use Rattle.std.specs.Prelude.{length}
use Rattle.semver_core.specs.Cuts.{Span}
use Rattle.semver_core.specs.Failures.{NoValue}
use Rattle.semver_core.specs.Text.Parsing.{Parses}
use Rattle.semver_core.specs.Values.Versions.{VersionValue}
use Rattle.semver_core.specs.declared.TheConstants.{MAX_SAFE_INTEGER}
use Rattle.npm_words.specs.Alternatives.{HasAlternativesIn}
use Rattle.npm_words.specs.VersionText.{IsVersionTextIn}
use Rattle.npm_reading.specs.Ranges.{IsRangeIn}
use Rattle.semver_core.specs.Text.Bars.{IsCutAtBars}
use Rattle.nodejs_semver.specs.Text.Meaning.{Means}
use Rattle.nodejs_semver_c.specs.declared.read.Grammar.{Grammar}
use Rattle.nodejs_semver_c.specs.declared.read.Grammar.TheVariants.{Npm, Port}
use Rattle.nodejs_semver_c.specs.declared.TheConstants.{READING_NPM, READING_NPM_LOOSE, READING_PORT}

-- the reading that a number stands for, if there is one
abbrev pub reading_of : ℕ → Option Grammar
reading_of n = if n == READING_PORT then Some Port else if n == READING_NPM then Some (Npm false)
    else if n == READING_NPM_LOOSE then Some (Npm true) else None

-- the text is read as this version
abbrev pub Spells : Grammar → List ℕ → VersionValue → Type 0
Spells Port = Parses MAX_SAFE_INTEGER
Spells (Npm loose) = IsVersionTextIn loose MAX_SAFE_INTEGER

-- it is read as this range, where npm may include pre-releases; or as none
abbrev pub SpellsRange : Grammar → Bool → List ℕ → List (Span VersionValue) → Type 0
SpellsRange Port include text r = Means MAX_SAFE_INTEGER text r × (0 < length r)
SpellsRange (Npm loose) include text r = IsRangeIn loose MAX_SAFE_INTEGER include text r

abbrev pub SpellsNoRange : Grammar → Bool → List ℕ → Type 0
SpellsNoRange Port include text = Means MAX_SAFE_INTEGER text []
SpellsNoRange (Npm loose) include text = NoValue (HasAlternativesIn loose MAX_SAFE_INTEGER include text)

-- it means two intervals or more, or has two alternatives or more: reading it takes memory
abbrev pub IsWide : Grammar → List ℕ → Type 0
IsWide Port text = (r : List (Span VersionValue)) → Means MAX_SAFE_INTEGER text r → 1 < length r
IsWide (Npm loose) text = (pieces : List (List ℕ)) → IsCutAtBars text pieces → 1 < length pieces

-- it takes memory, and it is a range; of the loose reading that is not told without memory
abbrev pub WantsMemory : Grammar → Bool → List ℕ → Type 0
WantsMemory (Npm true) include text = IsWide (Npm true) text
WantsMemory by include text = IsWide by text × (SpellsNoRange by include text → ⊥)
