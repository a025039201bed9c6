-- Statement: what laws over what the command writes cite.
use Rattle.std.specs.Prelude.{◌⊎◌, ◌∷◌, [], ℕ, true, false, List}
use Rattle.semver_core.specs.Failures.{NoValue}
use Rattle.semver_core.specs.Values.Versions.{VersionValue}
use Rattle.npm_semver.specs.Arguments.{Asked}
use Rattle.npm_semver.specs.Listing.{AllSay}
use Rattle.npm_semver.specs.Readings.{IsVersionIn}

-- the text is a version that all range texts accept
abbrev pub IsAccepted : Asked → List ℕ → Type 0
IsAccepted q text = (v : VersionValue) × IsVersionIn q.reading text v × AllSay q.reading v q.ranges true

-- the text is no version, or one that not all range texts accept
abbrev pub IsLeftOut : Asked → List ℕ → Type 0
IsLeftOut q text = NoValue (IsVersionIn q.reading text)
    ⊎ ((v : VersionValue) × IsVersionIn q.reading text v × AllSay q.reading v q.ranges false)

-- each text of these is so
pub data EachText (Is : List ℕ → Type 0) : List (List ℕ) → Type 0 where
  none : EachText Is []
  more : (text : List ℕ) (texts : List (List ℕ)) → Is text → EachText Is texts → EachText Is (text ∷ texts)
