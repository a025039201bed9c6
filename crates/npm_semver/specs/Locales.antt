-- Statement: what the environment says of the letters that a terminal shows.
use Rattle.std.specs.Prelude.{◌⊎◌, ℕ, List, codes, map, if◌then◌else◌}
use Rattle.std.specs.Char.{to_ascii_lowercase}
use Rattle.std.specs.Str.Iter.{HasSubslice}
use Rattle.semver_core.specs.Lists.{is_empty}

-- the first of LC_ALL, LC_CTYPE and LANG that is not empty names the locale; one that is not set is
-- empty
abbrev pub locale : List ℕ → List ℕ → List ℕ → List ℕ
locale all character_type language = if is_empty all
    then (if is_empty character_type then language else character_type) else all

-- the locale has UTF-8, as `en_US.UTF-8` and `C.utf8` have it
abbrev pub HasUtf8 : List ℕ → Type 0
HasUtf8 name = HasSubslice (map to_ascii_lowercase name) (codes "utf-8")
    ⊎ HasSubslice (map to_ascii_lowercase name) (codes "utf8")
