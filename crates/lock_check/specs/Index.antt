-- Statement: what a line of an index says.
use Rattle.std.specs.Prelude.{◌≡◌, ◌==◌, Bool, List, length, ℕ}
use Rattle.std.specs.List.{after_first, before_first, position_or_len}

abbrev pub is_tab : ℕ → Bool
is_tab c = c == 9

-- the line has no tab: none comes before its end
abbrev pub HasNoTab : List ℕ → Type 0
HasNoTab line = position_or_len is_tab line ≡ length line

-- the package stands before the first tab
abbrev pub package_in : List ℕ → List ℕ
package_in line = before_first is_tab line

-- the version stands behind it, up to the second tab or the end of the line
abbrev pub version_in : List ℕ → List ℕ
version_in line = before_first is_tab (after_first is_tab line)
