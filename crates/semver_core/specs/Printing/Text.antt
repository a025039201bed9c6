-- Statement. How identifiers and versions print, as UTF-8 bytes.
use Rattle.std.specs.Prelude.{ℕ, List, [], ◌∷◌, ◌++◌, codes, map}
use Rattle.std.specs.Fmt.{decimal}
use Rattle.std.specs.List.{join_with_byte}
use Rattle.semver_core.specs.Text.Identifiers.{Id, Numeric, AlphaNumeric}
use Rattle.semver_core.specs.Values.Versions.{VersionValue}

-- a number in decimal, a text as it is
abbrev pub id_text : Id → List ℕ
id_text (Numeric n) = decimal n
id_text (AlphaNumeric text) = text

-- a mark and the identifiers joined by dots, or nothing where there are none
abbrev pub marked_list : List ℕ → List Id → List ℕ
marked_list mark [] = []
marked_list mark (x ∷ xs) = mark ++ join_with_byte 46 (map id_text (x ∷ xs))

-- `M.m.p`, then `-` and the pre-release, then `+` and the build
abbrev pub version_text : VersionValue → List ℕ
version_text v = decimal v.major ++ (codes "." ++ (decimal v.minor ++ (codes "." ++ (decimal v.patch
    ++ (marked_list (codes "-") v.pre_release ++ marked_list (codes "+") v.build)))))
