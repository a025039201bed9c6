-- Statement: what the signs of node-semver's range texts mean: each is one comparator of whole
-- versions, or two. `include` says whether pre-releases are included.
use Rattle.std.specs.Prelude.{◌==◌, ◌+◌, ◌&&◌, ◌||◌, not, nat_lt, ℕ, Bool, true, false, List, [], ◌∷◌, ◌++◌}
use Rattle.std.specs.Prelude.{codes, drop, if◌then◌else◌, take_while}
use Rattle.std.specs.Char.{is_ascii_digit}
use Rattle.std.specs.List.{prefix_len}
use Rattle.std.specs.Str.{bytes_eq}
use Rattle.semver_core.specs.Lists.{is_empty}
use Rattle.semver_core.specs.Text.Identifiers.{Numeric}
use Rattle.semver_core.specs.Values.Versions.{VersionValue, is_release, release_value}
use Rattle.semver_core.specs.Printing.Text.{version_text}
use Rattle.semver_core.specs.Text.Comparators.{Comparator, above, at_least, at_most, below, equal}

-- a partial version: its first place is a wildcard; or M, M.m, M.m.p are numbers. What stands
-- behind a wildcard does not count.
pub data Partial : Type 0 where
  wildcard : Partial
  major : ℕ → Partial
  minor : ℕ → ℕ → Partial
  whole : VersionValue → Partial

-- the sign of a word: a comparator, of which `=` may be left out, or `^`, or `~`
pub data Sign : Type 0 where
  compared : Comparator → Sign
  caret tilde : Sign

-- a comparator of a whole version, with the text of the version: as it is written, and else as the
-- version prints
pub record Comparison : Type 0 where
  pub sign : Comparator
  pub version : VersionValue
  pub text : List ℕ

abbrev pub made : Comparator → VersionValue → Comparison
made c v = record { sign = c; version = v; text = version_text v }

-- the same, the build left out of the text. The version keeps it, as a bound of a range does.
abbrev pub unbuilt : Comparator → VersionValue → Comparison
unbuilt c v = record { sign = c; version = v; text = version_text (record v { build = [] }) }

-- a comparator that counts: `>=0.0.0`, written so, is none unless pre-releases are included
abbrev pub counts : Bool → Comparison → Bool
counts include c = include || not (elim c.sign [ at_least ↦ bytes_eq c.text (codes "0.0.0") | _ ↦ false ])

-- the least pre-release of three numbers, `M.m.p-0`
abbrev pub lowest : ℕ × ℕ × ℕ → VersionValue
lowest n = record (release_value n.0 n.1 n.2) { pre_release = Numeric 0 ∷ [] }

-- the numbers of a partial, with zeros behind them
abbrev pub first : Partial → ℕ × ℕ × ℕ
first p = elim p [
  | major M ↦ (M, 0, 0)
  | minor M m ↦ (M, m, 0)
  | whole v ↦ (v.major, v.minor, v.patch)
  | _ ↦ (0, 0, 0)
]

-- those of the next release above M, above M.m, and above the M.m of a whole version
abbrev pub next : Partial → ℕ × ℕ × ℕ
next p = elim p [
  | major M ↦ (M + 1, 0, 0)
  | minor M m ↦ (M, m + 1, 0)
  | whole v ↦ (v.major, v.minor + 1, 0)
  | _ ↦ (0, 0, 0)
]

-- how many numbers at the front of a partial are 0
abbrev pub zeros : Partial → ℕ
zeros p = prefix_len (λ n. n == 0) (elim p [
  | major M ↦ M ∷ []
  | minor M m ↦ M ∷ (m ∷ [])
  | whole v ↦ v.major ∷ (v.minor ∷ (v.patch ∷ []))
  | _ ↦ []
])

-- how many are written `0` in its text, which may have marks in front: `00`, as it may be written
-- loosely, is not
unfoldable pub written_zeros : List ℕ → ℕ
written_zeros text = let numbers = drop (prefix_len (λ b. not (is_ascii_digit b)) text) text in
    prefix_len (λ at. bytes_eq (take_while is_ascii_digit (drop at numbers)) (codes "0")) (0 ∷ (2 ∷ (4 ∷ [])))

-- those of the next release in which the first number changes that is not written `0`, or the last
-- one written, where so many at the front are written `0`
abbrev pub next_changed : ℕ → Partial → ℕ × ℕ × ℕ
next_changed z p =
    if z == 0 then ((first p).0 + 1, 0, 0)
    else elim p [ whole v ↦ if z == 1 then next (whole v) else (0, 0, v.patch + 1) | q ↦ next q ]

-- `>=` of three numbers: of their least pre-release if pre-releases are included; and `<` of that
-- of others
abbrev pub from : Bool → ℕ × ℕ × ℕ → Comparison
from include n = made at_least (if include then lowest n else release_value n.0 n.1 n.2)

abbrev pub under : ℕ × ℕ × ℕ → Comparison
under n = made below (lowest n)

-- a comparator has its numbers as they are written: where one is 0 and not written so, `>=00.0.0`
-- is not `>=0.0.0`
abbrev pub as_written : ℕ → Partial → Comparison → Comparison
as_written z p c = if nat_lt z (zeros p) && bytes_eq c.text (codes "0.0.0")
    then record c { text = codes "00.0.0" }
    else c

-- the lower end of a caret range of a whole version
abbrev pub caret_from : Bool → ℕ → VersionValue → Comparison
caret_from include z v =
    if include && (is_release v && nat_lt 0 z)
    then from true (first (whole v))
    else as_written z (whole v) (unbuilt at_least v)

-- the table: by the sign and by the partial, whose text is `text`
abbrev pub table : Bool → Sign → Partial → List ℕ → List Comparison
table include (compared c) (whole v) text = record { sign = c; version = v; text = text } ∷ []
table include (compared below) p text = under (first p) ∷ []
table include (compared above) wildcard text = under (0, 0, 0) ∷ []
table include s wildcard text = []
table include caret (whole v) text =
    caret_from include (written_zeros text) v
    ∷ (under (next_changed (written_zeros text) (whole v)) ∷ [])
table include tilde (whole v) text =
    as_written (written_zeros text) (whole v) (unbuilt at_least v)
    ∷ (under (next (whole v)) ∷ [])
table include caret p text =
    as_written (written_zeros text) p (from include (first p))
    ∷ (under (next_changed (written_zeros text) p) ∷ [])
table include tilde p text = as_written (written_zeros text) p (from false (first p)) ∷ (under (next p) ∷ [])
table include (compared equal) p text =
    as_written (written_zeros text) p (from include (first p)) ∷ (under (next p) ∷ [])
table include (compared at_least) p text = as_written (written_zeros text) p (from include (first p)) ∷ []
table include (compared above) p text = from include (next p) ∷ []
table include (compared at_most) p text = under (next p) ∷ []

-- the ends of a hyphen range, which are compared so where they are whole. With pre-releases
-- included the lower one gets `-0` as a text, which belongs to the build where there is one.
abbrev pub hyphen_lower : Comparator → Bool → Partial → List ℕ → List Comparison
hyphen_lower c include (whole v) text = if include && is_release v
    then record {
      sign = c;
      version = if is_empty v.build then lowest (first (whole v)) else v;
      text = text ++ codes "-0";
    } ∷ []
    else table include (compared c) (whole v) text
hyphen_lower c include p text = table include (compared at_least) p text

abbrev pub hyphen_upper : Comparator → Bool → Partial → List ℕ → List Comparison
hyphen_upper c include (whole v) text = if not (is_release v) then unbuilt at_most v ∷ []
    else if include then under (v.major, v.minor, v.patch + 1) ∷ []
    else table include (compared c) (whole v) text
hyphen_upper c include p text = table include (compared at_most) p text
