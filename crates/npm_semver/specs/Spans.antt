-- Statement: the spans of keys of a range as lines, and as a condition of SQL.
use Rattle.std.specs.Prelude.{◌≡◌, ◌∷◌, ◌++◌, ◌==◌, ◌&&◌, ◌||◌, [], not, ℕ, Bool, true, false, List, Option}
use Rattle.std.specs.Prelude.{All, None, Some, codes, if◌then◌else◌}
use Rattle.std.specs.Char.{is_ascii_alphabetic, is_ascii_digit}
use Rattle.std.specs.List.{flat_map}
use Rattle.hex.specs.Hex.{encode_lower}
use Rattle.semver_core.specs.Cuts.{Span}
use Rattle.semver_core.specs.Keys.{key}
use Rattle.semver_core.specs.Values.Versions.{IsVersion, VersionValue}
use Rattle.semver_core.specs.declared.TheConstants.{MAX_SAFE_INTEGER}
use Rattle.nodejs_semver.specs.Ranges.Gate.{accepts}
use Rattle.npm_reading.specs.Ranges.{IsRangeIn}
use Rattle.key_spans.specs.Spans.{HasEnds, in_spans, is_sorted}
use Rattle.key_spans.specs.declared.KeySpan.{KeySpan}
use Rattle.npm_semver.specs.Arguments.{is_one_of}
use Rattle.npm_semver.specs.declared.subcommands.spans.Dialect.{Dialect}
use Rattle.npm_semver.specs.declared.subcommands.spans.Dialect.TheVariants.{Sqlite, Postgres, Duckdb, Mysql}

-- the spans hold the keys of what the range accepts that npm reads in the text, in order
pub record AreSpansOf (text : List ℕ) (spans : List KeySpan) : Type 0 where
  pub range : List (Span VersionValue)
  pub is : IsRangeIn false MAX_SAFE_INTEGER false text range
  pub exact : (v : VersionValue) → IsVersion v → in_spans spans (key v) ≡ accepts range v false
  pub sorted : is_sorted spans ≡ true
  pub ends : All (HasEnds false) spans

-- the start, the stop and which versions count, with tabs between
abbrev pub span_text : KeySpan → List ℕ
span_text s = encode_lower s.start.items ++ 9 ∷ encode_lower s.stop.items
    ++ 9 ∷ (if s.releases_only then codes "releases" else codes "all")

abbrev pub dialect_of : List ℕ → Option Dialect
dialect_of word = if is_one_of (codes "sqlite" ∷ []) word then Some Sqlite
    else if is_one_of (codes "postgres" ∷ []) word then Some Postgres
    else if is_one_of (codes "duckdb" ∷ []) word then Some Duckdb
    else if is_one_of (codes "mysql" ∷ []) word then Some Mysql else None

-- without the option it is that of SQLite
pub data HasDialect : List (List ℕ) → Dialect → Type 0 where
  none : HasDialect [] Sqlite
  behind : (word : List ℕ) (dialect : Dialect) → dialect_of word ≡ Some dialect
      → HasDialect (codes "--dialect" ∷ word ∷ []) dialect

-- names of letters, digits and `_`, none of which begins with a digit, and single dots between them: so
-- what stands behind a dot, or first, is a letter or `_`, and the last is no dot
abbrev pub may_follow : (before c : ℕ) → Bool
may_follow before c =
    is_ascii_alphabetic c || (c == 95 || not (before == 46) && (is_ascii_digit c || c == 46))

abbrev pub goes_on : (before : ℕ) → List ℕ → Bool
goes_on before [] = not (before == 46)
goes_on before (c ∷ rest) = may_follow before c && goes_on c rest

abbrev pub is_column : List ℕ → Bool
is_column text = goes_on 46 text

-- bytes as a literal: x'0102', '\x0102', or '\x01\x02'::BLOB
abbrev pub literal : Dialect → List ℕ → List ℕ
literal Postgres bytes = codes "'\\x" ++ encode_lower bytes ++ codes "'"
literal Duckdb bytes =
    codes "'" ++ flat_map (λ b. codes "\\x" ++ encode_lower (b ∷ [])) bytes ++ codes "'::BLOB"
literal _ bytes = codes "x'" ++ encode_lower bytes ++ codes "'"

-- the last byte of a key is 3, so that it is the key of a release
abbrev pub is_released : Dialect → List ℕ → List ℕ
is_released Postgres column = codes "substr(" ++ column ++ codes ", length(" ++ column ++ codes ")) = '\\x03'"
is_released Duckdb column = codes "hex(" ++ column ++ codes ") LIKE '%03'"
is_released _ column = codes "substr(" ++ column ++ codes ", -1) = x'03'"

-- the key lies in a span
abbrev pub lies_in : Dialect → List ℕ → KeySpan → List ℕ
lies_in dialect column s = column ++ codes " >= " ++ literal dialect s.start.items
    ++ codes " AND " ++ column ++ codes " < " ++ literal dialect s.stop.items
    ++ (if s.releases_only then codes " AND " ++ is_released dialect column else [])

-- it lies in one of the spans
abbrev pub condition : Dialect → List ℕ → List KeySpan → List ℕ
condition dialect column [] = codes "1 = 0"
condition dialect column (s ∷ spans) = codes "(" ++ lies_in dialect column s
    ++ flat_map (λ t. codes " OR " ++ lies_in dialect column t) spans ++ codes ")"
