-- Statement: how rows are written: as text, as JSON, and as commands of a GitHub workflow.
use Rattle.std.specs.Prelude.{◌==◌, ◌&&◌, ◌+◌, ◌-◌, ◌/◌, ◌%◌, nat_lt, ℕ, Bool, true, false}
use Rattle.std.specs.Prelude.{cond, encode_utf8, string_bytes, List, [], ◌∷◌, ◌++◌, codes}
use Rattle.std.specs.Prelude.{Option, Some, None, option_map}
use Rattle.std.specs.Fmt.{decimal}
use Rattle.std.specs.List.{flat_map}
use Rattle.std.specs.Str.{chars}
use Rattle.serde_json.specs.Data.{Data, member, no_members, null, number, object, string, unsigned}
use Rattle.serde_json.specs.Written.{compact_text}
use Rattle.lock_check.specs.declared.finding.Kind.{Kind}
use Rattle.lock_check.specs.declared.finding.Kind.TheVariants.{Absent, Malformed, Missing, Rejected}
use Rattle.lock_check.specs.declared.finding.Kind.TheVariants.{Satisfied, Skipped}
use Rattle.lock_check.specs.declared.options.Format.{Format}
use Rattle.lock_check.specs.declared.options.Format.TheVariants.{Text, Json, Annotations}
use Rattle.lock_check.specs.declared.row.Row.{Row}

abbrev pub kind_word : Kind → List ℕ
kind_word Satisfied = codes "satisfied"
kind_word Rejected = codes "rejected"
kind_word Missing = codes "missing"
kind_word Absent = codes "absent"
kind_word Skipped = codes "skipped"
kind_word Malformed = codes "malformed"

-- the file, the line and the message
abbrev pub text_line : List ℕ → Row → List ℕ
text_line file r = file ++ (58 ∷ (decimal r.line ++ (58 ∷ 32 ∷ (string_bytes r.message ++ 10 ∷ []))))

abbrev pub hex_digit : ℕ → ℕ
hex_digit n = cond (nat_lt (n % 16) 10) (48 + n % 16) (87 + n % 16)

-- a unit of UTF-16 by four hexadecimal digits
unfoldable pub unit_text : ℕ → List ℕ
unit_text u =
    92 ∷ 117 ∷ hex_digit (u / 4096) ∷ hex_digit (u / 256) ∷ hex_digit (u / 16) ∷ hex_digit u ∷ []

-- the two units of a character by its number above 65536
abbrev pub pair_text : ℕ → List ℕ
pair_text above = unit_text (55296 + above / 1024) ++ unit_text (56320 + above % 1024)

-- a character below DEL as it is, and any other by its units of UTF-16, which are two above 65535
abbrev pub in_ascii : ℕ → List ℕ
in_ascii c = cond (nat_lt c 127) (c ∷ []) (cond (nat_lt c 65536) (unit_text c) (pair_text (c - 65536)))

abbrev pub ascii_text : List ℕ → List ℕ
ascii_text text = flat_map in_ascii (chars text)

abbrev pub json_line : List ℕ → List ℕ
json_line text = ascii_text text ++ 10 ∷ []

abbrev pub text_or_null : Option (List ℕ) → Data
text_or_null (Some text) = string text
text_or_null None = null

-- the object of a row, with its members in the order of their names
unfoldable pub row_data : Row → Data
row_data r = object
    (member (codes "dependency") (text_or_null (option_map (λ t. t.now) r.name))
    (member (codes "folder") (string r.folder.now)
    (member (codes "found") (text_or_null (option_map (λ t. t.now) r.found))
    (member (codes "kind") (string (kind_word r.kind))
    (member (codes "line") (number (unsigned r.line))
    (member (codes "message") (string (string_bytes r.message))
    (member (codes "need") (text_or_null (option_map (λ t. t.now) r.need))
    (member (codes "path") (text_or_null (option_map string_bytes r.path)) no_members))))))))

abbrev pub json_row : Row → List ℕ
json_row r = json_line (compact_text (row_data r))

-- what is skipped is a notice
abbrev pub level_word : Kind → List ℕ
level_word Skipped = codes "notice"
level_word _ = codes "error"

-- a character in a command: a percent sign and what ends a line are escaped, and in a property what
-- ends that too
abbrev pub command_escaped : Bool → ℕ → List ℕ
command_escaped is_property c =
    cond (c == 37) (codes "%25") (cond (c == 13) (codes "%0D") (cond (c == 10) (codes "%0A")
    (cond (is_property && (c == 58)) (codes "%3A")
    (cond (is_property && (c == 44)) (codes "%2C") (encode_utf8 c)))))

abbrev pub command_text : Bool → List ℕ → List ℕ
command_text is_property text = flat_map (command_escaped is_property) (chars text)

-- the command that shows the message at the line of the file
abbrev pub annotation : List ℕ → Row → List ℕ
annotation file r = codes "::" ++ level_word r.kind ++ codes " file=" ++ command_text true file
    ++ codes ",line=" ++ decimal r.line ++ codes "::"
    ++ command_text false (string_bytes r.message) ++ 10 ∷ []

abbrev pub row_text : Format → List ℕ → Row → List ℕ
row_text Text file r = text_line file r
row_text Json file r = json_row r
row_text Annotations file r = annotation file r
