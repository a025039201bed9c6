-- For proofs. What a reply says, and the words of a subcommand, of an operation and of a
-- comparison, as the statement has them.
use Rattle.std.specs.Prelude.{◌∷◌, [], not, ℕ, Bool, List, Option, Some, codes, option_map}
use Rattle.std.specs.Prelude.{string_bytes}
use Rattle.std.specs.Fmt.{decimal}
use Rattle.std.specs.Ordering.{is_eq, is_ge, is_gt, is_le, is_lt}
use Rattle.std.specs.declared.cmp.Ordering.{Ordering}
use Rattle.npm_semver.specs.Arguments.{is_one_of}
use Rattle.semver_core.specs.Increments.View.{fault_of}
use Rattle.semver_core.specs.Values.Versions.{VersionValue}
use Rattle.npm_semver.specs.Subcommands.{HasKey, HasKeyAndText, HasVersion, NoQuestion, NotAbove}
use Rattle.npm_semver.specs.Subcommands.{NotIncremented, NoVersion, Said, Trouble, dotted, say}
use Rattle.npm_semver.specs.declared.subcommands.keys.Row.{Row}
use Rattle.npm_semver.specs.declared.subcommands.keys.Row.TheVariants as Rows
use Rattle.npm_semver.specs.declared.subcommands.replies.Trouble as Variant
use Rattle.npm_semver.specs.declared.subcommands.replies.Trouble.TheVariants as Variants
use Rattle.npm_semver.specs.declared.subcommands.Subcommand.{Subcommand}
use Rattle.npm_semver.specs.declared.subcommands.Subcommand.TheVariants.{Compare, Diff, Next, Range}
use Rattle.npm_semver.specs.declared.subcommands.Subcommand.TheVariants.{Least, Explain, Get, Valid}
use Rattle.npm_semver.specs.declared.subcommands.Subcommand.TheVariants.{Key, Unkey, Spans, Sql, Simplify, Help, About}
use Rattle.npm_semver.specs.declared.subcommands.parts.Part.{Part}
use Rattle.npm_semver.specs.declared.subcommands.parts.Part.TheVariants as Parts
use Rattle.npm_semver.specs.declared.subcommands.ranges.Operation.{Operation}
use Rattle.npm_semver.specs.declared.subcommands.ranges.Operation.TheVariants.{And, Minus, Within}
use Rattle.npm_semver.specs.declared.subcommands.replies.Reply.{Reply}
use Rattle.npm_semver.specs.declared.subcommands.versions.Relation.{Relation}
use Rattle.npm_semver.specs.declared.subcommands.versions.Relation.TheVariants.{Less, AtMost, Equal}
use Rattle.npm_semver.specs.declared.subcommands.versions.Relation.TheVariants.{Unequal, AtLeast}
use Rattle.npm_semver.specs.declared.subcommands.versions.Relation.TheVariants.{Greater}

abbrev pub told_of : Variant.Trouble → Trouble
told_of (Variants.NotIncremented error) = NotIncremented (fault_of error)
told_of Variants.NotAbove = NotAbove
told_of (Variants.NoVersion text) = NoVersion
told_of _ = NoQuestion

abbrev pub said : Reply → Said
said r = say (string_bytes r.output) (option_map told_of r.trouble) r.status

abbrev pub name_of : Subcommand → List ℕ
name_of Compare = codes "compare"
name_of Diff = codes "diff"
name_of Next = codes "next"
name_of Range = codes "range"
name_of Least = codes "least"
name_of Explain = codes "explain"
name_of Get = codes "get"
name_of Valid = codes "valid"
name_of Key = codes "key"
name_of Unkey = codes "unkey"
name_of Spans = codes "spans"
name_of Sql = codes "sql"
name_of Simplify = codes "simplify"
name_of Help = codes "help"
name_of About = codes "about"

abbrev pub has_row : Row → List ℕ → List ℕ → Type 0
has_row Rows.Key = HasKey
has_row Rows.KeyAndText = HasKeyAndText
has_row Rows.Version = HasVersion

abbrev pub part_text : Part → VersionValue → Option (List ℕ)
part_text Parts.Major = λ v. Some (decimal v.major)
part_text Parts.Minor = λ v. Some (decimal v.minor)
part_text Parts.Patch = λ v. Some (decimal v.patch)
part_text Parts.PreRelease = λ v. dotted v.pre_release
part_text Parts.Build = λ v. dotted v.build

abbrev pub operation_name : Operation → List ℕ
operation_name And = codes "and"
operation_name Minus = codes "minus"
operation_name Within = codes "within"

abbrev pub is_operation : List ℕ → Bool
is_operation = is_one_of (codes "and" ∷ codes "minus" ∷ codes "within" ∷ [])

abbrev pub relation : Relation → Ordering → Bool
relation Less = is_lt
relation AtMost = is_le
relation Equal = is_eq
relation Unequal = λ order. not (is_eq order)
relation AtLeast = is_ge
relation Greater = is_gt
