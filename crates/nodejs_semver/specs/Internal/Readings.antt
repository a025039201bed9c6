-- For proofs and private contracts. What the readers give, seen without places in memory.
use Rattle.nodejs_semver.specs.Text.PartialText as Spec
use Rattle.nodejs_semver.specs.Text.WordText as WordSpec
use Rattle.nodejs_semver.specs.Internal.Words as SignSpec
use Rattle.nodejs_semver.specs.declared.readers.syntax.Sign.TheVariants as Signs
use Rattle.std.specs.Prelude.{ℕ, Bool, List, Option, Some, None}
use Rattle.std.specs.Borrow.{Bor}
use Rattle.semver_core.specs.Text.Identifiers.{listed}
use Rattle.semver_core.specs.Cuts.{Span}
use Rattle.semver_core.specs.Values.Versions.{VersionValue}
use Rattle.semver_core.specs.Internal.Fronts.{Front}
use Rattle.nodejs_semver.specs.Internal.Words.{unsigned, compared, tilded, careted}
use Rattle.semver_pieces.specs.declared.bounds.Bounds.{Bounds}
use Rattle.nodejs_semver.specs.declared.readers.syntax.Partial.{Partial}
use Rattle.semver_pieces.specs.declared.bounds.Comparator.{Comparator}
use Rattle.nodejs_semver.specs.declared.readers.syntax.Sign.{Sign}
use Rattle.semver_pieces.specs.Internal.Views.{bounds_view, comparator_view}

abbrev pub partial_view : Partial → Spec.Partial
partial_view p =
    record { major = p.major; minor = p.minor; patch = p.patch; pre_release = listed p.pre_release.now; build = listed p.build.now }

abbrev pub partial_front_view : Option (Partial × Bor (List ℕ)) → Front Spec.Partial
partial_front_view None = None
partial_front_view (Some p) = Some (partial_view p.0, p.1.now)

abbrev pub partial_pair_view : Partial × Bor (List ℕ) → Spec.Partial × List ℕ
partial_pair_view p = (partial_view p.0, p.1.now)

abbrev pub greater_view : Bool × Bor (List ℕ) → Bool × List ℕ
greater_view p = (p.0, p.1.now)

abbrev pub comparator_front_view : Option (Comparator × Bor (List ℕ)) → Front WordSpec.Comparator
comparator_front_view None = None
comparator_front_view (Some p) = Some (comparator_view p.0, p.1.now)

abbrev pub sign_view : Sign → SignSpec.Sign
sign_view Signs.Nothing = unsigned
sign_view (Signs.Comparator c) = compared (comparator_view c)
sign_view (Signs.Tilde greater) = tilded greater
sign_view Signs.Caret = careted

abbrev pub sign_pair_view : Sign × Bor (List ℕ) → SignSpec.Sign × List ℕ
sign_pair_view p = (sign_view p.0, p.1.now)

abbrev pub table_view : Option Bounds → Option (Span VersionValue)
table_view None = None
table_view (Some b) = Some (bounds_view b)

-- an interval that may be absent, and the text behind it
abbrev pub next_view : Option (Span VersionValue) → Bor (List ℕ) → Option (Span VersionValue) × List ℕ
next_view found rest = (found, rest.now)
