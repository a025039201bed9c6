-- For proofs. The bounds that the table gives a word that is no hyphen word make an interval.
use Rattle.nodejs_semver.proofs.{Bounds.TableRows.table-interval, Common.{IfSome, List, Option, Some, Span, VersionValue, Word, arith, interval}}
use Rattle.nodejs_semver.{proofs.Common.{is_interval, precedence, refl, sym, table, true, ℕ, ◌≡◌}, specs.Internal.CommonFronts.part_read}
use Rattle.{nodejs_semver.specs.Internal.Readings.table_view, semver_pieces.specs.{Internal.Views.bounds_view, declared.bounds.Bounds.Bounds}}

kept : (s : Span VersionValue) → is_interval precedence s ≡ true → interval precedence s ≡ Some s
kept s h = rw h refl

pub settled : (limit : ℕ) (w : Word) (b : Bounds) → table_view (Some b) ≡ table limit w → is_interval precedence (bounds_view b) ≡ true
settled limit w b e = table-interval limit w (bounds_view b) (sym e)

pub ordered : (limit : ℕ) (w : Word) (o : Option Bounds) → table_view o ≡ table limit w → IfSome o (λ b. is_interval precedence (bounds_view b) ≡ true)
ordered limit w o e = grind (arith, settled)

pub compared : (limit : ℕ) (w : Word) (b : Bounds) (rest : List ℕ) → table_view (Some b) ≡ table limit w
    → part_read rest (interval precedence (bounds_view b)) ≡ part_read rest (table limit w)
compared limit w b rest e = grind (arith, kept, settled)
