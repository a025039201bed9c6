-- The words of the contracts of this crate, brought together here. It defines nothing.
pub use Rattle.npm_words.specs.Alternatives.{HasAlternativesIn}
pub use Rattle.npm_words.specs.Table.{Comparison}
pub use Rattle.npm_words.specs.VersionText.{IsVersionText}
pub use Rattle.semver_core.specs.Failures.{NoValue}
pub use Rattle.semver_core.specs.Internal.Fronts.{front_view}
pub use Rattle.semver_core.specs.Internal.Spaces.{drop_spaces}
pub use Rattle.semver_core.specs.Internal.Views.{pair_view, rest_view}
pub use Rattle.semver_pieces.specs.Internal.Views.{bounds_view, comparator_view}
pub use Rattle.semver_core.specs.Printing.Text.{version_text}
pub use Rattle.semver_core.specs.Text.Characters.{begins, is_identifier_char}
pub use Rattle.semver_core.specs.Text.Identifiers.{is_listed}
pub use Rattle.semver_core.specs.Values.Versions.{VersionValue}
pub use Rattle.semver_core.specs.Values.Views.{lent_id_view}
pub use Rattle.semver_core.specs.declared.TheConstants.{MAX_SAFE_INTEGER}
pub use Rattle.std.specs.Char.{is_ascii_digit}
pub use Rattle.std.specs.Fmt.{decimal}
pub use Rattle.std.specs.List.{list_all}
pub use Rattle.std.specs.Prelude.{Bool, IfNone, IfOk, IfSome, IsTrue, List, MatchOption, None, Some, []}
pub use Rattle.std.specs.Prelude.{false, length, not, true, ℕ}
