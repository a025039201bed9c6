-- The words of the contracts of this crate, brought together here. It defines nothing.
pub use Rattle.nodejs_semver.specs.Diagnosis.IgnoredWords.{AreAlike, AreIgnored, if_ignored, IsWhollyBounded}
pub use Rattle.nodejs_semver.specs.Diagnosis.IgnoredWords.{IsWhollyIgnored}
pub use Rattle.nodejs_semver.specs.Diagnosis.Messages.{flaw_text, word_text}
pub use Rattle.nodejs_semver.specs.Diagnosis.VersionFlaws.{IsExact, IsFlaw}
pub use Rattle.nodejs_semver.specs.Internal.Along.{IsAlong, IsNear}
pub use Rattle.nodejs_semver.specs.Internal.CommonFronts.{common_fronts, common_range}
pub use Rattle.nodejs_semver.specs.Internal.CommonViews.{bounds_front_view, passed_view}
pub use Rattle.nodejs_semver.specs.Internal.Denotes.{denotes, part_bounds, part_denotes, part_intervals}
pub use Rattle.semver_core.specs.Internal.Fronts.{front_view, number_of}
pub use Rattle.nodejs_semver.specs.Internal.Fronts.{partial_front}
pub use Rattle.nodejs_semver.specs.Internal.Hashes.{range_writes}
pub use Rattle.nodejs_semver.specs.Internal.Ignored.{ignored_behind, left_list, left_size}
pub use Rattle.nodejs_semver.specs.Internal.Ignored.{option_list, read_at, word_view}
pub use Rattle.nodejs_semver.specs.Internal.Meets.{joined_from, next_at}
pub use Rattle.semver_core.specs.Internal.Parts.{later_parts, cut_bars, parts}
pub use Rattle.semver_core.specs.Internal.Views.{pair_view, part_view}
pub use Rattle.semver_pieces.specs.Internal.Views.{bounds_view, comparator_view}
pub use Rattle.semver_core.specs.Internal.Views.{rest_view}
pub use Rattle.nodejs_semver.specs.Internal.Readings.{comparator_front_view, greater_view, next_view}
pub use Rattle.nodejs_semver.specs.Internal.Readings.{partial_front_view, partial_pair_view, partial_view}
pub use Rattle.nodejs_semver.specs.Internal.Readings.{sign_pair_view, sign_view, table_view}
pub use Rattle.nodejs_semver.specs.Internal.RunsFrom.{runs_of}
pub use Rattle.nodejs_semver.specs.Internal.SameLaws.{range_alike, range_equiv}
pub use Rattle.nodejs_semver.specs.Internal.Sets.{AreTaking, is_range_span, meets_of, minus, span_text}
pub use Rattle.nodejs_semver.specs.Internal.Shorthands.{build_by, lies_above, lies_below, remainder, spans_of}
pub use Rattle.nodejs_semver.specs.Internal.Shorthands.{value_of}
pub use Rattle.semver_core.specs.Internal.Gate.{names}
pub use Rattle.nodejs_semver.specs.Internal.Stuck.{begins_dot, IsNumberAt, Stuck}
pub use Rattle.semver_core.specs.Internal.Boundaries.{is_boundary}
pub use Rattle.nodejs_semver.specs.Internal.Words.{signed_word, upper_behind, upper_of, word_at, words}
pub use Rattle.nodejs_semver.specs.Internal.Writes.{writes}
pub use Rattle.nodejs_semver.specs.Json.{json_string, ReadsString}
pub use Rattle.nodejs_semver.specs.Printing.RoundTrip.{bounds_back, is_printable}
pub use Rattle.nodejs_semver.specs.Printing.Text.{lower_text, range_text, upper_text}
pub use Rattle.nodejs_semver.specs.Ranges.Algebra.{covers_one, difference, intersection, list_holds}
pub use Rattle.nodejs_semver.specs.Ranges.Best.{IsMax, IsMaxOf, IsMin, replaces}
pub use Rattle.nodejs_semver.specs.Ranges.Equality.{range_eq}
pub use Rattle.nodejs_semver.specs.Ranges.Gate.{accepts}
pub use Rattle.semver_core.specs.Values.Gate.{lets_in}
pub use Rattle.nodejs_semver.specs.Ranges.Least.{begins_with, IsLeastOf, least_build}
pub use Rattle.nodejs_semver.specs.Ranges.View.{any_version, bound_of, IsRange, span_of, TakesMemory}
pub use Rattle.semver_core.specs.Text.Bars.{has_bars, IsCutAtBars}
pub use Rattle.nodejs_semver.specs.Text.Common.{AreCommonParts, ends_field, IsCommonRange}
pub use Rattle.nodejs_semver.specs.Text.LongestText.{IsLongestPartial}
pub use Rattle.nodejs_semver.specs.Text.Meaning.{AreWords, IsBlankText, Means}
pub use Rattle.nodejs_semver.specs.Text.PartialText.{IsPartial, Partial}
pub use Rattle.nodejs_semver.specs.Text.Runs.{AreRuns, Run}
pub use Rattle.nodejs_semver.specs.Text.Table.{table}
pub use Rattle.nodejs_semver.specs.Text.WordText.{hyphen, IsWordAt, Word}
pub use Rattle.nodejs_semver.specs.Text.WrittenSet.{Writes}
pub use Rattle.nodejs_semver.specs.declared.diagnosis.versions.VersionFlaw.{VersionFlaw}
pub use Rattle.nodejs_semver.specs.declared.range.outside.OutsideDirection.TheVariants.{Higher, Lower}
pub use Rattle.semver_core.specs.Clips.{clip}
pub use Rattle.semver_core.specs.Cuts.{Beside, covers, has_bound, holds, interval, is_interval, is_past}
pub use Rattle.semver_core.specs.Cuts.{lower_cut, meet, passes, Span, Start, upper_cut}
pub use Rattle.semver_core.specs.Failures.{MemoryOnlyIf, NoValue, RefusedOnlyIf}
pub use Rattle.semver_core.specs.Internal.Reading.{mark_len, triple_at}
pub use Rattle.semver_core.specs.Internal.Sides.{Far, Near}
pub use Rattle.semver_core.specs.Internal.Spaces.{drop_spaces, goes_on_with, is_space_of_three}
pub use Rattle.semver_core.specs.Internal.Spaces.{is_space_of_two, space_len}
pub use Rattle.semver_core.specs.Lists.{if_any, is_empty}
pub use Rattle.semver_core.specs.Printing.Text.{version_text}
pub use Rattle.semver_core.specs.Text.Characters.{begins, is_identifier_char, IsAfterBlank, IsTrim}
pub use Rattle.semver_core.specs.Text.Identifiers.{is_listed}
pub use Rattle.semver_core.specs.Text.Numbers.{IsNumber}
pub use Rattle.semver_core.specs.Text.Parsing.{Parses}
pub use Rattle.semver_core.specs.Values.Memory.{takes_memory}
pub use Rattle.semver_core.specs.Values.Order.{precedence, version_eq}
pub use Rattle.semver_core.specs.Values.Versions.{HasIdentifiers, is_release, release_value, VersionValue}
pub use Rattle.semver_core.specs.Values.Views.{id_view, ids_view, lent_id_view}
pub use Rattle.semver_core.specs.declared.TheConstants.{MAX_SAFE_INTEGER}
pub use Rattle.semver_core.specs.declared.cuts.bound.Bound.TheVariants.{After, Before, Unbounded}
pub use Rattle.serde_json.specs.Data.{string}
pub use Rattle.serde_json.specs.Find.{as_str}
pub use Rattle.serde_json.specs.View.{view}
pub use Rattle.serde_json.specs.Written.{compact_text}
pub use Rattle.std.specs.Char.{is_ascii_digit}
pub use Rattle.std.specs.Cmp.{partial_equiv_from_equiv}
pub use Rattle.std.specs.Fmt.{decimal, DisplaysStyledOnOk}
pub use Rattle.std.specs.Iterator.{item_count, YieldsFirst}
pub use Rattle.std.specs.List.{Any, list_all, list_any}
pub use Rattle.std.specs.Option.{ForSome, option_copied, option_to_list}
pub use Rattle.std.specs.Ordering.{is_eq, is_le, is_lt}
pub use Rattle.std.specs.Prelude.{[], All, Bool, false, flat_map, fold, IfNone, IfOk, IfSome, is_some}
pub use Rattle.std.specs.Prelude.{IsFalse, IsOk, IsSomeAnd, IsTrue, IsUtf8, length, List, map, MatchOption}
pub use Rattle.std.specs.Prelude.{None, not, Ok, OnErr, OnOk, Option, option_map, Some, string_bytes, true}
pub use Rattle.std.specs.Prelude.{unwrap_or, ℕ}
pub use Rattle.std.specs.declared.cmp.Ordering.TheVariants.{Equal}
