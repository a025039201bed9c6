-- The words of the contracts of this crate, brought together here. It defines nothing.
pub use Rattle.std.specs.Char.{is_ascii_digit}
pub use Rattle.std.specs.Cmp.{eq_by_cmp_equiv, on_equiv, on_per, on_po, on_total, partial_equiv_from_equiv, po}
pub use Rattle.std.specs.Cmp.Lexicographic.{slice_cmp}
pub use Rattle.std.specs.Fmt.{decimal, DisplaysStyledOnOk}
pub use Rattle.std.specs.Iterator.{item_count, YieldsFirstBy}
pub use Rattle.std.specs.List.{fold, join_with_byte, list_all, prefix_len}
pub use Rattle.std.specs.Option.{option_copied}
pub use Rattle.std.specs.Ordering.{is_eq, is_le, is_lt}
pub use Rattle.std.specs.Prelude.{[], ℕ, Bool, codes, false, IfErr, IfNone, IfOk, IfSome, is_some, IsCharBoundary}
pub use Rattle.std.specs.Prelude.{IsOk, IsOkAnd, IsTrue, IsUtf8, length, List, map, not, OnErr, OnOk, Option, refl, Some}
pub use Rattle.std.specs.Prelude.{string_bytes, take, true, unwrap_or}
pub use Rattle.std.specs.Str.{bytes_eq}
pub use Rattle.std.specs.Str.Lossy.{utf8_valid_len}
pub use Rattle.std.specs.Str.Parse.{digits_value}
pub use Rattle.std.specs.declared.alloc.AllocError.{AllocError}
pub use Rattle.std.specs.declared.cmp.Ordering.TheVariants.{Equal, Less}
pub use Rattle.semver_core.specs.Clips.{clip}
pub use Rattle.semver_core.specs.Cuts.{bound_eq, covers, cut_cmp, greater_lower, has_bound, holds, interval}
pub use Rattle.semver_core.specs.Cuts.{is_interval, is_past, left_above, left_below, lesser_upper, lower_cut, meet}
pub use Rattle.semver_core.specs.Cuts.{option_holds, passes, remainders, Span, upper_cut}
pub use Rattle.semver_core.specs.Difference.{kind_between, kind_up, kind_word}
pub use Rattle.semver_core.specs.Failures.{MemoryOnlyIf, NoValue, RefusedOnlyIf}
pub use Rattle.semver_core.specs.Increments.Least.{IsLeastOrOverflow, IsLeastVersion, IsPlain}
pub use Rattle.semver_core.specs.Increments.Table.{answer_of_inc, asked, has_numeric, is_kept, Overflow, raise_last}
pub use Rattle.semver_core.specs.Increments.View.{fault_of, Returns}
pub use Rattle.semver_core.specs.Internal.Borrowed.{HasText, id_ref_view}
pub use Rattle.semver_core.specs.Internal.Boundaries.{is_boundary}
pub use Rattle.semver_core.specs.Internal.CommonReading.{common_of, grown, number_of_run, run_from, small_len, whole_at}
pub use Rattle.semver_core.specs.Internal.Fronts.{front_view}
pub use Rattle.semver_core.specs.Internal.Hashes.{id_writes, version_writes}
pub use Rattle.semver_core.specs.Internal.IncrementSteps.{begun, list_text, MayAllocate, parts_ref_value}
pub use Rattle.semver_core.specs.Internal.IncrementSteps.{RefusedWith, ReturnsParts, Tracks}
pub use Rattle.semver_core.specs.Internal.OrderLaws.{id_alike, id_total, numbers_cmp, precedence_total, version_alike}
pub use Rattle.semver_core.specs.Internal.Parts.{parts}
pub use Rattle.semver_core.specs.Internal.Reading.{digits_end, digits_from, IsListAdded, list_from, list_len, lists_at}
pub use Rattle.semver_core.specs.Internal.Reading.{number_at, part_at, placed, qualified, triple_at}
pub use Rattle.semver_core.specs.Internal.Sources.{begins_padded_run, has_padded}
pub use Rattle.semver_core.specs.Internal.Spaces.{drop_end_spaces, drop_spaces, goes_on_with, is_space_of_three, is_space_of_two, space_len}
pub use Rattle.semver_core.specs.Internal.Views.{pair_view, part_view, rest_view}
pub use Rattle.semver_core.specs.Lists.{is_empty}
pub use Rattle.semver_core.specs.Printing.RoundTrip.{is_normal, is_readable}
pub use Rattle.semver_core.specs.Printing.Text.{id_text, marked_list, version_text}
pub use Rattle.semver_core.specs.Text.Characters.{begins, HasFeed, is_identifier_char, is_whitespace, IsAfterBlank}
pub use Rattle.semver_core.specs.Text.Characters.{IsPieceAt, IsTrim, NoPieceAt}
pub use Rattle.semver_core.specs.Text.Common.{IsCommon, IsCommonFront}
pub use Rattle.semver_core.specs.Text.Identifiers.{goes_on, Id, identifier_of, is_identifier, is_listed}
pub use Rattle.semver_core.specs.Text.Identifiers.{IsLongestIdentifiers, listed, Numeric}
pub use Rattle.semver_core.specs.Text.Numbers.{IsWholeNumber}
pub use Rattle.semver_core.specs.Text.Parsing.{Parses}
pub use Rattle.semver_core.specs.Text.VersionText.{Reads}
pub use Rattle.semver_core.specs.Values.Memory.{takes_memory}
pub use Rattle.semver_core.specs.Values.Order.{build_order, id_cmp, pre_cmp, precedence, version_eq}
pub use Rattle.semver_core.specs.Values.Triples.{GivesRelease}
pub use Rattle.semver_core.specs.Values.Versions.{HasIdentifiers, is_release, IsVersion, lowest, release_value, VersionValue}
pub use Rattle.semver_core.specs.Values.Views.{id_view, ids_view, lent_id_view}
pub use Rattle.semver_core.specs.declared.error.Failure.TheVariants.{Memory, Refused}
pub use Rattle.semver_core.specs.declared.increment.IdentifierBase.{IdentifierBase}
pub use Rattle.semver_core.specs.declared.increment.IdentifierBase.TheVariants.{False, Value}
