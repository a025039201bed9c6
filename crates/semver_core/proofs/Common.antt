-- The words that most proofs of this crate use, brought together here.
pub use Rattle.std.proofs.Common.{Bool, List, None, Option, Some, [], add-one, add_comm, ap, append-nil, append_assoc, arith}
pub use Rattle.std.proofs.Common.{drop, eqb, false, get_or, inl, inr, length, ltb, refl, rules, subst, sym, take, true, zero-add}
pub use Rattle.std.proofs.Common.{ℕ, ◌*◌, ◌++◌, ◌+◌, ◌-◌, ◌<◌, ◌||◌, ◌∙◌, ◌∷◌, ◌≡◌, ◌≤◌, IfOk, IfSome, IsOkAnd, add-zero, codes}
pub use Rattle.std.proofs.Common.{if◌then◌else◌, is_some, map, nat_eq, not, set, slice_range, string_bytes, suc, vec_capacity}
pub use Rattle.std.proofs.{Common.{vec_len, zero, ◌%◌, ◌&&◌, ◌/◌, ◌^◌, ◌⊎◌, length-take-le, tests}, Math.Seq.drop-cons}
pub use Rattle.std.proofs.{Math.Seq.{take-add, take-append_seam}, Output.{has_written_styled_append, has_written_styled_of_eq}}
pub use Rattle.std.proofs.lemmas.Bool.{and_parts, cases_Bool, cases_lt, eqb-true, lt-ltb, le-ltb, not-true, cond_both, and_from}
pub use Rattle.std.proofs.lemmas.{Bool.Decides.nat_tests, Iterator.Search.all_from_yields_List}
pub use Rattle.std.proofs.lemmas.{Iterator.Splits.YieldsList-from_slice_split, List.{drop-drop, drop_all, length-drop}}
pub use Rattle.std.proofs.lemmas.List.{take-append-drop, drop_at, length-map, take_all, take_at, take_rest, reverse-append}
pub use Rattle.std.proofs.lemmas.List.{length-reverse, Elements.{All-cons, All-nil}, Folds.{drop_split, list_all-append}}
pub use Rattle.std.proofs.lemmas.List.{Splits.{length-slice_split, slice_split_at, slice_split_none}, Sums.prefix_len-le-length}
pub use Rattle.std.proofs.lemmas.Str.{IsCharBoundary-after_ascii, IsCharBoundary-start, IsUtf8-drop, IsUtf8-from_ascii}
pub use Rattle.std.proofs.lemmas.Str.{encode_ascii, encode_same, encodes-append, len_utf8_bounds, length-encode}
pub use Rattle.std.proofs.lemmas.Str.{IsCharBoundary-at_seam, IsUtf8-encode, IsUtf8-take, Ascii.{IsAscii-cons, IsAscii-nil}}
pub use Rattle.std.specs.{Char.{digit_value, is_ascii_digit, len_utf8, IsScalar}, Cmp.{first_so, second_so, tied_itself, upto}}
pub use Rattle.std.specs.{Cmp.Lexicographic.slice_cmp, Fmt.{decimal, HasWrittenStyled, IsFlush}, List.{All, list_all, onto_first}}
pub use Rattle.std.specs.{List.{prefix_len, join_with_byte}, Option.IfNone, Ordering.{is_le, ordering_reverse, ordering_then}}
pub use Rattle.std.specs.Prelude.{IsCharBoundary, IsUtf8, encode_utf8_all, ◌==◌, Err, Ok, Result, ⊤, ℤ, pos, negsuc, ◌≢◌, reverse}
pub use Rattle.std.specs.{Str.{bytes_eq, IsAscii}, Str.Parse.{digits_value, digits_value_after}, declared.cmp.Ordering.Ordering}
pub use Rattle.{std.specs.declared.cmp.Ordering.TheVariants.{Equal, Greater, Less}, semver_core.specs.Clips.clip}
pub use Rattle.semver_core.specs.Cuts.{Span, greater_lower, is_interval, lesser_upper, meet, option_holds, remainders}
pub use Rattle.semver_core.specs.{Difference.{kind_between, kind_up}, Failures.{NoValue, RefusedOnlyIf, MemoryOnlyIf}}
pub use Rattle.semver_core.specs.Increments.{Least.{IsLeastOrOverflow, IsLeastVersion}, Table.{Fault, advance, has_numeric}}
pub use Rattle.semver_core.specs.Increments.Table.{one_more, raise_last, InvalidIdentifier, InvalidIncrementArgument}
pub use Rattle.semver_core.specs.Increments.Table.{NotAPrerelease, Overflow, first_number, identify, is_false, is_kept, pre_step}
pub use Rattle.semver_core.specs.{Increments.Table.◌>>=◌, Increments.View.Returns, Internal.CommonReading.{common_of, small_len}}
pub use Rattle.semver_core.specs.Internal.{IncrementSteps.{list_text, MayAllocate, Tracks, incremented}, OrderLaws.id_total}
pub use Rattle.semver_core.specs.Internal.{OrderLaws.{precedence_total, same_key}, Reading.{list_at, list_of, qualified}}
pub use Rattle.semver_core.specs.Internal.Reading.{triple_at, HasOneReading, build_at, digits_end, list_from, lists_at, mark_len}
pub use Rattle.semver_core.specs.Internal.{Reading.{number_at, or_nothing, placed, pre_release_at}, Spaces.{drop_spaces, trim}}
pub use Rattle.semver_core.specs.Internal.Successors.{Below, above_patch, above_pre, below_cases, below_more, by_major, by_minor}
pub use Rattle.semver_core.specs.{Internal.Successors.{by_patch, by_pre, empty_not_below, upto_patch, zero_least}, Lists.is_empty}
pub use Rattle.semver_core.specs.Printing.{RoundTrip.is_normal, Text.{id_text, marked_list, version_text}}
pub use Rattle.semver_core.specs.Text.Characters.{BeginsBlank, IsAfterBlank, IsBlank, begins, is_identifier_char, is_whitespace}
pub use Rattle.semver_core.specs.Text.{Characters.{IsPieceAt, IsTrim}, Common.IsCommon, Identifiers.{AlphaNumeric, Id}}
pub use Rattle.semver_core.specs.Text.Identifiers.{IsLongestIdentifiers, Numeric, goes_on, identifier_of, is_identifier, pieces}
pub use Rattle.semver_core.specs.Text.{Identifiers.is_u64_text, Numbers.{IsNumber, IsWholeNumber}, Parsing.Parses}
pub use Rattle.semver_core.specs.Text.VersionText.{Reads, begins_pre_release, no_mark, IsBuild, IsMark, IsPreRelease, bare}
pub use Rattle.semver_core.specs.Text.VersionText.{begins_build, capital_mark, dashed, no_build, no_pre_release, plus, small_mark}
pub use Rattle.semver_core.specs.Values.{Order.{id_cmp, pre_cmp, precedence}, Versions.{VersionValue, HasIdentifiers, IsId}}
pub use Rattle.semver_core.specs.Values.{Versions.{IsVersion, release_value}, Views.{id_view, ids_view}}
pub use Rattle.semver_core.specs.declared.{TheConstants.{MAX_SAFE_INTEGER, MAX_LENGTH}, difference.VersionDiff.VersionDiff}
pub use Rattle.semver_core.specs.declared.error.Failure.{Failure, TheVariants.{Memory, Refused}}
pub use Rattle.semver_core.specs.declared.{identifier.Identifier.Identifier, increment.IdentifierBase.IdentifierBase}
pub use Rattle.semver_core.specs.declared.increment.{IdentifierBase.TheVariants.{Value, False}, IncrementError.IncrementError}
pub use borrow.Author.Tests.{ltb-true}
pub use denote.{Shadow.shadow, Text.Utf8}
unfoldable pub use Rattle.std.specs.{Char.encode_utf8, Fmt.digits}
unfoldable pub use Rattle.semver_core.specs.Internal.{CommonReading.{number_of_run, run_from}, Reading.{digits_from, list_len}}
unfoldable pub use Rattle.semver_core.specs.Internal.Spaces.{after_spaces, drop_end_spaces, space_len}
unfoldable pub use Rattle.semver_core.specs.Text.Identifiers.{is_listed, listed}
