-- The words that most proofs of this crate use, brought together here.
pub use Rattle.nodejs_semver.specs.Internal.Candidates.{BeginsAfterPre, IsRaisable, Raisable, better, better_kept, firsts, least_of, list_marks, removed_marks}
pub use Rattle.nodejs_semver.specs.Internal.{Candidates.wanted, Denotes.{denotes, part_bounds, part_denotes, part_intervals}, RunsFrom.longer}
pub use Rattle.nodejs_semver.specs.Internal.{RunsFrom.{run_items, runs_of}, Sets.{is_range_span, meets_of, minus}, Shorthands.{remainder, spans_of}}
pub use Rattle.nodejs_semver.specs.{Internal.{Shorthands.value_of, Words.{Sign, sign_at, tilde_sign, upper_of, words}}, Ranges.Algebra.list_holds}
pub use Rattle.nodejs_semver.specs.Ranges.{Best.{IsMax, IsMaxOf, IsMinOf}, Gate.accepts, Least.{IsLeastOf, least_build}, View.{IsRange, bound_of, span_of}}
pub use Rattle.nodejs_semver.specs.Text.{Common.AreCommonParts, Meaning.Means, PartialText.{AreComponents, Partial}, Runs.{Run, fits, interval_of}}
pub use Rattle.nodejs_semver.specs.Text.{WordText.{IsSign, Word, compare, hyphen, malformed, plain, tilde}, WrittenSet.run_writes}
pub use Rattle.semver_core.proofs.CutLaws.{between_parts, cut_total, gt_lt, lt, not_if, one_way, past_lt, remainders_by, tells, turned_lower}
pub use Rattle.semver_core.{proofs.{CutLaws.turned_upper, Text.{Spaces.{drop_spaces-none, space_len-nil}, Texts.bind_some}}, specs.Clips.clip}
pub use Rattle.semver_core.specs.Cuts.{Beside, Cut, Span, Start, cut_cmp, greater_lower, holds, interval, is_interval, is_past, left_above}
pub use Rattle.semver_core.specs.{Cuts.{left_below, lesser_upper, lower_cut, meet, upper_cut}, Internal.Fronts.{Front, begins_identifier}}
pub use Rattle.semver_core.specs.Internal.{Gate.names, OrderLaws.precedence_total, Parts.{later_parts, parts}, Sides.{Far, Near}, Spaces.drop_spaces}
pub use Rattle.semver_core.specs.{Internal.{Spaces.trim, Successors.above_patch, Views.rest_view}, Lists.{if_any, is_empty}, Text.Bars.IsCutAtBars}
pub use Rattle.semver_core.specs.Text.{Characters.{IsBlank, IsTrim, begins, ends, is_whitespace}, Comparators.Comparator, Identifiers.Id}
pub use Rattle.semver_core.specs.{Text.{Identifiers.{IsIdentifiers, pieces}, VersionText.{IsBuild, IsPreRelease}}, Values.Gate.is_range_bound}
pub use Rattle.semver_core.specs.Values.{Gate.lets_in, Order.precedence, Versions.{VersionValue, is_release}}
pub use Rattle.semver_core.specs.declared.{TheConstants.MAX_SAFE_INTEGER, cuts.bound.Bound.{Bound, TheVariants.{After, Before, Unbounded}}}
pub use Rattle.{semver_core.specs.declared.error.Failure.Failure, std.proofs.Common.{Bool, Equal, IfSome, IsTrue, IsUtf8, Less, List, None, Option}}
pub use Rattle.std.proofs.Common.{Ordering, Some, [], ap, append-nil, append_assoc, ap₂, arith, drop, false, flat_map, get_or, if◌then◌else◌, inl}
pub use Rattle.std.proofs.Common.{inr, is_gt, is_some, length, length-append, map, not, option_to_list, refl, rules, subst, suc, sym, take, take_all}
pub use Rattle.std.proofs.{Common.{true, zero, ℕ, ◌&&◌, ◌++◌, ◌+◌, ◌-◌, ◌<◌, ◌||◌, ◌∙◌, ◌∷◌, ◌≡◌, ◌≤◌, ◌⊎◌}, Math.Bool.and-true}
pub use Rattle.std.proofs.{Output.has_written_styled_append, lemmas.Bool.{Decides.nat_tests, and_from, and_parts, cases_Bool, cond_both, eqb-true}}
pub use Rattle.std.proofs.lemmas.{Bool.{not-true, or_cases, or_left, or_right}, Grind.common_steps, Iterator.YieldsList-from_slice}
pub use Rattle.std.proofs.lemmas.{List.{Folds.{list_all-append, list_any-append}, drop_at, take_at, take_rest}, Option.{cond_some, same_Some}}
pub use Rattle.std.proofs.lemmas.{Result.{MatchResult-from_err, on_err_weaker}, Str.{IsCharBoundary-after_ascii, IsUtf8-drop}}
pub use Rattle.std.specs.{Char.is_ascii_digit, Cmp.{IsTotalOrder, alike_right, first_so, second_so, tied_itself}, List.{All, AllByRecursion, Any}}
pub use Rattle.std.specs.{List.{find, list_all, list_any}, Ordering.is_le, Prelude.{◌==◌, ◌↔◌}}
unfoldable pub use Rattle.nodejs_semver.specs.Text.Table.{table}
unfoldable pub use Rattle.semver_core.specs.{Internal.Reading.{list_len}, Internal.Spaces.{space_len}}
unfoldable pub use Rattle.std.specs.Char.{encode_utf8}
-- words of ranges
pub use Rattle.nodejs_semver.specs.Internal.Candidates.{BeginsOtherwise, IsAfterPre, IsLeastSoFar, all_accept, below_named, beside, candidates}
pub use Rattle.nodejs_semver.specs.Internal.{Sets.{AreTaking, option_accepts, option_list_holds, span_text}}
pub use Rattle.nodejs_semver.specs.{Internal.Shorthands.{build_by, lies_above, lies_below}, Printing.Text.range_text, Ranges.Algebra.covers_one}
pub use Rattle.nodejs_semver.specs.Ranges.{Algebra.{difference, intersection}, Best.{IsBest, IsMin, replaces}, Least.{begins_with, beyond}}
pub use Rattle.nodejs_semver.specs.{Ranges.View.{TakesMemory, any_version}, Text.{Table.{row, version_of, without_build}, WordText.caret}}
pub use Rattle.nodejs_semver.specs.{Text.WrittenSet.Writes, declared.range.outside.OutsideDirection.TheVariants.{Higher, Lower}}
pub use Rattle.semver_core.proofs.CutLaws.{below_lesser, below_upto, between, between_from, chain, greater_below, irreflexive, is_past-down}
pub use Rattle.semver_core.proofs.CutLaws.{is_some-interval, lt_not_gt, lt_trans, none_of, not_above, not_below, option_holds-interval}
pub use Rattle.semver_core.proofs.{CutLaws.{option_holds-meet, past_below, remainders-hold, upto_below}, FlatMaps.{all_flat, all_weaker, any_either}}
pub use Rattle.semver_core.proofs.FlatMaps.{any_flat, any_pairs, any_same, any_under, any_weaker, empty_is, flat_behind, flat_flat, flat_same}
pub use Rattle.semver_core.{proofs.FlatMaps.{flat_some, list_any-map, on_err, part_some, pick_both, take_next}, specs.Cuts.{End, has_bound}}
pub use Rattle.semver_core.specs.{Cuts.{option_holds, passes}, Failures.MemoryOnlyIf, Internal.Gate.same_triple, Printing.RoundTrip.is_normal}
pub use Rattle.semver_core.specs.{Printing.RoundTrip.is_readable, Text.{Comparators.{above, at_most, below, equal}, Identifiers.AlphaNumeric}}
pub use Rattle.semver_core.specs.{Text.Identifiers.{Numeric, identifier_of, is_identifier}, Values.{Order.{pre_cmp, version_eq}, Versions.lowest}}
pub use Rattle.{semver_core.specs.{Values.Versions.release_value, declared.error.Failure.TheVariants.{Memory, Refused}}, std.proofs.Common.{Bor, Err}}
pub use Rattle.std.proofs.Common.{Greater, IfNone, IfOk, Ok, Result, codes, fold, get_or-drop, is_eq, is_lt, length-drop, max, option_and_then}
pub use Rattle.std.proofs.{Common.{option_copied, option_map, take-append-drop, tests, ◌^◌, ◌≢◌}, Math.Bool.{and-false, or-false}}
pub use Rattle.std.proofs.{Output.has_written_styled_of_eq, lemmas.{Bool.{and_cases, false≢true, not-false, or_parts}, Grind.flat_map-append}}
pub use Rattle.std.proofs.lemmas.{Grind.fold-append, List.Elements.{All-append, All-cons, All-from_recursion, All-get_or, All-head, All-nil}}
pub use Rattle.std.proofs.lemmas.List.{Elements.{All-same, All-tail, All-weaker, Contains-append_right}, Folds.{find-append, flat_map-map}}
pub use Rattle.std.proofs.lemmas.List.{Folds.list_all-map, Sums.{AllPass-from_list_all, fold_more}, get_or-map, length-map, map-append, map-id}
pub use Rattle.std.{proofs.lemmas.Result.{IfOk-weaker, on_ok_weaker}, specs.{List.{AllWithin, Contains, join_by}, Ordering.{bool_cmp, is_ge}}}
pub use Rattle.std.specs.{Ordering.{nat_cmp, on, ordering_reverse, ordering_then, then_cmp}, Prelude.{filter_map, ⊤}}
unfoldable pub use Rattle.nodejs_semver.specs.Internal.{Fronts.partial_front, Words.{word_at, words_within}}
unfoldable pub use Rattle.semver_core.specs.Internal.Boundaries.{from_boundary, is_boundary}
-- words of readers
pub use Rattle.nodejs_semver.specs.Internal.{CommonFronts.{begins_second, is_sign, passed, word_read}, Meets.{joined, next_at}}
pub use Rattle.semver_core.{proofs.Text.Trims.{after_blank-place, drop_spaces-blank, middle_is_trim, trim_is_middle}, specs.Text.Bars.has_bars}
pub use Rattle.semver_core.specs.Text.{Bars.{is_bar, more_pieces, one_piece}, Characters.{IsAfterBlank, IsPieceAt, NoPieceAt, is_identifier_char}}
pub use Rattle.{semver_core.specs.Text.Numbers.{IsNumber, IsWholeNumber}, std.proofs.Common.{IsCharBoundary, IsSomeAnd, OnOk, decimal}}
pub use Rattle.std.proofs.{Common.{encode_utf8_all, eqb, length-take-le, lit≤, nat_lt, ◌*◌}, lemmas.Bool.{and_right, cases_lt, le-ltb, lt-ltb}}
pub use Rattle.std.proofs.lemmas.{List.{drop_all, drop_more}, Str.{IsCharBoundary-before_ascii, IsUtf8-take, encodes-append, len_utf8_bounds}}
pub use Rattle.std.{proofs.lemmas.Str.length-encode, specs.List.{filter, onto_first, prefix_len}}
unfoldable pub use Rattle.nodejs_semver.specs.Internal.{CommonFronts.{comparison_front, comparisons_front}, Meets.joined_from, RunsFrom.runs_from}
unfoldable pub use Rattle.semver_core.specs.Internal.{Fronts.component_front, Parts.cut_bars, Spaces.{after_spaces, drop_end_spaces}}
