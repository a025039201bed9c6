-- The words that most proofs of this crate use, brought together here.
pub use Rattle.npm_words.specs.{Alternatives.{HasAlternativesIn, is_valid, meets, satisfies}, Coerced.{IsRun, IsTuple}, Flaws.{GoesOn, IsFront}}
pub use Rattle.npm_words.specs.{Flaws.{IsSpelled, wrong_of}, Grammar.{IsStrictBuild, IsStrictNumber, bare, begins_undashed, dashed, has_leading_zero}}
pub use Rattle.npm_words.specs.{Grammar.{is_strict_list, no_build, no_pre_release, plus}, Internal.Meaning.{AreRead, IsCommon, IsNarrowed, counted}}
pub use Rattle.npm_words.specs.Internal.{Meaning.{is_unbounded, is_zero}, Parts.{Numbers, are_normal, npm_partial_view, npm_sign_view, release}}
pub use Rattle.npm_words.specs.Internal.{Parts.within, Readings.{IsStrictPreRelease, is_strict_identifier}, Reads.valid_one, States.is_whole}
pub use Rattle.npm_words.specs.Internal.{Tuples.IsLastBefore, Views.{end_view, signed_front_view, signed_view}, Words.{Ended, Signed}}
pub use Rattle.npm_words.specs.Internal.Words.{are_whole_marks, capped_in, capped_one, capped_partial, drop_ends, ended_as, first_as, hyphen_of}
pub use Rattle.npm_words.specs.Internal.Words.{is_free, is_free_lower, is_free_upper, is_right, is_short_build, is_short_word, is_spelled, kept}
pub use Rattle.npm_words.specs.Internal.Words.{last_end, limited, lower_of, marked_word, marks_len, may_stand, or_late, run_place, skip_equal}
pub use Rattle.npm_words.specs.{Internal.Words.{skip_greater, skip_tilde, upper_of, words_of_all}, Malformed.{IsIgnored, is_mark, takes}}
pub use Rattle.npm_words.specs.{MalformedWords.{IsLeft, IsMalformedWord, here}, Partials.{IsPlace, IsPlaces, is_short_identifier, one, partial_of}}
pub use Rattle.npm_words.specs.{Partials.{three, two}, RangeText.{AreAlternatives, AreMarks, AreWords, BeginsAs, BeginsWord, IsAlternative, IsEnd}}
pub use Rattle.npm_words.specs.RangeText.{IsHyphen, IsSignText, IsWord, are_marks, caret_equal, comparators_of, end_sign, is_lost, is_right_end}
pub use Rattle.npm_words.specs.{RangeText.{last_marks, late_above, late_below, no_sign, none, sign, spelling, tilde_twice, word}, Table.Comparison}
pub use Rattle.npm_words.specs.Table.{caret_from, compared, counts, first, from, hyphen_lower, hyphen_upper, major, minor, next_changed, under, whole}
pub use Rattle.npm_words.specs.{Table.wildcard, VersionText.{IsClean, IsStrictVersion, IsVersionText}, declared.flaws.Flaw.TheVariants.At}
pub use Rattle.npm_words.specs.declared.flaws.State.{State, TheVariants.{Build, Dash, Digit, Number, Padded, Plus, PreRelease, Zero}}
pub use Rattle.semver_core.proofs.{CutLaws.option_holds-interval, FlatMaps.{all_weaker, empty_is}, Text.Pieces.{digits_grow, runs_tail}}
pub use Rattle.semver_core.proofs.Text.{SpaceLaw.space_len-white, Spaces.{drop_spaces-none, space_len-nil}, Texts.bind_some, Trims.drop_spaces-blank}
pub use Rattle.semver_core.{proofs.Text.Trims.{middle_is_trim, trim_is_middle}, specs.Cuts.{Span, greater_lower, holds, interval, is_interval}}
pub use Rattle.semver_core.specs.{Cuts.{is_past, lesser_upper, lower_cut, upper_cut}, Failures.NoValue, Internal.Fronts.{Front, after_byte}}
pub use Rattle.semver_core.specs.Internal.Fronts.{begins_byte, begins_identifier, begins_padded, begins_wildcard, number_front}
pub use Rattle.semver_core.specs.{Internal.{OrderLaws.precedence_total, Reading.◌>>?◌, Spaces.{drop_spaces, trim}}, Lists.is_empty}
pub use Rattle.semver_core.specs.{Printing.{RoundTrip.is_readable, Text.{id_text, marked_list, version_text}}, Text.Bars.IsCutAtBars}
pub use Rattle.semver_core.specs.Text.Characters.{IsBlank, IsPieceAt, IsTrim, NoPieceAt, begins, ends, is_identifier_char, is_whitespace}
pub use Rattle.semver_core.specs.Text.{Comparators.{Comparator, above, at_least, at_most, below, equal}, Identifiers.{AlphaNumeric, Id}}
pub use Rattle.semver_core.specs.Text.{Identifiers.{IsIdentifiers, Numeric, goes_on, identifier_of, is_identifier, pieces}, Numbers.IsNumber}
pub use Rattle.semver_core.specs.{Text.Numbers.IsWholeNumber, Values.{Gate.lets_in, Order.precedence, Versions.{VersionValue, is_release}}}
pub use Rattle.semver_core.specs.{Values.Versions.release_value, declared.{TheConstants.{MAX_LENGTH, MAX_SAFE_INTEGER}, cuts.bound.Bound.Bound}}
pub use Rattle.{semver_core.specs.declared.cuts.bound.Bound.TheVariants.{Before, Unbounded}, semver_pieces.specs.Internal.Views.bounds_view}
pub use Rattle.{semver_pieces.specs.declared.bounds.Bounds.Bounds, std.proofs.Common.{Bool, IfNone, IfSome, IsUtf8, List, None, Option, Ordering}}
pub use Rattle.std.proofs.Common.{Some, [], ap, append-nil, append_assoc, ap₂, arith, codes, decimal, drop, encode_utf8_all, eqb, false, get_or}
pub use Rattle.std.proofs.Common.{if◌then◌else◌, inl, inr, is_eq, is_gt, is_lt, is_some, length, length-append, length-drop, length-take-le, map}
pub use Rattle.std.proofs.Common.{nat_lt, not, option_map, refl, rules, subst, suc, sym, take, take-append-drop, tests, true, zero, ℕ, ◌&&◌, ◌*◌}
pub use Rattle.std.proofs.{Common.{◌++◌, ◌+◌, ◌-◌, ◌<◌, ◌^◌, ◌||◌, ◌∙◌, ◌∷◌, ◌≡◌, ◌≤◌, ◌⊎◌}, Math.{Bool.{and-false, and-true}, Seq.drop-append-add}}
pub use Rattle.std.proofs.lemmas.Bool.{Decides.nat_tests, and_from, and_parts, cases_Bool, cases_lt, eqb-true, le-ltb, lt-ltb, or_parts, or_right}
pub use Rattle.std.proofs.lemmas.{Grind.common_steps, Iterator.{Search.all_from_yields_List, Splits.YieldsList-from_slice_split}}
pub use Rattle.std.proofs.lemmas.List.{Elements.filter-append, Folds.{length-prefix_len, list_all-append}, drop_at, take_at, take_rest}
pub use Rattle.std.proofs.lemmas.{Option.{cond_some, same_Some}, Slice.Eq.bytes_eq-Decides, Str.{chars_from_encodes, encode_ascii, encodes-append}}
pub use Rattle.std.{proofs.lemmas.Str.{encodes_same, len_utf8_bounds, length-encode}, specs.Char.{digit_value, is_ascii_digit, len_utf8}}
pub use Rattle.std.specs.{Cmp.both_ways, List.{AllByRecursion, join_with_byte, list_all, onto_first, prefix_len}, Ordering.{is_ge, is_le}}
pub use Rattle.std.specs.{Prelude.{is_none, nat_le, take_while, ◌==◌, ◌↔◌}, Str.{Parse.{digits_value, digits_value_after}, bytes_eq, chars}}
unfoldable pub use Rattle.npm_words.specs.Internal.{States.{next, run, wrong_at}, Tuples.{tuple_len, tuple_release}, Versions.patch_front}
unfoldable pub use Rattle.npm_words.specs.Internal.{Versions.{qualified_version, whole_version}, Words.{after_ends, alternative_of, alternatives_of}}
unfoldable pub use Rattle.npm_words.specs.Internal.Words.{behind_ignored, dotted_patch, dotted_place, end_front, first_word, hyphen_ends, npm_sign}
unfoldable pub use Rattle.npm_words.specs.Internal.Words.{patch_place, place_front, pre_front, qualified_partial, signed_word, words_within}
unfoldable pub use Rattle.semver_core.specs.Internal.{Boundaries.{from_boundary, is_boundary}, Fronts.{build_front, number_of, number_with}}
unfoldable pub use Rattle.semver_core.specs.Internal.{Fronts.{pre_release_front, pre_release_with}, Parts.cut_bars, Reading.list_len}
unfoldable pub use Rattle.{semver_core.specs.{Internal.Spaces.{after_spaces, space_len}, Text.Identifiers.listed}, std.specs.Char.encode_utf8}
unfoldable pub use Rattle.std.specs.Fmt.{digits}
