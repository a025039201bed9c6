use Rattle.nodejs_semver.specs.{Internal.{Fronts.partial_front, RunsFrom.runs_from, Words.{word_at, words_within}}, Text.Table.table}
use Rattle.semver_core.specs.Internal.{Boundaries.{from_boundary, is_boundary}, Fronts.{build_front, component_front, dotted_front, number_of}}
use Rattle.semver_core.specs.Internal.{Fronts.pre_release_front, Parts.cut_bars, Reading.list_len, Spaces.{after_spaces, drop_end_spaces, space_len}}
use Rattle.{semver_core.specs.{Text.Identifiers.listed, declared.TheConstants.MAX_SAFE_INTEGER}, std.{proofs.Common.{refl, sym}, specs.Prelude.codes}}
use lib.Utf8.{encode}
use Rattle.library_tests.proofs.tests.print.reread_range_gives_three_intervals.Goals as goal

pub reread_range-requires : goal.reread_range-requires
unfolding table is_boundary number_of space_len after_spaces drop_end_spaces cut_bars partial_front component_front dotted_front
    pre_release_front build_front list_len listed word_at words_within from_boundary runs_from encode
reread_range-requires g c =
    rw (sym ((c.meaning.ensures.one_meaning MAX_SAFE_INTEGER _ _ (codes ">3||2||<1.0.0-a", (refl, refl))).1 c.in_ok-range.ensures.ok)) refl
