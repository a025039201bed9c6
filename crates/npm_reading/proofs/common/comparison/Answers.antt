use Rattle.{npm_reading.proofs.Grammar.CommonReads.{word-found, word-unpadded}, npm_words.proofs.Common.compared}
use Rattle.semver_pieces.specs.Internal.Views.{comparator_view}
use Rattle.npm_reading.proofs.common.comparison.Goals as goal

pub returns : goal.returns
returns c =
    word-found _ _ _ c.in_ok-partial.ensures _ _ (compared (comparator_view c.comparator_front-comparator.result.0)) _
    c.comparator_front-comparator.ensures (c.in_ok-bounds.ensures (word-unpadded _ _ _ c.in_ok-partial.ensures))
