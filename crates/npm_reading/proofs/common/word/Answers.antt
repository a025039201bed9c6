use Rattle.{npm_reading.proofs.Grammar.CommonReads.{capped-normal, word-capped}, npm_words.proofs.Common.{npm_partial_view, npm_sign_view}}
use Rattle.npm_words.proofs.Grammar.Hyphens.{partial-le}
use Rattle.npm_reading.proofs.common.word.Goals as goal

pub slice_bounds-piece-count : goal.slice_bounds-piece-count
slice_bounds-piece-count c = partial-le _ _ _ _ c.in_ok-partial.ensures

pub row_of_zeros-requires : goal.row_of_zeros-requires
row_of_zeros-requires c = capped-normal _ _ _ c.in_ok-partial.ensures

pub returns : goal.returns
returns c =
    word-capped _ _ _ (npm_sign_view c.sign_front-sign.result.0) c.sign_front-sign.ensures _ _ (npm_partial_view c.in_ok-partial.partial) _
    c.in_ok-partial.ensures c.zeros.ensures c.in_ok-bounds.ensures
