-- Statement: how the flaws of version texts and of range texts print.
use Rattle.std.specs.Prelude.{ℕ, List, ◌++◌, codes}
use Rattle.std.specs.Fmt.{decimal}
use Rattle.npm_reading.specs.declared.range_flaws.RangeFlaw.{RangeFlaw}

abbrev pub range_flaw_text : RangeFlaw → List ℕ
range_flaw_text flaw =
    codes "malformed word at bytes " ++ decimal flaw.word_start ++ codes " to " ++ decimal flaw.word_end
