use Rattle.std.proofs.Common.{length, nat_lt, not, rules, tests}
use Rattle.std.proofs.lemmas.Iterator.Search.{any_from_yields_List}
use Rattle.std.proofs.lemmas.Iterator.Splits.{YieldsList-from_slice_split}
use Rattle.std.specs.Char.{is_ascii_digit}
use Rattle.lock_check.proofs.reading.has_great.Goals as goal

pub returns : goal.returns
returns c =
    any_from_yields_List (λ run. nat_lt 20 (length run)) _ _ _ c.any.ensures.ran
    (YieldsList-from_slice_split _ (λ b. not (is_ascii_digit b)) c.args.text.now (cc) (cc) (cc) (λ x b q k. search (rules, tests)))
    (λ x b q k. search (rules, tests))
