use Rattle.std.proofs.Common.{◌==◌, length, not, rules, tests}
use Rattle.std.proofs.lemmas.Iterator.Consumers.{YieldsList-at, YieldsList-from_filter, nth_from_yields_List}
use Rattle.std.proofs.lemmas.Iterator.Splits.{YieldsList-from_slice_split}
use Rattle.npm_semver.specs.Readings.{is_blank}
use Rattle.npm_semver.proofs.reading.field_behind.Goals as goal

pub returns : goal.returns
returns c = nth_from_yields_List _ _ c.args.before c.nth.ensures.ran
    (YieldsList-from_filter _ (λ part. not (length part == 0))
    (YieldsList-at c.filter.ensures.source (YieldsList-from_slice_split _ is_blank c.args.text.now c.split.ensures.rest c.split.ensures.done
    c.split.ensures.closure (λ x b q k. search (rules, tests))))
    c.filter.ensures.closure (λ x b q k. search (rules, tests)))
