use Rattle.npm_words.{proofs.VersionTexts.Coerced.{chosen, coerced, settled}, specs.Coerced.IsChosenFrom}
use Rattle.npm_words.proofs.coerced.coerce_with.Goals as goal

pub returns : goal.returns
returns c =
    let found = coerced c.args.options.include_prerelease c.args.options.loose (IsChosenFrom c.args.options.rtl) _ _ (settled c.args.options.rtl) _ _
    c.as_bytes-bytes.ensures.value (chosen _ _ _ _ c.in_ok-at.ensures.some) c.version_front.ensures in
    record { some = found.0; none = found.1 }
