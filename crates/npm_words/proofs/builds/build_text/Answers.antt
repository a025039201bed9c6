use Rattle.npm_words.proofs.{Common.{MAX_SAFE_INTEGER, arith, common_steps, rules}, VersionTexts.Builds.build-written}
use Rattle.npm_words.proofs.builds.build_text.Goals as goal

pub returns-in-Some-clause-some : goal.returns-in-Some-clause-some
returns-in-Some-clause-some c =
    build-written c.args.reading.loose MAX_SAFE_INTEGER _ _ _ c.in_ok-ok.field-0 (grind arith) c.trim.ensures.middle (search rules)

pub returns-in-None-clause-some : goal.returns-in-None-clause-some
returns-in-None-clause-some c =
    build-written c.args.reading.loose MAX_SAFE_INTEGER _ _ _ c.in_ok-ok.field-0 (grind arith) c.trim.ensures.middle (grind (arith, common_steps))
