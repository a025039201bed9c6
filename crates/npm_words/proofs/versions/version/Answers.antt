use Rattle.npm_words.proofs.{Common.{MAX_SAFE_INTEGER, rules}, VersionTexts.Versions.{text_read, text_rejected}}
use Rattle.npm_words.proofs.versions.version.Goals as goal

pub returns-in-Some-clause-ok : goal.returns-in-Some-clause-ok
returns-in-Some-clause-ok c =
    text_read c.args.reading.loose MAX_SAFE_INTEGER c.args.text.now c.trim.result.now _ (search rules) c.trim.ensures.middle c.trim.utf8 (cc)

pub returns-in-None-clause-refused : goal.returns-in-None-clause-refused
returns-in-None-clause-refused c =
    text_rejected c.args.reading.loose MAX_SAFE_INTEGER c.args.text.now c.trim.result.now c.trim.ensures.middle (cc)
