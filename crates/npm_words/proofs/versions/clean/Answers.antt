use Rattle.npm_words.proofs.{Common.{IsClean, IsVersionText, MAX_SAFE_INTEGER, NoValue, ap, arith, length}, Grammar.AlternativeLaw.marks-utf8}
use Rattle.{npm_words.proofs.VersionTexts.Versions.clean_refused, std.proofs.lemmas.{Result.IfErr-weaker, Str.IsCharBoundary-from_drop}}
use Rattle.npm_words.proofs.versions.clean.Goals as goal

pub range_from-requires : goal.range_from-requires
range_from-requires c =
    λ _. IsCharBoundary-from_drop c.trim-text.result.now c.marks_len.result (omega (arith, ap length c.as_bytes.ensures.value, c.marks_len.ensures.fits))
    (rw (c.marks_len.ensures.value, c.as_bytes.ensures.value) (marks-utf8 c.trim-text.result.now c.trim-text.utf8))

pub returns-clause-refused : goal.returns-clause-refused
returns-clause-refused c =
    IfErr-weaker c.version.result (λ _. NoValue (IsVersionText MAX_SAFE_INTEGER c.range_from.result.now))
    (λ _. NoValue (IsClean MAX_SAFE_INTEGER c.args.text.now)) (λ _. clean_refused _ _ _ _ c.trim-text.ensures.middle (grind arith))
    (rw c.default.ensures at c.version.ensures.refused)
