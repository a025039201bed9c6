use Rattle.std.proofs.Common.{refl}
use Rattle.lock_check.proofs.Overriding.{no_dollar}
use Rattle.lock_check.proofs.overrides.Replacement.of.Goals.{in_default, in-empty, in-empty-2}
use Rattle.lock_check.proofs.overrides.Replacement.of.Goals as goal

pub returns-in-None-2 : goal.returns-in-None-2
returns-in-None-2 c = elim c.if-matches-2.branch [
  | in_default w ↦
      (refl, w.in_default.not-empty, w.in_default.not-text, no_dollar c.args.text.now c.in-None.ensures.cases)
  | in-empty w ↦ let is = w.matches-is in let none = c.if-matches.false in absurd (cc)
  | in-empty-2 w ↦ let is = w.matches-is in let none = c.if-matches.false in absurd (cc)
]
