use Rattle.std.proofs.Common.{◌++◌, ◌∷◌, arith, refl}
use Rattle.std.proofs.lemmas.Grind.{common_steps}
use Rattle.npm_semver.proofs.Keyed.{no_key_and_text}
use Rattle.npm_semver.proofs.subcommands.keys.push_key_and_text.Goals as goal

pub returns-then-not-branch-clause-some : goal.returns-then-not-branch-clause-some
returns-then-not-branch-clause-some c = λ e. absurd (cc)

pub returns-then-not-branch-clause-none : goal.returns-then-not-branch-clause-none
returns-then-not-branch-clause-none c = λ e. no_key_and_text c.args.text.now (c.in_ok-push_key.ensures.none (grind (arith, c.if-not-branch.true)))

pub returns-clause-none : goal.returns-clause-none
returns-clause-none c = λ e. absurd (cc)

pub returns-clause-some : goal.returns-clause-some
returns-clause-some c = λ e.
    let has = c.in_ok-push_key.ensures.some (grind (arith, c.if-not-branch.false)) in
    (has.0 ++ 9 ∷ c.args.text.now, (has.0, has.1, refl), grind (arith, common_steps, has.2))
