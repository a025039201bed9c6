use Rattle.std.proofs.Common.{map, string_bytes, sym, ◌∙◌}
use Rattle.npm_semver.proofs.Drawn.{draws_nothing, takes_other}
use Rattle.npm_semver.proofs.subcommands.Subcommand.answer.Goals as goal

pub returns-then-takes_input-clause-ascii : goal.returns-then-takes_input-clause-ascii
returns-then-takes_input-clause-ascii c = λ plain. draws_nothing _ _ _ (takes_other _ (map string_bytes c.args.words.now) (sym c.takes_input.ensures ∙ c.if-takes_input.true))
