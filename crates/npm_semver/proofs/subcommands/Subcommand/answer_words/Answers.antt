use Rattle.std.proofs.Common.{refl}
use Rattle.npm_semver.proofs.Drawn.{is_other, draws_nothing}
use Rattle.npm_semver.proofs.subcommands.Subcommand.answer_words.Goals as goal

pub returns-in-Compare-clause-ascii : goal.returns-in-Compare-clause-ascii
returns-in-Compare-clause-ascii c = λ plain. draws_nothing _ _ _ (is_other _ _ c.in-Compare.is refl)

pub returns-in-Diff-clause-ascii : goal.returns-in-Diff-clause-ascii
returns-in-Diff-clause-ascii c = λ plain. draws_nothing _ _ _ (is_other _ _ c.in-Diff.is refl)

pub returns-in-Next-clause-ascii : goal.returns-in-Next-clause-ascii
returns-in-Next-clause-ascii c = λ plain. draws_nothing _ _ _ (is_other _ _ c.in-Next.is refl)

pub returns-in-Range-clause-ascii : goal.returns-in-Range-clause-ascii
returns-in-Range-clause-ascii c = λ plain. draws_nothing _ _ _ (is_other _ _ c.in-Range.is refl)

pub returns-in-Least-clause-ascii : goal.returns-in-Least-clause-ascii
returns-in-Least-clause-ascii c = λ plain. draws_nothing _ _ _ (is_other _ _ c.in-Least.is refl)

pub returns-in-Get-clause-ascii : goal.returns-in-Get-clause-ascii
returns-in-Get-clause-ascii c = λ plain. draws_nothing _ _ _ (is_other _ _ c.in-Get.is refl)

pub returns-in-Valid-clause-ascii : goal.returns-in-Valid-clause-ascii
returns-in-Valid-clause-ascii c = λ plain. draws_nothing _ _ _ (is_other _ _ c.in-Valid.is refl)

pub returns-in-Key-clause-ascii : goal.returns-in-Key-clause-ascii
returns-in-Key-clause-ascii c = λ plain. draws_nothing _ _ _ (is_other _ _ c.in-Key.is refl)

pub returns-in-Unkey-clause-ascii : goal.returns-in-Unkey-clause-ascii
returns-in-Unkey-clause-ascii c = λ plain. draws_nothing _ _ _ (is_other _ _ c.in-Unkey.is refl)

pub returns-in-Spans-clause-ascii : goal.returns-in-Spans-clause-ascii
returns-in-Spans-clause-ascii c = λ plain. draws_nothing _ _ _ (is_other _ _ c.in-Spans.is refl)

pub returns-in-Sql-clause-ascii : goal.returns-in-Sql-clause-ascii
returns-in-Sql-clause-ascii c = λ plain. draws_nothing _ _ _ (is_other _ _ c.in-Sql.is refl)

pub returns-in-Simplify-clause-ascii : goal.returns-in-Simplify-clause-ascii
returns-in-Simplify-clause-ascii c = λ plain. draws_nothing _ _ _ (is_other _ _ c.in-Simplify.is refl)

pub returns-in-Help-clause-ascii : goal.returns-in-Help-clause-ascii
returns-in-Help-clause-ascii c = λ plain. draws_nothing _ _ _ (is_other _ _ c.in-Help.is refl)

pub returns-in-About-clause-ascii : goal.returns-in-About-clause-ascii
returns-in-About-clause-ascii c = λ plain. draws_nothing _ _ _ (is_other _ _ c.in-About.is refl)
