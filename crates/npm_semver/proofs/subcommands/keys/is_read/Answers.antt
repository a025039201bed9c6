use Rattle.std.proofs.Common.{subst}
use Rattle.npm_semver.proofs.Keyed.{not_bare, not_same_if, same_if}
use Rattle.npm_words.specs.VersionText.{IsVersionText}
use Rattle.semver_core.specs.declared.TheConstants.{MAX_SAFE_INTEGER}
use Rattle.npm_semver.proofs.subcommands.keys.is_read.Goals as goal

pub returns-then-is_empty-clause-some : goal.returns-then-is_empty-clause-some
returns-then-is_empty-clause-some c = λ on. subst (IsVersionText MAX_SAFE_INTEGER c.args.text.now)
    (same_if _ _ _ _ _ _ c.build.ensures.value c.is_empty.ensures c.if-is_empty.true c.requires c.cmp_precedence.ensures c.is_eq.ensures on)
    c.in-Ok.ensures.ok

pub returns-then-is_empty-clause-none : goal.returns-then-is_empty-clause-none
returns-then-is_empty-clause-none c = λ off is. not_same_if _ _ _ _ c.cmp_precedence.ensures c.is_eq.ensures off
    (c.npm_reads_once.ensures.version _ _ _ _ c.in-Ok.ensures.ok is)

pub returns-else-is_empty-clause-none : goal.returns-else-is_empty-clause-none
returns-else-is_empty-clause-none c = λ off is. not_bare _ _ _ _ c.build.ensures.value c.is_empty.ensures c.if-is_empty.false c.requires
    (c.npm_reads_once.ensures.version _ _ _ _ c.in-Ok.ensures.ok is)

pub returns-in-Err-clause-none : goal.returns-in-Err-clause-none
returns-in-Err-clause-none c = λ off is. c.in-Err.ensures.refused _ is
