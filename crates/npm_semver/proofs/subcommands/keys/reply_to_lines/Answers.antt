use Rattle.std.proofs.Common.{[], arith, string_bytes}
use Rattle.std.proofs.lemmas.Grind.{common_steps}
use Rattle.std.proofs.lemmas.List.{map-append, take_more}
use Rattle.npm_semver.proofs.Keyed.{lines_more, no_lines}
use Rattle.npm_semver.specs.Internal.Said.{has_row}
use Rattle.npm_semver.specs.Subcommands as Spec
use Rattle.npm_semver.proofs.subcommands.keys.reply_to_lines.Goals as goal

pub loop-text-init : goal.loop-text-init
loop-text-init c = rw c.new-output.ensures.bytes Spec.AreLines.none

pub loop-text-preserved : goal.loop-text-preserved
loop-text-preserved c =
    let has = c.in-Ok-true.ensures.some c.in-Ok-true.field-0-test in
    rw (take_more c.args.lines.now c.loop-text.text-index (record { ref_ptr = (0, 0); now = [] }) c.loop-text-test.true, map-append)
    (lines_more _ _ _ _ _ c.loop-text.invariant (has.0, has.1, grind (arith, common_steps, has.2)))

pub returns-in-Ok-false-clause-refused : goal.returns-in-Ok-false-clause-refused
returns-in-Ok-false-clause-refused c =
    no_lines (has_row c.args.row) c.args.lines.now c.loop-text.text-index (record { ref_ptr = (0, 0); now = [] }) c.loop-text-test.true
    (c.in-Ok-false.ensures.none c.in-Ok-false.field-0-test)

pub returns-clause-ok : goal.returns-clause-ok
returns-clause-ok c = (string_bytes c.loop-text.output, grind (arith, common_steps), grind (arith, common_steps))
