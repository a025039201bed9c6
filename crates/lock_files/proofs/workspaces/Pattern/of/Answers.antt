use Rattle.std.proofs.Common.{◌∙◌, ap, arith, sym}
use Rattle.lock_files.proofs.Parts.{has-from_contains}
use Rattle.lock_files.specs.Workspaces.{is_unread}
use Rattle.lock_files.proofs.workspaces.Pattern.of.Goals as goal

pub returns-else-contains : goal.returns-else-contains
returns-else-contains c = (
  c.pattern_of-text.ensures,
  ap is_unread (sym c.as_bytes.ensures.value) ∙ sym c.is_unread.ensures ∙ c.if-is_unread.false,
  sym (has-from_contains 42 c.pattern_of-text.result.now c.contains.result (omega arith) c.contains.ensures.cases)
      ∙ c.if-contains.false,
)

pub returns-then-contains : goal.returns-then-contains
returns-then-contains c = (
  c.pattern_of-text.ensures,
  ap is_unread (sym c.as_bytes.ensures.value) ∙ sym c.is_unread.ensures ∙ c.if-is_unread.false,
  sym (has-from_contains 42 c.pattern_of-text.result.now c.contains.result (omega arith) c.contains.ensures.cases)
      ∙ c.if-contains.true,
)
