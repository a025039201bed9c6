use Rattle.std.proofs.Common.{◌++◌, append_assoc, refl, rules}
use Rattle.semver_core.specs.Printing.Text.{id_text}
use Rattle.semver_core.specs.Values.Views.{lent_id_view}
use Rattle.npm_semver.proofs.Printing.{marked_step}
use Rattle.npm_semver.proofs.run.write_marked.Goals as goal

pub ids-preserved : goal.ids-preserved
ids-preserved c =
    let (text, so_far, wrote, left) = c.ids.invariant in (
      search rules,
      so_far ++ (c.ids.mark.now ++ id_text (lent_id_view c.in-Some.id)),
      rw (c.in_ok-write.ensures.bytes, wrote, append_assoc) refl,
      marked_step so_far _ c.ids.mark.now c.ids.others c.next.new.self (lent_id_view c.in-Some.id) c.in-Some.ensures.steps left,
    )
