use Rattle.std.proofs.Common.{◌++◌, ◌∙◌, [], append-nil, refl, rules, sym}
use Rattle.semver_core.proofs.Printing.Returns.{marked_step}
use Rattle.semver_core.specs.Printing.Text.{id_text}
use Rattle.semver_core.specs.Values.Views.{lent_id_view}
use Rattle.nodejs_semver_c.proofs.Putting.{adds_nothing, adds_same, adds_then}
use Rattle.nodejs_semver_c.proofs.pieces.put_marked.Goals as goal

pub ids-init : goal.ids-init
ids-init c = (search rules, [], adds_nothing _ _, refl)

pub ids-preserved : goal.ids-preserved
ids-preserved c =
    let (text, so_far, adds, left) = c.ids.invariant in (
      search rules,
      so_far ++ (c.ids.sign.now ++ id_text (lent_id_view c.in-Some.id)),
      adds_then adds (adds_then c.put.ensures c.put_identifier.ensures),
      marked_step so_far _ c.ids.sign.now c.ids.others c.next.new.self
          (lent_id_view c.in-Some.id) c.in-Some.ensures.steps left,
    )

pub returns : goal.returns
returns c =
    let (text, so_far, adds, left) = c.ids.invariant in
    adds_same (sym (append-nil so_far) ∙ search (rules, left)) adds
