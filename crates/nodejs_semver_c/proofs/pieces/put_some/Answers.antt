use Rattle.std.proofs.Common.{[], ◌∙◌, ap, sym}
use Rattle.semver_core.proofs.Printing.Returns.{marked_first}
use Rattle.semver_core.specs.Values.Views.{lent_id_view}
use Rattle.nodejs_semver_c.specs.Kept.{list_text}
use Rattle.nodejs_semver_c.proofs.Putting.{adds_same, adds_then}
use Rattle.nodejs_semver_c.proofs.pieces.put_some.Goals as goal

pub returns-in-Some : goal.returns-in-Some
returns-in-Some c = adds_same (marked_first [] (lent_id_view c.in-Some.first) c.next.new.self ∙ sym (ap list_text c.in-Some.ensures.steps))
    (adds_then c.put_identifier.ensures c.put_list.ensures)
