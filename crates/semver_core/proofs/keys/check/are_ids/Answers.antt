use Rattle.semver_core.proofs.Encoding.Checking.{ids_found, ids_next}
use Rattle.semver_core.proofs.keys.check.are_ids.Goals as goal

pub ids-preserved : goal.ids-preserved
ids-preserved c = record {
  sound = λ ids. c.ids.invariant.sound (ids_found _ _ c.in-Some.ensures.sound ids);
  complete = λ ids. ids_next _ _ c.in-Some.ensures.sound c.in-Some.ensures.complete (c.ids.invariant.complete ids);
}
