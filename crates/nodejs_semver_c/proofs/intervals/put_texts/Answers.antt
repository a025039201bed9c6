use Rattle.std.proofs.Common.{sym}
use Rattle.nodejs_semver_c.proofs.Putting.{adds_then}
use Rattle.nodejs_semver_c.proofs.intervals.put_texts.Goals as goal

pub returns : goal.returns
returns c = rw (sym c.pre_release.ensures.value, sym c.build.ensures.value) (adds_then c.put_ids.ensures c.put_ids-2.ensures)
