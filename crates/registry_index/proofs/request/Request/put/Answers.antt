use Rattle.std.proofs.Common.{rules}
use Rattle.std.proofs.Common.{w64}
use Rattle.std.proofs.lemmas.Int.{to_z-of_z}
use Rattle.registry_index.proofs.Last.{is_last}
use Rattle.registry_index.proofs.request.Request.put.Goals as goal

pub returns-in_ok-found-in-Best : goal.returns-in_ok-found-in-Best
returns-in_ok-found-in-Best g c h = rw (c.in-Best.is) (
  c.in_ok-found-in-Best.found.items,
  c.in_ok-found-in-Best.ensures h,
  is_last _ _ _ _ (search rules) c.pop.ensures.items c.pop.ensures.variant,
)

pub returns-in_ok-search-in-All : goal.returns-in_ok-search-in-All
returns-in_ok-search-in-All g c h = rw (c.in-All.is) (c.in_ok-search-in-All.ensures h)

pub returns-in_ok-first-in-Behind : goal.returns-in_ok-first-in-Behind
returns-in_ok-first-in-Behind g c h = rw (c.in-Behind.is) (
  c.count.new.conn,
  rw (to_z-of_z w64 c.in_ok-newer-in-Behind.newer (search rules))
      (c.in_ok-newer-in-Behind.ensures.counted (c.in_ok-first-in-Behind.ensures.clean h)),
  c.in_ok-first-in-Behind.ensures.found h,
)
