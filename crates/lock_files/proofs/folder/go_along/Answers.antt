use Rattle.std.proofs.Common.{◌∙◌, ap, arith}
use Rattle.std.proofs.lemmas.Iterator.Consumers.{YieldsList-at, YieldsList-end}
use Rattle.std.proofs.lemmas.Iterator.Splits.{YieldsList-from_str_split}
use Rattle.std.specs.List.{fold}
use Rattle.lock_files.specs.Internal.Places.{place_of}
use Rattle.lock_files.specs.Paths.{next_place}
use Rattle.lock_files.proofs.folder.go_along.Goals as goal

pub returns : goal.returns
returns c =
    let made = c.split-part-items.ensures in
    let way = YieldsList-at c.into_iter-part-iterator.ensures.into_iter_gives
    (YieldsList-from_str_split 47 c.args.path.now (omega arith) made.text made.has_more made.pattern) in
    let all = YieldsList-end way c.loop-part.yielded _ c.loop-part.yielded_by _ _ c.in-None.is c.next.ensures.steps in
    c.loop-part.invariant ∙ ap (fold next_place (place_of c.args.place.now.items)) all.0
