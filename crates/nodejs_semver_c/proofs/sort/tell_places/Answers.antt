use Rattle.nodejs_semver_c.proofs.Sorting.{places_more}
use Rattle.nodejs_semver_c.proofs.sort.tell_places.Goals as goal

pub places-preserved : goal.places-preserved
places-preserved c =
    places_more c.args.all.now _ c.args.order.now c.places.at c.index-all-at.result c.places-test.true c.requires c.places.invariant
