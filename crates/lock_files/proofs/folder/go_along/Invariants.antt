use Rattle.std.proofs.Common.{◌≡◌, map}
use Rattle.std.specs.List.{fold}
use Rattle.lock_files.specs.Internal.Places.{place_of}
use Rattle.lock_files.specs.Paths.{next_place}
use Rattle.lock_files.proofs.folder.go_along.Given as goal

abbrev pub invariant-loop-part : goal.invariant-loop-part
invariant-loop-part l =
    place_of l.place.items ≡ fold next_place (place_of l.fn.place.items) (map (λ part. part.now) l.yielded)
