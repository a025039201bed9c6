-- Places as the code keeps them: the parts of a folder, the last one last.
use Rattle.std.specs.Prelude.{ℕ, List, map, reverse}
use Rattle.std.specs.Borrow.{Bor}

abbrev pub place_of : List (Bor (List ℕ)) → List (List ℕ)
place_of parts = reverse (map (λ part. part.now) parts)
