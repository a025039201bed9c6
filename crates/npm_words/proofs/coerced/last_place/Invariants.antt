use Rattle.npm_words.{proofs.Common.{false, true}, specs.Internal.Tuples.{IsLastBefore, IsStretch}}
use Rattle.npm_words.proofs.coerced.last_place.Given as goal

abbrev pub invariant-places : goal.invariant-places
invariant-places l = record {
  last : IsLastBefore l.included l.text l.at l.start l.end;
  pre_releases : IsStretch true l.text l.pre_releases;
  builds : IsStretch false l.text l.builds;
}
