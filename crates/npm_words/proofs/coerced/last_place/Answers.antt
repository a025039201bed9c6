use Rattle.npm_words.proofs.{Common.{arith, common_steps, false, nat_tests, true}, VersionTexts.Lists.stretch_none}
use Rattle.npm_words.proofs.coerced.last_place.Goals as goal

pub places-init : goal.places-init
places-init c = record {
  last = grind (arith, nat_tests, common_steps);
  pre_releases = stretch_none true c.args.text.now;
  builds = stretch_none false c.args.text.now;
}

pub places-preserved : goal.places-preserved
places-preserved c = record {
  last = grind arith;
  pre_releases = c.end_at-there.ensures.pre_releases;
  builds = c.end_at-there.ensures.builds;
}
