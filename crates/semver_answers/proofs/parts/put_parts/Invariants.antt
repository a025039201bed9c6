use Rattle.std.proofs.Common.{◌≡◌, ◌≤◌, ◌<◌, ◌++◌, ◌-◌, take, false, length}
use Rattle.std.specs.Option.{is_some}
use Rattle.semver_answers.specs.Internal.Parts.{combined, text_behind}
use Rattle.semver_answers.proofs.parts.put_parts.Given as goal

abbrev pub invariant-parts : goal.invariant-parts
invariant-parts l = record {
  within : l.at ≤ length l.these;
  forth : 0 < l.at_once;
  some : l.any ≡ is_some (combined l.asked (take l.at l.these) l.s);
  grown : l.output ≡ l.initial.output ++ text_behind false (combined l.asked (take l.at l.these) l.s);
}

abbrev pub decreases-parts : goal.decreases-parts
decreases-parts l = length l.these - l.at
