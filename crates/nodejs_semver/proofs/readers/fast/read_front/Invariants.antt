use Rattle.nodejs_semver.proofs.Common.{length, MAX_SAFE_INTEGER}
use Rattle.nodejs_semver.proofs.Everyday.Parts.{Reaches}
use Rattle.nodejs_semver.proofs.readers.fast.read_front.Given as goal

-- what was found, and what is read in the rest of the text, is what is read in the text; the list has room for one more
abbrev pub invariant-parts : goal.invariant-parts
invariant-parts g l = Reaches MAX_SAFE_INTEGER l.text (g.S.Found.items l.found) l.rest × g.S.Found.has_room l.found

abbrev pub decreases-parts : goal.decreases-parts
decreases-parts g l = length l.rest
