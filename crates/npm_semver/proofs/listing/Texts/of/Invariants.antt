use Rattle.std.proofs.Common.{[], take}
use Rattle.npm_semver.specs.Internal.Asked.{texts}
use Rattle.npm_semver.specs.Internal.Texts.{Reads}
use Rattle.npm_semver.proofs.listing.Texts.of.Given as goal

abbrev pub invariant-loop-range : goal.invariant-loop-range
invariant-loop-range l = Reads l.reading (texts (take l.range-index l.range_texts)) [] l.read

abbrev pub invariant-loop-text : goal.invariant-loop-text
invariant-loop-text l = Reads l.reading (texts l.fn.range_texts) (texts (take l.text-index l.version_texts)) l.read
