use Rattle.std.proofs.Common.{◌≡◌, ◌<◌, ◌+◌, ◌++◌, [], true, length}
use Rattle.std.specs.Prelude.{IsUtf8}
use Rattle.semver_answers.specs.Internal.Ahead.{ends_whole}
use Rattle.semver_answers.specs.Internal.Steps.{Taken}
use Rattle.semver_answers.specs.Lines.{no_feed}
use Rattle.semver_answers.proofs.run.Lines.take.Given as goal

abbrev pub invariant-lines : goal.invariant-lines
invariant-lines l = record {
  utf8 : IsUtf8 l.text;
  whole : ends_whole l.text ≡ true;
  pending : no_feed l.self.pending.items ≡ true;
  empty : 0 < length l.text → l.self.pending.items ≡ [];
  taken : Taken l.initial.self.pending.items l.initial.rest l.self.pending.items (l.text ++ l.rest) l.self.output;
}

abbrev pub decreases-lines : goal.decreases-lines
decreases-lines l = length l.text + length l.rest
