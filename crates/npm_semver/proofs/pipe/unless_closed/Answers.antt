use Rattle.std.proofs.Common.{◌≡◌, ◌∙◌, Ok, Result, sym}
use Rattle.std.specs.declared.io.Error.{Error}
use Rattle.npm_semver.specs.Outcomes.IsUnlessClosed.{closed, failed, written}
use Rattle.npm_semver.specs.Outcomes.{IsUnlessClosed}
use Rattle.npm_semver.proofs.pipe.unless_closed.Goals as goal

kept : (w : Result (Unit {0}) Error) (u : Unit {0}) → w ≡ Ok u → IsUnlessClosed w (Ok tt)
kept w u e = rw e (written u tt)

pub returns-in_default : goal.returns-in_default
returns-in_default c = kept _ _ c.in_default.is

pub returns-in-BrokenPipe : goal.returns-in-BrokenPipe
returns-in-BrokenPipe c = rw c.in-Err.is (closed _ (sym c.kind.ensures ∙ c.in-BrokenPipe.is))

pub returns-in_default-kind : goal.returns-in_default-kind
returns-in_default-kind c = rw c.in-Err.is (failed _ (λ e. c.in_default-kind.not-BrokenPipe (c.kind.ensures ∙ e)))
