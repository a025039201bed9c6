use Rattle.std.proofs.Common.{string_bytes}
use Rattle.npm_semver.proofs.Drawn.{drawing_is}
use Rattle.npm_semver.proofs.subcommands.explanation.drawing.Goals as goal

pub returns : goal.returns
returns c = drawing_is _ c.args.range.now (string_bytes c.in_ok-drawing.drawing) (string_bytes c.writeln.new.self) _ c.in_ok-drawing.ensures
    (rw c.new-output.ensures.bytes at c.in_ok-writeln.ensures.bytes) (rw c.deref.ensures at c.in_ok-push_str.ensures.bytes)
