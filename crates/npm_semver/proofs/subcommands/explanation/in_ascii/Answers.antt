use Rattle.std.proofs.lemmas.Str.Ascii.{IsAscii-nil, IsAscii-push}
use Rattle.npm_semver.proofs.subcommands.explanation.in_ascii.Goals as goal

pub loop-letter-init : goal.loop-letter-init
loop-letter-init c = rw c.new-text.ensures.bytes IsAscii-nil

pub loop-letter-preserved : goal.loop-letter-preserved
loop-letter-preserved c = rw (c.in_ok-push.ensures.bytes, c.in_ok-push.ensures.ascii c.ascii.ensures)
    (IsAscii-push _ _ c.loop-letter.invariant c.ascii.ensures)
