use Rattle.std.proofs.Common.{◌∙◌, ap, sym}
use Rattle.lock_files.specs.Internal.Places.{place_of}
use Rattle.lock_files.proofs.Paths.{next_place-down, place_of-push}
use Rattle.lock_files.proofs.folder.go_on.Goals as goal

pub returns-in_ok-push-in_default : goal.returns-in_ok-push-in_default
returns-in_ok-push-in_default c =
    let parts = c.args.parts.now.items in
    let part = c.args.part.now in
    ap place_of c.in_ok-push-in_default.ensures.items ∙ place_of-push parts c.args.part
    ∙ sym (next_place-down (place_of parts) part c.in_default.not-empty c.in_default.not-text c.in_default.not-text-2)
