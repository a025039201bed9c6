use Rattle.std.proofs.Common.{length, refl, rules, sym, ◌≡◌, ◌∙◌, []}
use Rattle.std.proofs.KnownBytes.{Appends-nil}
use Rattle.std.proofs.lemmas.List.{nil_from_length}
use Rattle.semver_answers.proofs.Steps.{finish_written, last_answer}
use Rattle.semver_answers.proofs.run.finish.Goals as goal

pub returns-then-is_empty : goal.returns-then-is_empty
returns-then-is_empty g c =
    let empty : length c.args.lines.now.pending.items ≡ 0 = search rules in
    rw (nil_from_length c.args.lines.now.pending.items empty) ([], Appends-nil _, ([], tt, refl))

pub returns-in-Ok : goal.returns-in-Ok
returns-in-Ok g c =
    let pending = c.args.lines.now.pending in
    let some = sym c.is_empty.ensures ∙ c.if-is_empty.false in
    let w = c.write_out.ensures in
    finish_written _ _ pending.items _ _ c.write_out.result (last_answer pending.items _ _ _ c.truncate.ensures pending.ok.0 some c.in-Ok.ensures.ok)
    c.as_slice.ensures w.ok w.err w.fault
