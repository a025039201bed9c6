use Rattle.semver_core.proofs.Common.{Some, ap, arith, qualified, sym, ℕ, ◌∙◌}
use Rattle.{std.proofs.lemmas.Result.on_err_weaker, semver_core.proofs.Text.Fronts.{front_read, lists_found, lists_left, none_past}}
use Rattle.semver_core.proofs.readers.fast.read.Goals as goal

pub returns-then-end-text-clause-found : goal.returns-then-end-text-clause-found
returns-then-end-text-clause-found c =
    let text = c.args.text.now in
    let m = c.in-Some in
    rw (← m.ensures.found)
    (ap Some c.release.ensures
    ∙ sym (lists_found text m.major m.minor m.patch m.end m.end _ _ (sym (none_past text m.end (omega arith))) (omega arith)))

pub returns-then-not-begins_lists-clause-found : goal.returns-then-not-begins_lists-clause-found
returns-then-not-begins_lists-clause-found c =
    let m = c.in-Some in
    rw (← m.ensures.found)
    (sym (lists_left c.args.text.now m.major m.minor m.patch m.end m.end _ _
    (sym (c.begins_lists.ensures c.if-not-begins_lists.true)) (omega (arith, m.ensures.place))))

pub returns-clause-found : goal.returns-clause-found
returns-clause-found c = rw (← c.in-Some.ensures.found) c.version_of_whole.ensures.found

pub returns-clause-memory : goal.returns-clause-memory
returns-clause-memory c =
    let t : ℕ × ℕ × ℕ × ℕ = (c.in-Some.major, c.in-Some.minor, c.in-Some.patch, c.in-Some.end) in
    let v = qualified c.args.text.now t in
    on_err_weaker c.version_of_whole.result (λ h. (v, front_read _ c.args.text.now t c.in-Some.ensures.found, h))
    c.version_of_whole.ensures.memory
