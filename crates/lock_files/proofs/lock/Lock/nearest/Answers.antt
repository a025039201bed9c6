use Rattle.std.proofs.Common.{false, length, subst, sym, ◌∙◌, ◌≡◌}
use Rattle.std.proofs.lemmas.Bool.{true≢false}
use Rattle.std.specs.Prelude.{◌==◌}
use Rattle.std.proofs.lemmas.Result.{IfOk-weaker}
use Rattle.lock_files.specs.Lookups.{IsClosest, closest, outermost}
use Rattle.lock_files.proofs.Around.{empty_folder}
use Rattle.lock_files.proofs.lock.Lock.nearest.Goals as goal

pub returns-then-is_empty : goal.returns-then-is_empty
returns-then-is_empty c = IfOk-weaker c.outermost.result _ _ (λ found at. outermost found (λ some. absurd (some (empty_folder _ (sym c.is_empty.ensures ∙ c.if-is_empty.true)))) at)
    c.outermost.ensures

pub returns-in-Some : goal.returns-in-Some
returns-in-Some c = closest c.in-Some.found (λ e.
    let some : (length c.args.folder.now == 0) ≡ false = sym c.is_empty.ensures ∙ c.if-is_empty.false in absurd (true≢false (rw e at some))) (subst (IsClosest c.args.self c.args.folder.now c.args.name.now) c.in-Some.is c.in_ok-found.ensures)

pub returns-in-None : goal.returns-in-None
returns-in-None c = IfOk-weaker c.outermost-in-None.result _ _ (λ found at. outermost found
    (λ some. subst (IsClosest c.args.self c.args.folder.now c.args.name.now) c.in-None.is c.in_ok-found.ensures) at) c.outermost-in-None.ensures
