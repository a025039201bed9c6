use Rattle.std.proofs.Common.{◌≡◌, ◌∙◌, bytes_eq, sym, true}
use Rattle.std.proofs.lemmas.Result.{IfOk-weaker}
use Rattle.std.proofs.lemmas.Slice.Eq.{bytes_eq-Decides}
use Rattle.lock_check.proofs.Reaching.{about-if, not-false}
use Rattle.lock_check.proofs.overrides.Rule.is_about.Goals as goal

pub returns-in-Some : goal.returns-in-Some
returns-in-Some c =
    let r = c.args.self.now in
    let d = c.args.dependency in
    let same : bytes_eq r.name.now d.name.now ≡ true = not-false _ (sym c.ne.ensures ∙ c.if-ne.false) in
    IfOk-weaker c.is_reached.result _ _ (about-if d r c.in-Some.own c.specifier.result ((bytes_eq-Decides r.name.now d.name.now).0 same)
    c.in-Some.is c.specifier.ensures) c.is_reached.ensures
