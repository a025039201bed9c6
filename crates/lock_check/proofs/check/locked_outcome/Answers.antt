use Rattle.std.proofs.Common.{refl, subst}
use Rattle.std.proofs.lemmas.Bool.{iff_false}
use Rattle.std.proofs.lemmas.Result.{IfOk-weaker}
use Rattle.lock_check.specs.Judged.IsLockedOutcome.{behind, no_folder}
use Rattle.lock_check.specs.Judged.IsOutcomeBehind.{judged, link, own_peer, unnamed}
use Rattle.lock_files.specs.Lookups.{IsBehind}
use Rattle.lock_check.proofs.check.locked_outcome.Goals as goal

pub returns-in_default : goal.returns-in_default
returns-in_default c =
    no_folder (subst (λ found. IsBehind c.args.lock c.args.locked found) c.in_default.is c.in_ok-package.ensures) refl

pub returns-then-is_own_peer : goal.returns-then-is_own_peer
returns-then-is_own_peer c = behind c.in-Some.package
    (subst (λ found. IsBehind c.args.lock c.args.locked found) c.in-Some.is c.in_ok-package.ensures)
    (own_peer (c.is_own_peer.ensures.0 c.if-is_own_peer.true))

pub returns-then-not-is_name : goal.returns-then-not-is_name
returns-then-not-is_name c = behind c.in-Some.package
    (subst (λ found. IsBehind c.args.lock c.args.locked found) c.in-Some.is c.in_ok-package.ensures)
    (unnamed (iff_false c.is_own_peer.ensures c.if-is_own_peer.false) (iff_false c.is_name.ensures c.if-not-is_name.true))

pub returns-then-is_link_of_root : goal.returns-then-is_link_of_root
returns-then-is_link_of_root c = behind c.in-Some.package
    (subst (λ found. IsBehind c.args.lock c.args.locked found) c.in-Some.is c.in_ok-package.ensures)
    (link (iff_false c.is_own_peer.ensures c.if-is_own_peer.false) (c.is_name.ensures.0 c.if-not-is_name.false)
    (c.is_link_of_root.ensures.0 c.if-is_link_of_root.true))

pub returns : goal.returns
returns c = IfOk-weaker c.outcome_of_either.result _ _ (λ found h.
    behind c.in-Some.package
    (subst (λ found. IsBehind c.args.lock c.args.locked found) c.in-Some.is c.in_ok-package.ensures)
    (judged found (iff_false c.is_own_peer.ensures c.if-is_own_peer.false) (c.is_name.ensures.0 c.if-not-is_name.false)
    (iff_false c.is_link_of_root.ensures c.if-is_link_of_root.false) h))
    c.outcome_of_either.ensures
