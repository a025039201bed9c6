use Rattle.std.proofs.Common.{ap, arith, refl, subst}
use Rattle.std.proofs.lemmas.Option.{slice_get_read}
use Rattle.lock_check.proofs.Turns.{AreTurns, sorted-turns, turns-more, turns-none}
use Rattle.lock_check.proofs.scopes.reading_order.Goals as goal

pub loop-number-init : goal.loop-number-init
loop-number-init c = turns-none c.args.edges.now c.new-order.result.items c.new-order.ensures.items

pub loop-number-preserved : goal.loop-number-preserved
loop-number-preserved c = turns-more c.args.edges.now c.loop-number.number c.loop-number.order.items c.push.new.self.items
    (c.turn-is_own.result.0, c.turn-is_own.result.1, c.loop-number.number) c.loop-number.invariant c.in_ok-push.ensures.items refl
    (record {
      e = c.index-edges-number.result;
      at = slice_get_read c.args.edges.now _ c.loop-number.number c.index-edges-number.result refl c.loop-number-test.true c.index-edges-number.is;
      folder = ap (λ p. p.0) c.turn-is_own.ensures;
      is_own = ap (λ p. p.1) c.turn-is_own.ensures;
    })

pub returns : goal.returns
returns c = sorted-turns c.args.edges.now c.loop-number.order.items c.sort.new.self.items
    (subst (λ n. AreTurns c.args.edges.now n c.loop-number.order.items) (omega (arith, c.loop-number-test.false, c.loop-number.auto.number-end)) c.loop-number.invariant)
    c.in_ok-sort.ensures.permutation c.in_ok-sort.ensures.sorted
