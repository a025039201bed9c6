use Rattle.std.proofs.Common.{◌∙◌, sym, length-take-le}
use Rattle.nodejs_semver_c.proofs.Cutting.{both_end, both_go_on, differ, first_goes_on, front_fits, front_number, second_goes_on}
use Rattle.nodejs_semver_c.proofs.dotted.cmp_pieces.Goals as goal

pub slice_bounds-cmp_ids-end : goal.slice_bounds-cmp_ids-end
slice_bounds-cmp_ids-end c = sym (length-take-le c.first_piece-end.result.0 c.pieces.left.now
    (front_fits c.pieces.left.now c.first_piece-end.result c.first_piece-end.ensures))

pub slice_bounds-cmp_ids-end-in-pieces : goal.slice_bounds-cmp_ids-end-in-pieces
slice_bounds-cmp_ids-end-in-pieces c = sym (length-take-le c.first_piece-stop.result.0 c.pieces.right.now
    (front_fits c.pieces.right.now c.first_piece-stop.result c.first_piece-stop.ensures))

pub cmp_ids-order-requires-clause-piece : goal.cmp_ids-order-requires-clause-piece
cmp_ids-order-requires-clause-piece c = front_number c.pieces.left.now c.first_piece-end.result c.first_piece-end.ensures

pub cmp_ids-order-requires-clause-other : goal.cmp_ids-order-requires-clause-other
cmp_ids-order-requires-clause-other c = front_number c.pieces.right.now c.first_piece-stop.result c.first_piece-stop.ensures

pub returns-then-is_ne : goal.returns-then-is_ne
returns-then-is_ne c = differ c.pieces.left.now c.pieces.right.now c.first_piece-end.result c.first_piece-stop.result
    c.first_piece-end.ensures c.first_piece-stop.ensures c.cmp_ids-order.result c.cmp_ids-order.ensures
    (sym c.is_ne.ensures ∙ c.if-is_ne.true) ∙ sym c.pieces.invariant

pub behind-requires : goal.behind-requires
behind-requires c = front_fits c.pieces.left.now c.first_piece-end.result c.first_piece-end.ensures

pub behind-requires-in-pieces : goal.behind-requires-in-pieces
behind-requires-in-pieces c = front_fits c.pieces.right.now c.first_piece-stop.result c.first_piece-stop.ensures

pub returns-in-Some-None : goal.returns-in-Some-None
returns-in-Some-None c = first_goes_on c.pieces.left.now c.pieces.right.now c.first_piece-end.result c.first_piece-stop.result
    c.first_piece-end.ensures c.first_piece-stop.ensures c.cmp_ids-order.result c.cmp_ids-order.ensures
    (sym c.is_ne.ensures ∙ c.if-is_ne.false)
    c.in-Some-None.ensures.some.0 c.in-Some-None.ensures'.none ∙ sym c.pieces.invariant

pub returns-in-None-Some : goal.returns-in-None-Some
returns-in-None-Some c = second_goes_on c.pieces.left.now c.pieces.right.now c.first_piece-end.result c.first_piece-stop.result
    c.first_piece-end.ensures c.first_piece-stop.ensures c.cmp_ids-order.result c.cmp_ids-order.ensures
    (sym c.is_ne.ensures ∙ c.if-is_ne.false)
    c.in-None-Some.ensures.none c.in-None-Some.ensures'.some.0 ∙ sym c.pieces.invariant

pub returns-in-None-None : goal.returns-in-None-None
returns-in-None-None c = both_end c.pieces.left.now c.pieces.right.now c.first_piece-end.result c.first_piece-stop.result
    c.first_piece-end.ensures c.first_piece-stop.ensures c.cmp_ids-order.result c.cmp_ids-order.ensures
    (sym c.is_ne.ensures ∙ c.if-is_ne.false)
    c.in-None-None.ensures.none c.in-None-None.ensures'.none ∙ sym c.pieces.invariant

pub pieces-preserved : goal.pieces-preserved
pieces-preserved c = rw (c.in-Some-Some.ensures.some.1, c.in-Some-Some.ensures'.some.1) (c.pieces.invariant ∙ both_go_on c.pieces.left.now c.pieces.right.now c.first_piece-end.result c.first_piece-stop.result
    c.first_piece-end.ensures c.first_piece-stop.ensures c.cmp_ids-order.result c.cmp_ids-order.ensures
    (sym c.is_ne.ensures ∙ c.if-is_ne.false)
    c.in-Some-Some.ensures.some.0 c.in-Some-Some.ensures'.some.0)
