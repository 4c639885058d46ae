-- `pieces::hand_out_each` meets its contract.
-- Assumes nothing.
use mathlib.Core.Path.{refl}
use native.Mathlib.Omega.{arith}
use Rattle.pieces.proofs.PiecesLaws.{hand-none, handed-none, handed-room, handed-more, handed-all}
use Rattle.pieces.proofs.hand_out_each.Goals as goal

pub loop-i-init : goal.loop-i-init
loop-i-init c = (hand-none _ _ _, handed-none _ _ _ _ _ _ c.requires.list_in_bounds)

pub overflow_add-end : goal.overflow_add-end
overflow_add-end c =
    let v = c.loop-i.invariant.1 in
    let r = handed-room _ _ _ _ _ _ _ _ _ _ refl v _ c.loop-i-test.true c.triple_at-t.ensures in
    record { fits = omega (arith, r, v.long) }

pub slice_bounds-hand_out_piece-end : goal.slice_bounds-hand_out_piece-end
slice_bounds-hand_out_piece-end c = handed-room _ _ _ _ _ _ _ _ _ _ refl c.loop-i.invariant.1 _ c.loop-i-test.true c.triple_at-t.ensures

pub loop-i-preserved : goal.loop-i-preserved
loop-i-preserved c =
    let h = c.hand_out_piece-last in
    (h.ensures.in_hand_2, handed-more _ _ _ _ _ _ _ _ _ _ refl c.loop-i.invariant.1 _ c.loop-i-test.true c.triple_at-t.ensures _ h.auto.piece h.ensures.piece_after)

pub returns : goal.returns
returns c = handed-all _ _ _ _ _ _ _ _ _ _ refl c.loop-i.invariant.1 c.loop-i-test.false
