-- `pieces::hand_out_each` meets its contract. The loop keeps: the pieces so far have their bytes, and the blocks of the last stretch are in hand.
-- Assumes nothing.
use Rattle.pieces.specs.InHand.{InHand}
use Rattle.pieces.proofs.PiecesLaws.{Handed}
use Rattle.pieces.proofs.hand_out_each.Given as goal

abbrev pub invariant-loop-i : goal.invariant-loop-i
invariant-loop-i l =
    InHand l.extents l.e l.last.object l.last.first l.last.units l.blocks × Handed l.image l.extents l.e l.list l.sizes l.initial.out l.i l.at l.out
