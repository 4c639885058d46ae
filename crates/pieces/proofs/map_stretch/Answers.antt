-- `pieces::map_stretch` meets its contract.
-- Assumes nothing.
use Rattle.pieces.proofs.PiecesLaws.{hand-front}
use Rattle.pieces.proofs.map_stretch.Goals as goal

pub returns-then-starts_with : goal.returns-then-starts_with
returns-then-starts_with c = let p = c.requires in (p.in_hand, hand-front _ _ _ _ _ _ _ _ _ _ c.starts_with.ensures c.if-starts_with.true p.in_hand)
