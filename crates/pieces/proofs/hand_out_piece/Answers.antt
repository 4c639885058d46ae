-- `pieces::hand_out_piece` meets its contract.
-- Assumes nothing.
use Rattle.pieces.proofs.PiecesLaws.{blocks-room, hand-inside, piece-none, piece-some}
use native.Mathlib.Omega.{arith}
use mathlib.Core.Path.{◌∙◌}
use Rattle.mapping.proofs.LookupLaws.{extents-wider}
use Rattle.read.proofs.GivesLaws.{read-within}
use Rattle.pieces.proofs.hand_out_piece.Goals as goal

pub returns-then-n-eq0 : goal.returns-then-n-eq0
returns-then-n-eq0 c = let p = c.requires in record { in_hand_2 = p.in_hand; piece_after = piece-none _ _ _ _ _ _ _ _ c.read_length-n.ensures c.if-n-eq0.true }

pub units_touched-k-requires : goal.units_touched-k-requires
units_touched-k-requires c = let w = read-within _ _ _ _ c.read_length-n.ensures c.if-n-eq0.false in (w.0, w.1)

pub map_stretch-next-requires : goal.map_stretch-next-requires
map_stretch-next-requires c = let p = c.requires in record { extents_right = extents-wider p.extents_right; blocks_len = p.blocks_len; k_le_most_units = c.units_touched-k.ensures.2; unit_blocks_bound = omega arith; in_hand = p.in_hand }

pub hand_out-requires : goal.hand_out-requires
hand_out-requires c =
    let p = c.requires in
    let u = c.units_touched-k.ensures in
    let s = c.map_stretch-next in
    let w = read-within _ _ _ _ c.read_length-n.ensures c.if-n-eq0.false in
    let l = blocks-room _ s.new.blocks u.2 (s.auto.blocks ∙ p.blocks_len) in
    record { n_bound = omega (arith, l, u.0, w.0); n_in_bounds = w.3; inside = hand-inside _ _ _ _ _ _ _ p.extents_right s.ensures.1 }

pub returns : goal.returns
returns c =
    let s = c.map_stretch-next.ensures in
    record { in_hand_2 = s.0; piece_after = piece-some _ _ _ _ _ _ _ _ c.read_length-n.ensures _ _ _ c.units_touched-k.ensures.0 s.1 c.hand_out.ensures }
