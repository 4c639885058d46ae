-- `image::unit::assemble` meets its contract.
-- Assumes nothing.
use Rattle.image.proofs.UnitLaws.{assembled-unit}
use Rattle.image.proofs.unit.assemble.Goals as goal

pub returns : goal.returns
returns c =
    let pre = c.requires in
    assembled-unit _ _ _ _ _ _ _ _ _ _ pre.buffer_len pre.len pre.held_le_valid pre.valid_le_unit_bytes pre.written_bound pre.inside
    c.hand_out.ensures c.zero.ensures c.copy.ensures
