-- `inspect::slot_checked` meets its contract.
-- Assumes nothing.
use native.Mathlib.Omega.{arith}
use Rattle.inspect.proofs.BlockLaws.{mapped-backed}
use Rattle.inspect.proofs.AnswerLaws.{rounded, valid-most, slot-unbacked, slot-nonzero, slot-differs, slot-right}
use mathlib.Core.Bool.{not}
use mathlib.Core.Path.{ap}
use Rattle.inspect.proofs.slot_checked.Goals as goal

pub all_mapped-requires : goal.all_mapped-requires
all_mapped-requires c =
    let p = c.requires in
    omega (arith, valid-most _ _ _ c.valid_length-valid.ensures p.unit_bytes_bound, p.blocks_len, rounded _ c.div_ceil-n.ensures)

pub returns-then-not-all_mapped : goal.returns-then-not-all_mapped
returns-then-not-all_mapped c = slot-unbacked _ _ _ _ _ _ _ _ _ _ c.all_mapped.ensures (ap not c.if-not-all_mapped.true) c.valid_length-valid.ensures (rounded _ c.div_ceil-n.ensures)

pub zero_past-requires : goal.zero_past-requires
zero_past-requires c =
    let p = c.requires in
    let m = valid-most _ _ _ c.valid_length-valid.ensures p.unit_bytes_bound in
    record { backed = mapped-backed _ _ _ _ p.inside (omega (arith, m, p.blocks_len, rounded _ c.div_ceil-n.ensures)) c.all_mapped.ensures (ap not c.if-not-all_mapped.false); n_value = ((rounded _ c.div_ceil-n.ensures), m.1); n_nonzero = omega (arith, m, rounded _ c.div_ceil-n.ensures) }

pub returns-then-not-zero_past : goal.returns-then-not-zero_past
returns-then-not-zero_past c = slot-nonzero _ _ _ _ _ _ _ _ _ _ _ c.all_mapped.ensures (ap not c.if-not-all_mapped.false) c.zero_past.ensures (ap not c.if-not-zero_past.true) c.valid_length-valid.ensures (rounded _ c.div_ceil-n.ensures)

pub blocks_checksum-requires : goal.blocks_checksum-requires
blocks_checksum-requires c =
    let p = c.requires in
    let m = valid-most _ _ _ c.valid_length-valid.ensures p.unit_bytes_bound in
    record { tables = p.tables; w_len = omega arith; backed = mapped-backed _ _ _ _ p.inside (omega (arith, m, p.blocks_len, rounded _ c.div_ceil-n.ensures)) c.all_mapped.ensures (ap not c.if-not-all_mapped.false); n_value = ((rounded _ c.div_ceil-n.ensures), m.1) }

pub returns-then-blocks_checksum-crc : goal.returns-then-blocks_checksum-crc
returns-then-blocks_checksum-crc c =
    slot-differs _ _ _ _ _ _ _ _ _ _ _ _ c.all_mapped.ensures (ap not c.if-not-all_mapped.false)
    c.zero_past.ensures (ap not c.if-not-zero_past.false)
    c.blocks_checksum.ensures c.if-blocks_checksum-crc.true
    c.valid_length-valid.ensures (rounded _ c.div_ceil-n.ensures)

pub returns : goal.returns
returns c =
    slot-right _ _ _ _ _ _ _ _ _ _ _ _ c.all_mapped.ensures (ap not c.if-not-all_mapped.false)
    c.zero_past.ensures (ap not c.if-not-zero_past.false)
    c.blocks_checksum.ensures c.if-blocks_checksum-crc.false
    c.valid_length-valid.ensures (rounded _ c.div_ceil-n.ensures)
