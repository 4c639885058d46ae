-- `rewrite::verify_old` meets its contract.
-- Assumes nothing.
use Rattle.rewrite.proofs.OldLaws.{reads-inside, old-unread, old-refused, old-verified, old-touched, old-untouched}
use mathlib.Core.Bool.{not}
use mathlib.Core.Path.{ap}
use Rattle.rewrite.proofs.verify_old.Goals as goal

pub returns-then-not-reads_old : goal.returns-then-not-reads_old
returns-then-not-reads_old c = λ k h. old-unread k _ _ _ (c.reads_old.ensures k _ h) (ap not c.if-not-reads_old.true)

pub inspect_unit-requires : goal.inspect_unit-requires
inspect_unit-requires c = record { tables = c.requires.tables; w_len = c.requires.w_len; blocks_len = c.requires.len.0; inside = c.requires.len.1; unit_bytes_bound = reads-inside _ c.args.change.new_size _ _ _ _ (λ k h. c.reads_old.ensures k _ h) (ap not c.if-not-reads_old.false); slot_bound = c.requires.unit_bytes_bound.1 }

pub returns-then-touches : goal.returns-then-touches
returns-then-touches c = λ k h. old-touched k _ _ _ (c.reads_old.ensures k _ h) (ap not c.if-not-reads_old.false) (rw c.in-Ok-Hole.field-0-is at c.in-Ok-Hole.ensures) _ (c.touches.ensures.value_2 k _ _ h) c.if-touches.true

pub returns-in-Err : goal.returns-in-Err
returns-in-Err c = λ k h. old-refused k _ _ _ (c.reads_old.ensures k _ h) (ap not c.if-not-reads_old.false) _ _ c.number.ensures c.in-Err.ensures

pub returns-in-Ok-Checked : goal.returns-in-Ok-Checked
returns-in-Ok-Checked c = λ k h. old-verified k _ _ _ (c.reads_old.ensures k _ h) (ap not c.if-not-reads_old.false) (rw c.in-Ok-Checked.field-0-is at c.in-Ok-Checked.ensures)

pub returns-else-touches : goal.returns-else-touches
returns-else-touches c = λ k h. old-untouched k _ _ _ (c.reads_old.ensures k _ h) (ap not c.if-not-reads_old.false) (rw c.in-Ok-Hole.field-0-is at c.in-Ok-Hole.ensures) _ (c.touches.ensures.value_2 k _ _ h) c.if-touches.false
