-- `inspect::inspect_unit` meets its contract.
-- Assumes nothing.
use mathlib.Core.Path.{refl}
use native.Mathlib.Omega.{arith}
use Rattle.inspect.proofs.AnswerLaws.{unit-unslotted, unit-hole, unit-slotted}
use borrow.Author.Rules.{rules}
use Rattle.inspect.proofs.inspect_unit.Goals as goal

pub returns-then-any_mapped : goal.returns-then-any_mapped
returns-then-any_mapped c = search (unit-unslotted, rules)

pub returns-then-slot-eq0 : goal.returns-then-slot-eq0
returns-then-slot-eq0 c = search (unit-hole, rules)

pub slot_checked-requires : goal.slot_checked-requires
slot_checked-requires c =
    let p = c.requires in
    record { tables = p.tables; w_len = omega arith; blocks_len = p.blocks_len; inside = p.inside; unit_bytes_bound = p.unit_bytes_bound }

pub returns : goal.returns
returns c = unit-slotted _ _ _ _ _ _ _ _ _ refl c.if-slot-eq0.false c.slot_checked.ensures
