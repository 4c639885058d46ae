-- `finish_units::held_bytes` meets its contract. Each return is one law of the count. Assumes nothing.
use Rattle.finish_units.proofs.UnitLaws.{held-hole, held-unread, held_all}
use mathlib.Core.Bool.{not}
use mathlib.Core.Path.{ap}
use Rattle.finish_units.proofs.held_bytes.Goals as goal

pub returns-then-slot-eq0 : goal.returns-then-slot-eq0
returns-then-slot-eq0 c = λ ch after is. held-hole ch _ _ c.if-slot-eq0.true

pub returns-then-not-reads_old : goal.returns-then-not-reads_old
returns-then-not-reads_old c = λ ch after is. held-unread ch _ _ _ (c.reads_old.ensures ch after is) (ap not c.if-not-reads_old.true)

pub returns : goal.returns
returns c =
    λ ch after is. held_all ch _ _ _ _ _ c.if-slot-eq0.false (c.reads_old.ensures ch after is) (ap not c.if-not-reads_old.false)
    c.valid_length.ensures.0 is.old
