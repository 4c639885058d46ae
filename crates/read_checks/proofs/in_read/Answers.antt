-- `read_checks::in_read` meets its contract.
-- Assumes nothing.
use Rattle.read.proofs.GivesLaws.{read-within}
use Rattle.read_checks.proofs.NumberLaws.{read-other, read-empty, read_behind, read-touches}
use Rattle.read_checks.proofs.in_read.Goals as goal

pub returns-then-t-object : goal.returns-then-t-object
returns-then-t-object c = read-other _ _ _ c.triple_at-t.ensures _ _ _ c.if-t-object.true

pub returns-then-n-eq0 : goal.returns-then-n-eq0
returns-then-n-eq0 c = read-empty _ _ _ c.triple_at-t.ensures _ _ _ _ c.read_length-n.ensures c.if-n-eq0.true

pub returns-then-unit-first : goal.returns-then-unit-first
returns-then-unit-first c = read_behind _ _ _ c.triple_at-t.ensures _ _ _ _ c.read_length-n.ensures c.if-t-object.false c.if-n-eq0.false c.if-unit-first.true

pub units_touched-requires : goal.units_touched-requires
units_touched-requires c = let w = read-within _ _ _ _ c.read_length-n.ensures c.if-n-eq0.false in (w.0, w.1)

pub returns : goal.returns
returns c = read-touches _ _ _ c.triple_at-t.ensures _ _ _ _ c.read_length-n.ensures c.if-t-object.false c.if-n-eq0.false _ c.if-unit-first.false c.units_touched.ensures.0
