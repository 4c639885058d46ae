-- `read_checks::check_sized` meets its contract.
-- Assumes nothing.
use native.Mathlib.Omega.{arith}
use Rattle.format.specs.Refusals.{number_in}
use Rattle.read_checks.proofs.StretchLaws.{right-hand, read-sized-none, read-sized-some}
use Rattle.read.proofs.GivesLaws.{read-within}
use Rattle.read_checks.proofs.check_sized.Goals as goal

pub returns-then-n-eq0 : goal.returns-then-n-eq0
unfolding number_in
returns-then-n-eq0 c = read-sized-none _ _ _ _ c.triple_at-x.ensures _ _ _ _ c.read_length-n.ensures c.if-n-eq0.true

pub units_touched-k-requires : goal.units_touched-k-requires
units_touched-k-requires c = let w = read-within _ _ _ _ c.read_length-n.ensures c.if-n-eq0.false in (w.0, w.1)

pub check_stretch-requires : goal.check_stretch-requires
check_stretch-requires c = let p = c.requires in let w = read-within _ _ _ _ c.read_length-n.ensures c.if-n-eq0.false in let k = c.units_touched-k.ensures in record { tables = p.tables; w_len = p.w_len; head_len = p.head_len; readable = p.readable; i_in_bounds = (omega (arith, p.triple_bytes_in_bounds.0), p.triple_bytes_in_bounds.1); unit_bytes_bound = omega (arith, w.2, k.0); k_bound = omega (arith, p.made_bound, k.2); by_index = right-hand _ _ _ _ c.triple_at-x.ensures _ _ 0 _ c.read_length-n.ensures p.by_index }

pub returns : goal.returns
returns c = read-sized-some _ _ _ _ c.triple_at-x.ensures _ _ _ _ c.read_length-n.ensures c.if-n-eq0.false _ c.units_touched-k.ensures _ _ c.check_stretch.ensures
