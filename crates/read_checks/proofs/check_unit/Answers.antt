-- `read_checks::check_unit` meets its contract.
-- Assumes nothing.
use mathlib.Core.Path.{refl}
use native.Mathlib.Omega.{arith}
use Rattle.read_checks.proofs.NumberLaws.{unit-number}
use Rattle.read.proofs.GivesLaws.{head-books}
use Rattle.read_checks.proofs.check_unit.Goals as goal

pub check_range-requires : goal.check_range-requires
check_range-requires c = let p = c.requires in record { tables = p.tables; w_len = p.w_len; readable = head-books _ _ c.decode_head-h.ensures.0 _ _ _ p.readable; blocks_len = (refl, omega arith); unit_bytes_bound = omega (arith, p.unit_bytes_bound) }

pub returns : goal.returns
returns c = (unit-number _ _ _ _ _ _ _ _ _ c.decode_head-h.ensures.0 c.check_range.ensures.0, refl)
