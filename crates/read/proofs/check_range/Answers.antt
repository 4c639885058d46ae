-- `read::check_range` meets its contract.
-- Assumes nothing.
use native.Mathlib.Omega.{arith}
use Prim.Native.Nat.{ℕ}
use lib.ListN.{replicate}
use lib.Seq.{length-take-le}
use Rattle.mapping.proofs.LookupLaws.{extents-wider}
use Rattle.read.proofs.RangeLaws.{range_inside, range-checked}
use Rattle.read.proofs.check_range.Goals as goal

pub map_blocks-requires : goal.map_blocks-requires
map_blocks-requires c = let p = c.requires in record { extents_right = extents-wider p.readable.right; blocks_len_bound = omega arith; blocks_bound = omega arith }

pub check_slots-requires : goal.check_slots-requires
check_slots-requires c = let p = c.requires in let l = length-take-le {A = ℕ} _ (replicate 17 0) p.blocks_len.1 in record { tables = p.tables; w_len = p.w_len; g_in_bounds = p.readable.places; inside = range_inside _ _ _ _ _ p.readable _ _ _ _ c.map_blocks.ensures.0; blocks_len = omega (arith, l, p.blocks_len); unit_bytes_bound = omega (arith, l, p.unit_bytes_bound) }

pub returns : goal.returns
returns c = let p = c.requires in range-checked _ _ _ _ _ _ _ _ _ _ _ _ _ _ p.blocks_len.0 (length-take-le _ (replicate 17 0) p.blocks_len.1) c.map_blocks.ensures.0 c.check_slots.ensures
