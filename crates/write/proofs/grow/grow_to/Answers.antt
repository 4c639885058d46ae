-- `write::grow::grow_to` meets its contract.
-- Assumes nothing.
use native.Mathlib.Omega.{arith}
use mathlib.Core.Path.{refl, sym}
use lib.Seq.{length-take-le}
use Rattle.write.proofs.GrowLaws.{grow-fits, grow-ready, grow-done}
use Rattle.write.proofs.grow.grow_to.Goals as goal

pub slice_bounds-change_file-end-2 : goal.slice_bounds-change_file-end-2
slice_bounds-change_file-end-2 c = sym (length-take-le _ _ (omega (arith, c.grow_units-k.ensures.upper_bound, c.grow_units-k.auto.units)))

pub change_file-requires : goal.change_file-requires
change_file-requires c = let p = c.requires in grow-ready _ _ _ _ _ _ _ _ _ c.grow_units-k.ensures.units_after p.file_ready p.old_size_lt_size.0 p.old_size_lt_size.1 p.old_size_lt_size.2

pub returns-clause-grown : goal.returns-clause-grown
returns-clause-grown c = grow-done _ _ _ _ _ _ _ _ (grow-fits _ _ c.requires.old_size_lt_size.0 c.requires.old_size_lt_size.1) c.grow_units-k.ensures.units_after _ _ _ c.change_file.ensures.changed refl
