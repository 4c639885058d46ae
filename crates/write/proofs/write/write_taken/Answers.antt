-- `write::write::write_taken` meets its contract.
-- Assumes nothing.
use borrow.Author.Rules.{rules}
use native.Mathlib.Omega.{arith}
use mathlib.Core.Path.{sym}
use lib.Seq.{length-take-le}
use Rattle.write.proofs.WriteLaws.{taken-fits, write-ready, write_done}
use Rattle.write.proofs.write.write_taken.Goals as goal

pub slice_bounds-change_file-end : goal.slice_bounds-change_file-end
slice_bounds-change_file-end c = sym (length-take-le _ _ (omega (arith, c.write_units-k.ensures.result_nonzero.1, c.write_units-k.auto.units)))

pub change_file-requires : goal.change_file-requires
change_file-requires c = write-ready _ _ _ _ _ _ _ _ _ _ (search rules) _ c.write_units-k.ensures.units_after c.requires.file_ready c.requires.taken.0 c.requires.taken.1

pub returns-clause-written : goal.returns-clause-written
returns-clause-written c = write_done _ _ _ _ _ _ _ _ _ _ (search rules) (taken-fits _ _ _ _ _ _ _ (search rules) c.requires.file_ready c.requires.taken.0) c.write_units-k.ensures.units_after _ _ _ c.change_file.ensures.changed
