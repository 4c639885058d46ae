-- `batch::write_next` meets its contract.
-- Assumes nothing.
use mathlib.Core.Path.{refl}
use Rattle.intake.proofs.JoinLaws.{not_stopped}
use Rattle.batch.proofs.BatchLaws.{write-stopped, write_done}
use borrow.Author.Rules.{rules}
use Rattle.batch.proofs.write_next.Goals as goal

pub tried-requires : goal.tried-requires
tried-requires c = c.requires.tested

pub returns-in-Err-clause-done : goal.returns-in-Err-clause-done
returns-in-Err-clause-done c = rw c.number.ensures (write-stopped _ _ _ _ _ _ _ c.in-Err.ensures)

pub write_file-done-requires : goal.write_file-done-requires
write_file-done-requires c = record { passes = not_stopped _ _ c.in_default.ensures; lent_bytes = c.requires.lent_bytes }

pub returns-clause-done : goal.returns-clause-done
returns-clause-done c = write_done _ _ _ _ _ _ _ _ _ _ c.write_file-done.ensures.written refl
