-- `read_checks::check_reads` meets its contract. The loop keeps: the first `i` reads are right, and `made` inspections have been made.
-- Assumes nothing.
use Rattle.read_checks.specs.Reads.{looked}
use Rattle.read_checks.proofs.CheckedLaws.{ListPassed}
use Rattle.read_checks.proofs.check_reads.Given as goal

abbrev pub invariant-loop-i : goal.invariant-loop-i
invariant-loop-i l = ListPassed (looked l.image l.head l.extents l.groups) l.cards l.list l.sizes l.i l.made
