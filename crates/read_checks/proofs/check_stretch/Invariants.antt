-- `read_checks::check_stretch` meets its contract. The loop keeps: the first `j` units are right, and `made` inspections have been made.
-- Assumes nothing.
use Rattle.read_checks.specs.Reads.{looked, pairs_before}
use Rattle.read_checks.proofs.StretchLaws.{Passed}
use Rattle.read_checks.proofs.check_stretch.Given as goal

abbrev pub invariant-loop-j : goal.invariant-loop-j
invariant-loop-j l =
    Passed (looked l.image l.head l.extents l.groups) l.object l.size l.first l.k l.initial.made (pairs_before l.list l.sizes l.i) l.j l.made
