use Rattle.triples.proofs.TripleLaws.{NoneOver}
use Rattle.triples.proofs.length_over.Given as goal

abbrev pub invariant-loop-i : goal.invariant-loop-i
invariant-loop-i l = NoneOver l.list l.i
