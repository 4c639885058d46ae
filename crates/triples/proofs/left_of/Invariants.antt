use Rattle.triples.proofs.TripleLaws.{LeftOf}
use Rattle.triples.proofs.left_of.Given as goal

abbrev pub invariant-loop-i : goal.invariant-loop-i
invariant-loop-i l = LeftOf l.list l.room l.left l.i
