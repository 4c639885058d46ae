-- `kept::Change::candidates` meets its contract. The invariant: the entries passed are chosen. Assumes nothing.
use Prim.Native.Nat.{◌+◌}
use Rattle.kept.proofs.RetainedLaws.{Choosing}
use Rattle.kept.proofs.Change.candidates.Given as goal

abbrev pub invariant-loop-i : goal.invariant-loop-i
invariant-loop-i l = Choosing l.settled l.self.offset (l.self.offset + l.self.len) l.start l.old l.kept l.i
