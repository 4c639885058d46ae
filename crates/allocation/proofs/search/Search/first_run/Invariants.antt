-- `Search::first_run` meets its contract. The invariant: the groups passed have no run.
use Rattle.allocation.proofs.RunLaws.{Turned}
use Rattle.allocation.proofs.search.Search.first_run.Given as goal

abbrev pub invariant-loop-i : goal.invariant-loop-i
invariant-loop-i l = Turned l.self.map.now l.self.blocks l.self.hint l.self.want l.i
