-- `Search::take_groups` meets its contract. The invariant: what the groups to come give, behind the blocks held, makes what all were to give. Assumes nothing.
use Rattle.allocation.proofs.GroupLaws.{Grouping}
use Rattle.allocation.proofs.search.Search.take_groups.Given as goal

abbrev pub invariant-loop-i : goal.invariant-loop-i
invariant-loop-i l = Grouping l.self.map.now l.self.blocks l.self.hint l.past l.self.want l.t l.i
