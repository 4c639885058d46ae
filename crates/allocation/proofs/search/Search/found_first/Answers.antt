-- `Search::found_first` meets its contract: the blocks collected, put in order.
use Rattle.std.proofs.Common.{arith}
use Rattle.allocation.proofs.AnswerLaws.{found-chosen}
use Rattle.allocation.proofs.search.Search.found_first.Goals as goal

pub returns : goal.returns
returns c = found-chosen _ _ _ _ _ _ _ (omega arith) c.take_groups.ensures c.sorted.ensures
