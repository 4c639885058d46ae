-- Demand 3: after every list of calls and batches of writes on a store that fresh made, every read that is accepted gives the plain array's bytes, alone
-- or in one call with others, every list of stretches leaves out nothing but zeros, every block is in exactly one place, every card's count is right, what
-- a call keeps of a unit is within its limit of runs, and refusals 2, 9 to 12 and 14 never come.
-- Assumes nothing.
use Rattle.rules.specs.Demand.{Demand3}
use Rattle.history.proofs.Invariant.{demand3-from-changes}
use Rattle.history.proofs.Changes.{changes}

-- one theorem about the whole list
pub demand3 : Demand3
demand3 = demand3-from-changes changes
