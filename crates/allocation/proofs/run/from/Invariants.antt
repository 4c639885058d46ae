-- `allocation::run::from` meets its contract. The invariant: the blocks before `x` are taken.
-- Assumes nothing.
use Rattle.std.proofs.Common.{◌≡◌, ◌-◌}
use Rattle.rules.specs.Lists.{range}
use Rattle.allocation.specs.Search.{held}
use Rattle.allocation.proofs.run.from.Given as goal

abbrev pub invariant-loop-x : goal.invariant-loop-x
invariant-loop-x l = (held l.t ≡ range l.b (l.x - l.b)) × (l.t.count ≡ l.x - l.b)
