-- `runs::last_set` meets its contract. The invariant: the bits behind are clear.
-- Assumes nothing.
use Rattle.std.proofs.Common.{◌≡◌, ℕ, ◌+◌, ◌<◌, ◌≤◌, false}
use Rattle.rules.specs.Bytes.{bit_set}
use Rattle.runs.proofs.last_set.Given as goal

abbrev pub invariant-loop-k : goal.invariant-loop-k
invariant-loop-k l = (l.p ≤ l.k) × ((j : ℕ) → l.k ≤ j → j < l.p + l.n → bit_set l.map j ≡ false)
