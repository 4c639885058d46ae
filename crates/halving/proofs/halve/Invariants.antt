-- `halving::halve` meets its contract.
-- Assumes nothing.
use mathlib.Core.Path.{◌≡◌}
use Prim.Native.Nat.{◌-◌, ◌≤◌}
use Rattle.halving.specs.Keys.{reached, owned_before}
use Rattle.halving.proofs.HalvingLaws.{Halving}
use Rattle.halving.proofs.halve.Given as goal

abbrev pub invariant-loop-low : goal.invariant-loop-low
invariant-loop-low l =
    (l.low ≤ l.high) × (l.high ≤ l.n) × Halving (reached l.equal l.object l.number l.width l.s) l.n l.low l.high l.rounds × (l.same ≡ owned_before l.object l.width l.s l.low)

abbrev pub decreases-loop-low : goal.decreases-loop-low
decreases-loop-low l = l.high - l.low
