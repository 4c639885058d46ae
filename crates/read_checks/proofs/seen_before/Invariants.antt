-- `read_checks::seen_before` meets its contract. The loop keeps: none of the reads so far touches the unit.
-- Assumes nothing.
use mathlib.Core.Bool.{false}
use mathlib.Core.Path.{◌≡◌}
use Rattle.read_checks.specs.Reads.{pair_is, pairs_before}
use Rattle.rules.specs.ReadMany.{same_pair}
use Rattle.rules.specs.Lists.{any}
use Rattle.read_checks.proofs.seen_before.Given as goal

abbrev pub invariant-loop-j : goal.invariant-loop-j
invariant-loop-j l = any (same_pair (pair_is l.object l.unit)) (pairs_before l.list l.sizes l.j) ≡ false
