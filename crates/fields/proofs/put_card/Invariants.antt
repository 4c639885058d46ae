-- `fields::put_card` meets its contract. The loop keeps: the first `i` words stand in the slice.
-- Assumes nothing.
use Prim.Native.Nat.{◌*◌}
use mathlib.Core.Path.{◌≡◌}
use lib.ListN.{take}
use Rattle.rules.specs.Bytes.{be_digits, patch}
use Rattle.fields.specs.Fields.{joined}
use Rattle.fields.proofs.put_card.Given as goal

abbrev pub invariant-loop-i : goal.invariant-loop-i
invariant-loop-i l = l.s ≡ patch l.initial.s l.at (be_digits (8 * l.i) (joined (take l.i l.w-items)))
