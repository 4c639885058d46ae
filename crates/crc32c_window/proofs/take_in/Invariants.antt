-- `crc32c_window::take_in` meets its contract. The loop keeps: what stands below 528 + i stands for the register after `i` bytes.
-- Assumes nothing.
use Prim.Native.Nat.{◌+◌}
use mathlib.Core.Path.{◌≡◌}
use lib.ListN.{take}
use Rattle.crc32c_tables.specs.Register.{fed}
use Rattle.crc32c_window.specs.Window.{register_at}
use Rattle.crc32c_window.proofs.take_in.Given as goal

abbrev pub invariant-loop-i : goal.invariant-loop-i
invariant-loop-i l = register_at l.w (528 + l.i) ≡ fed (register_at l.initial.w 528) (take l.i l.s)
