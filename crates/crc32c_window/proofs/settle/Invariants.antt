-- `crc32c_window::settle` meets its contract. The loop keeps: the first `j` bytes of `u` give the register of what `z` holds below 528 + j.
-- Assumes nothing.
use Prim.Native.Nat.{◌+◌}
use mathlib.Core.Path.{◌≡◌}
use lib.ListN.{length, take}
use Rattle.crc32c_tables.specs.Register.{fed}
use Rattle.crc32c_window.specs.Window.{stands, latest, taps}
use Rattle.crc32c_window.proofs.settle.Given as goal

abbrev pub invariant-loop-j : goal.invariant-loop-j
invariant-loop-j l = (length l.u ≡ 528) × (fed 0 (take l.j l.u) ≡ stands taps (latest l.z (528 + l.j) (528 + l.j)))
