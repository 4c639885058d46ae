-- `crc32c_window::push_piece` meets its contract.
-- Assumes nothing.
use native.Mathlib.Omega.{arith}
use Rattle.crc32c_window.proofs.WindowLaws.{moved}
use Rattle.crc32c_window.proofs.push_piece.Goals as goal

pub returns : goal.returns
returns c = moved _ _ _ _ c.move_down.ensures c.take_in.ensures (omega (arith, c.take_in.auto.w))
