-- `crc32c_window::push` meets its contract. The loop keeps: what is left gives the register of the whole.
-- Assumes nothing.
use mathlib.Core.Path.{◌≡◌}
use Rattle.std.specs.Slice.Iter.{chunks_rest, chunks_size}
use Rattle.crc32c_tables.specs.Register.{fed}
use Rattle.crc32c_window.specs.Window.{register_at}
use Rattle.crc32c_window.proofs.push.Given as goal

abbrev pub invariant-loop-piece : goal.invariant-loop-piece
invariant-loop-piece l =
    (chunks_size l.piece-iterator ≡ 4096) × (fed (register_at l.w 528) (chunks_rest l.piece-iterator) ≡ fed (register_at l.initial.w 528) l.fn.s)
