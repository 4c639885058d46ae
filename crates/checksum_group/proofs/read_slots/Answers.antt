use Prim.Native.Nat.{◌+◌, ◌*◌}
use native.Mathlib.Omega.{arith}
use lib.ListN.{length-set}
use Rattle.rules.specs.Bytes.{le, part}
use Rattle.checksum_group.proofs.SlotLaws.{values-read, values-more}
use Rattle.checksum_group.proofs.read_slots.Goals as goal

pub loop-i-preserved : goal.loop-i-preserved
loop-i-preserved c = (omega arith, simp length-set (omega arith), values-more c.loop-i.slots (λ k. le (part (c.args.at + 4 * k) 4 c.args.s.now)) c.loop-i.i c.le32.result (omega arith) c.loop-i.invariant.2 c.le32.ensures)

pub returns : goal.returns
returns c = values-read _ _ _ c.loop-i.invariant.1 (λ k l. c.loop-i.invariant.2 k (omega arith))
