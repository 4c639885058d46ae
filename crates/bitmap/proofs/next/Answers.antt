-- `bitmap::next` meets its contract: it looks through three parts, the next one where the bit is not found.
-- Assumes nothing.
use Rattle.bitmap.proofs.MapLaws.{next_else}
use Rattle.std.proofs.Common.{arith, rules, ◌-◌, ◌%◌}
use Rattle.bitmap.proofs.next.Goals as goal

pub returns : goal.returns
returns c =
    next_else _ _ _ (c.args.e - (c.args.e - c.next_multiple_of-s.result) % 64) _ _ _ _
    (next_else _ _ _ _ _ _ _ _ c.next_bits-2.ensures (omega arith) c.or_else.ensures (λ q. search rules))
    (omega arith) c.or_else-2.ensures (λ q. search rules)
