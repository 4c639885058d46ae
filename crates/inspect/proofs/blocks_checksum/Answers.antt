-- `inspect::blocks_checksum` meets its contract.
-- Assumes nothing.
use native.Mathlib.Omega.{arith}
use Rattle.inspect.proofs.BlockLaws.{valid-fed}
use Rattle.inspect.proofs.blocks_checksum.Goals as goal

pub feed_blocks-fed-requires : goal.feed_blocks-fed-requires
feed_blocks-fed-requires c =
    let p = c.requires in
    record { tables = p.tables; w_len = omega arith; backed = p.backed; n_value = p.n_value }

pub returns : goal.returns
returns c =
    let p = c.requires in
    c.finish.ensures _ _ _ _ (valid-fed _ _ _ _ _ _ _ _ _ p.backed p.n_value.0 (c.feed_blocks-fed.ensures _ _ _ _ c.begin-begun.ensures))
