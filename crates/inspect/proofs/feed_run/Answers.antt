-- `inspect::feed_run` meets its contract.
-- Assumes nothing.
use native.Mathlib.Omega.{arith}
use Rattle.inspect.proofs.BlockLaws.{run_inside, run-fed}
use Rattle.inspect.proofs.feed_run.Goals as goal

pub block_start-start-requires : goal.block_start-start-requires
block_start-start-requires c = c.requires.backed.given _ (omega arith)

pub overflow_add-end : goal.overflow_add-end
overflow_add-end c =
    let p = c.requires in
    record { fits = omega (arith, run_inside _ _ _ p.backed _ _ _ _ _ p.n_value.0 p.i_lt_e.0 p.i_lt_e.1 p.i_lt_e.2 c.block_start-start.ensures c.run_bytes.ensures) }

pub slice_bounds-feed-end : goal.slice_bounds-feed-end
slice_bounds-feed-end c =
    let p = c.requires in
    omega (arith, run_inside _ _ _ p.backed _ _ _ _ _ p.n_value.0 p.i_lt_e.0 p.i_lt_e.1 p.i_lt_e.2 c.block_start-start.ensures c.run_bytes.ensures)

pub returns : goal.returns
returns c =
    λ uuid object unit m h.
    let p = c.requires in
    run-fed _ _ _ _ _ _ _ _ _ _ _ _ _ _ p.backed p.n_value.0 p.i_lt_e.0 p.i_lt_e.1 p.i_lt_e.2
    c.block_start-start.ensures (omega (arith, c.run_bytes.ensures))
    (c.feed.ensures _ _ _ _ _ h)
