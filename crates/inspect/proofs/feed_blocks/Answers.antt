use native.Mathlib.Omega.{arith}
use Rattle.inspect.proofs.BlockLaws.{none_before, all-before}
use Rattle.inspect.proofs.feed_blocks.Goals as goal

pub loop-i-init : goal.loop-i-init
loop-i-init c = (omega arith, omega arith, λ uuid object unit m h. rw (none_before _ _ _ _) h)

pub feed_run-fed-requires : goal.feed_run-fed-requires
feed_run-fed-requires c =
    let p = c.requires in
    record { tables = p.tables; w_len = omega arith; backed = p.backed; n_value = p.n_value; i_lt_e = c.run_end-e.ensures }

pub loop-i-preserved : goal.loop-i-preserved
loop-i-preserved c = (c.run_end-e.ensures.1, omega (arith, c.feed_run-fed.auto.w), λ uuid object unit m h. c.feed_run-fed.ensures _ _ _ _ (c.loop-i.invariant.2 _ _ _ _ h))

pub returns : goal.returns
returns c = λ uuid object unit m h. rw (all-before _ _ _ _ c.loop-i.i c.requires.n_value.0 (omega arith)) at (c.loop-i.invariant.2 _ _ _ _ h)
