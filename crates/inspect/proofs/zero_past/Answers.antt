-- `inspect::zero_past` meets its contract.
-- Assumes nothing.
use mathlib.Core.Path.{ap, ◌∙◌}
use native.Mathlib.Omega.{arith}
use Rattle.rules.specs.Bytes.{all_zero}
use Rattle.inspect.proofs.BlockLaws.{last-inside, last-past}
use Rattle.inspect.proofs.zero_past.Goals as goal

pub block_start-start-requires : goal.block_start-start-requires
block_start-start-requires c = c.requires.backed.given _ (omega arith)

pub overflow_add-start : goal.overflow_add-start
overflow_add-start c =
    let p = c.requires in
    record { fits = omega (arith, last-inside _ _ _ p.backed _ p.n_nonzero c.block_start-start.ensures) }

pub overflow_add-start-2 : goal.overflow_add-start-2
overflow_add-start-2 c =
    let p = c.requires in
    record { fits = omega (arith, last-inside _ _ _ p.backed _ p.n_nonzero c.block_start-start.ensures) }

pub is_zero-requires : goal.is_zero-requires
is_zero-requires c =
    let p = c.requires in
    (omega arith, last-inside _ _ _ p.backed _ p.n_nonzero c.block_start-start.ensures)

pub returns : goal.returns
returns c =
    let p = c.requires in
    c.is_zero.ensures ∙ ap all_zero (last-past _ _ _ p.backed _ _ p.n_value.0 p.n_nonzero c.block_start-start.ensures)
