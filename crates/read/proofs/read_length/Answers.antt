-- `read::read_length` meets its contract.
-- Assumes nothing.
use native.Mathlib.Omega.{arith}
use Rattle.rules.specs.Read.{read_length}
use Rattle.read.proofs.read_length.Goals as goal

pub returns : goal.returns
unfolding read_length
returns c = omega (arith, c.saturating_sub-left.ensures, c.min.ensures, c.min-2.ensures)
