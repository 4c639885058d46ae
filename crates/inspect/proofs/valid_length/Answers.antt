-- `inspect::valid_length` meets its contract.
-- Assumes nothing.
use Rattle.rules.specs.Units.{valid_length}
use Rattle.std.proofs.Common.{rules}
use Rattle.inspect.proofs.valid_length.Goals as goal

pub returns : goal.returns
unfolding valid_length
returns c = search rules
