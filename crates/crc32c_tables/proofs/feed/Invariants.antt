-- `crc32c_tables::feed` meets its contract. The loop keeps: `c` is the register after the sixteens so far.
-- Assumes nothing.
use mathlib.Core.Path.{◌≡◌}
use lib.ListN.{take}
use Rattle.std.specs.List.{concat}
use Rattle.crc32c_tables.specs.Register.{fed}
use Rattle.crc32c_tables.proofs.feed.Given as goal

abbrev pub invariant-loop-pair : goal.invariant-loop-pair
invariant-loop-pair l = l.c ≡ fed l.state (concat (take l.pair-index l.pairs))
