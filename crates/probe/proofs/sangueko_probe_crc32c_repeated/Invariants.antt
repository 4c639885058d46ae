-- `probe::sangueko_probe_crc32c_repeated` meets its contract. The loop keeps: `c` is the register after `i` times the bytes.
-- Assumes nothing.
use mathlib.Core.Path.{◌≡◌}
use Rattle.crc32c_tables.specs.Register.{fed, begun}
use Rattle.probe.specs.Probe.{repeated}
use Rattle.probe.proofs.sangueko_probe_crc32c_repeated.Given as goal

abbrev pub invariant-loop-i : goal.invariant-loop-i
invariant-loop-i l = l.c ≡ fed begun (repeated l.i l.bytes)
