-- `probe::unit::sangueko_probe_unit_checksum` meets its contract.
-- Assumes nothing.
use mathlib.Core.Path.{refl}
use native.Mathlib.Omega.{arith}
use Rattle.probe.proofs.unit.sangueko_probe_unit_checksum.Goals as goal

pub returns-then-bytes-gt4294967295 : goal.returns-then-bytes-gt4294967295
returns-then-bytes-gt4294967295 c = λ h g. absurd (omega (arith, h))

pub in_pieces-requires : goal.in_pieces-requires
in_pieces-requires c = record { tables = c.tables-t.ensures; w_len = refl; s_len_bound = omega arith; n_nonzero = omega arith }

pub returns : goal.returns
returns c = λ h g. c.in_pieces.ensures
