-- `read_checks::check_list` meets its contract.
-- Assumes nothing.
use mathlib.Core.Path.{refl}
use Rattle.read.proofs.GivesLaws.{head-cards}
use Rattle.read_checks.proofs.check_list.Goals as goal

pub check_reads-requires : goal.check_reads-requires
check_reads-requires c = let p = c.requires in record { tables = c.tables-t.ensures; w_len = refl; read_ready = p.read_ready; n_value = head-cards _ _ c.decode_head-h.ensures.0; triple_bytes_len_bound = p.triple_bytes_len_bound }
