-- `crc32c_tables::tables` meets its contract.
-- Assumes nothing.
use mathlib.Core.Path.{refl}
use Rattle.crc32c_tables.specs.Register.{turn, turns, entry}
use Rattle.crc32c_tables.proofs.TableRule.{is-tables, entries, follows}
use Rattle.crc32c_tables.proofs.tables.Goals as goal

pub returns : goal.returns
unfolding entries follows entry turns turn
returns c = is-tables _ refl tt tt
