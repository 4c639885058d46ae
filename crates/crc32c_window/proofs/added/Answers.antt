-- `crc32c_window::added` meets its contract.
-- Assumes nothing.
use Rattle.crc32c_window.proofs.WindowLaws.{added-is}
use Rattle.crc32c_window.proofs.added.Goals as goal

pub returns-clause-sum : goal.returns-clause-sum
returns-clause-sum c = added-is _ _
