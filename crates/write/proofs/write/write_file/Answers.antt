-- `write::write::write_file` meets its contract.
-- Assumes nothing.
use Rattle.rules.specs.Refusal.{number_of}
use Rattle.format.specs.Refusals.{refusal_of}
use Rattle.write.proofs.FindLaws.{find-ready}
use Rattle.write.proofs.WriteLaws.{file-missing, file-ready}
use Rattle.write.proofs.write.write_file.Goals as goal

pub find_in-requires : goal.find_in-requires
find_in-requires c = find-ready _ c.requires

pub returns-in_default-clause-written : goal.returns-in_default-clause-written
unfolding refusal_of number_of
returns-in_default-clause-written c = rw c.number.ensures (file-missing _ c.requires _ c.in_default.ensures _ _ _ _ _)

pub write_sized-requires : goal.write_sized-requires
write_sized-requires c = file-ready _ c.requires _ _ c.in-Some.ensures

pub returns-clause-written : goal.returns-clause-written
returns-clause-written c = c.write_sized.ensures.written
