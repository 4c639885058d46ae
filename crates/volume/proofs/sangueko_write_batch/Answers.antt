-- `volume::sangueko_write_batch` meets its contract.
-- Assumes nothing.
use Rattle.volume.proofs.StoreLaws.{by_buffers}
use borrow.Author.Rules.{rules}
use Rattle.format.specs.Refusals.{number_in, count_in}
use Rattle.intake.proofs.JoinLaws.{not_stopped}
use Rattle.volume.proofs.WriteLaws.{store-ready}
use Rattle.volume.proofs.BatchLaws.{batch-stopped, batch-gives}
use Rattle.volume.proofs.sangueko_write_batch.Goals as goal

pub write_batch-written-requires : goal.write_batch-written-requires
write_batch-written-requires c = store-ready _ _ c.in-Ok.ensures (record { image = search rules; head = search rules; cards = search rules; extents = search rules; groups = search rules; used = search rules; retired = search rules })

pub returns-in-Ok : goal.returns-in-Ok
returns-in-Ok c = by_buffers c.write_batch-written.new.store (batch-gives _ _ _ _ (not_stopped _ _ c.in-Ok.ensures) _ c.write_batch-written.ensures.done) (search rules) (search rules) (search rules) (search rules) (search rules) (search rules) (search rules)

pub returns-in-Err : goal.returns-in-Err
unfolding number_in count_in
returns-in-Err c = rw (c.from.ensures.0, c.from.ensures.1) (batch-stopped _ _ _ _ _ c.in-Err.ensures)
