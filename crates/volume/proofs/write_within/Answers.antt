-- `volume::write_within` meets its contract.
-- Assumes nothing.
use Rattle.volume.proofs.StoreLaws.{by_buffers}
use borrow.Author.Rules.{rules}
use Rattle.format.specs.Refusals.{number_in, count_in}
use Rattle.volume.proofs.WriteLaws.{store-ready, write-stopped}
use Rattle.volume.proofs.write_within.Goals as goal

pub write_file-done-requires : goal.write_file-done-requires
write_file-done-requires c = store-ready _ _ c.in-Ok.ensures (record { image = search rules; head = search rules; cards = search rules; extents = search rules; groups = search rules; used = search rules; retired = search rules })

pub returns-in-Ok : goal.returns-in-Ok
returns-in-Ok c = by_buffers c.write_file-done.new.store c.write_file-done.ensures.written (search rules) (search rules) (search rules) (search rules) (search rules) (search rules) (search rules)

pub returns-in-Err : goal.returns-in-Err
unfolding number_in count_in
returns-in-Err c = rw (c.from.ensures.0, c.from.ensures.1) (write-stopped _ _ _ _ _ _ _ c.in-Err.ensures)
