-- `volume::sangueko_grow` meets its contract.
-- Assumes nothing.
use Rattle.volume.proofs.StoreLaws.{by_buffers}
use borrow.Author.Rules.{rules}
use Rattle.format.specs.Refusals.{number_in, count_in}
use Rattle.volume.proofs.WriteLaws.{store-ready, grow-stopped, grow-gives}
use Rattle.volume.proofs.sangueko_grow.Goals as goal

pub grow_file-number-requires : goal.grow_file-number-requires
grow_file-number-requires c = store-ready _ _ c.in-Ok.ensures (record { image = search rules; head = search rules; cards = search rules; extents = search rules; groups = search rules; used = search rules; retired = search rules })

pub returns-in-Ok : goal.returns-in-Ok
returns-in-Ok c = by_buffers c.grow_file-number.new.store (grow-gives _ _ _ _ _ _ c.grow_file-number.ensures.grown) (search rules) (search rules) (search rules) (search rules) (search rules) (search rules) (search rules)

pub returns-in-Err : goal.returns-in-Err
unfolding number_in count_in
returns-in-Err c = rw (c.from.ensures.0, c.from.ensures.1) (grow-stopped _ _ _ _ _ c.in-Err.ensures)
