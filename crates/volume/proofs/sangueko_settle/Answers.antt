-- `volume::sangueko_settle` meets its contract.
-- Assumes nothing.
use borrow.Author.Rules.{rules}
use Rattle.std.proofs.lemmas.Result.{err_from_is_err_and}
use Rattle.format.specs.Refusals.{number_in, count_in}
use Rattle.intake.proofs.JoinLaws.{not_stopped}
use Rattle.volume.proofs.CallLaws.{settle-stopped, used-sized, retired-sized, settle-done}
use Rattle.volume.proofs.sangueko_settle.Goals as goal

pub returns-in_err-refused : goal.returns-in_err-refused
unfolding number_in count_in
returns-in_err-refused c =
    let e = err_from_is_err_and c.from_residual.result c.from_residual.ensures.1 in
    rw (e.1, e.2) (settle-stopped _ _ c.in_err-refused.ensures)

pub settle_maps-count-requires : goal.settle_maps-count-requires
settle_maps-count-requires c = let p = not_stopped _ _ c.in_ok-refused.ensures in (used-sized _ p, retired-sized _ p)

pub returns : goal.returns
unfolding number_in count_in
returns c = settle-done _ (not_stopped _ _ c.in_ok-refused.ensures) (record { image = search rules; head = search rules; cards = search rules; extents = search rules; groups = search rules; used = search rules; retired = search rules }) _ _ _ c.settle_maps-count.ensures.0 c.settle_maps-count.ensures.1 c.settle_maps-count.ensures.2
