-- `volume::sangueko_fill` meets its contract.
-- Assumes nothing.
use native.Mathlib.Omega.{arith}
use Rattle.std.proofs.lemmas.Result.{err_from_is_err_and}
use Rattle.format.specs.Refusals.{number_in, count_in}
use Rattle.intake.proofs.JoinLaws.{not_stopped}
use Rattle.volume.proofs.CallLaws.{fill-stopped, head-width, used-sized, few-blocks, reserved-inside, fill_done}
use Rattle.volume.proofs.sangueko_fill.Goals as goal

pub returns-in_err-refused : goal.returns-in_err-refused
unfolding number_in count_in
returns-in_err-refused c =
    let e = err_from_is_err_and c.from_residual.result c.from_residual.ensures.1 in
    rw (e.1, e.2) (fill-stopped _ _ c.in_err-refused.ensures)

pub reserved_blocks-reserved-requires : goal.reserved_blocks-reserved-requires
reserved_blocks-reserved-requires c = head-width _ (not_stopped _ _ c.in_ok-refused.ensures)

pub used_per_mille-count-requires : goal.used_per_mille-count-requires
used_per_mille-count-requires c =
    let p = not_stopped _ _ c.in_ok-refused.ensures in
    (used-sized _ p, omega (arith, reserved-inside _ p, c.reserved_blocks-reserved.ensures), few-blocks _ p)

pub returns : goal.returns
unfolding number_in count_in
returns c = fill_done _ (not_stopped _ _ c.in_ok-refused.ensures) _ c.reserved_blocks-reserved.ensures _ c.used_per_mille-count.ensures
