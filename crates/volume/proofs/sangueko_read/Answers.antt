-- `volume::sangueko_read` meets its contract.
-- Assumes nothing.
use Rattle.std.proofs.lemmas.Result.{err_from_is_err_and}
use Rattle.format.specs.Refusals.{number_in, count_in}
use Rattle.intake.proofs.JoinLaws.{not_stopped}
use Rattle.volume.proofs.ReadLaws.{read-ready, read-stopped, read-gives}
use Rattle.volume.proofs.sangueko_read.Goals as goal

pub returns-in_err-refused : goal.returns-in_err-refused
unfolding number_in count_in
returns-in_err-refused c =
    let e = err_from_is_err_and c.from_residual.result c.from_residual.ensures.1 in
    rw (e.1, e.2) (read-stopped _ _ _ _ _ c.in_err-refused.ensures)

pub read_file-requires : goal.read_file-requires
read_file-requires c = read-ready _ (not_stopped _ _ c.in_ok-refused.ensures)

pub returns-in_err-n : goal.returns-in_err-n
unfolding number_in count_in
returns-in_err-n c =
    let e = err_from_is_err_and c.from_residual-in_err-n.result c.from_residual-in_err-n.ensures.1 in
    rw (e.1, e.2) (read-gives _ _ _ _ (not_stopped _ _ c.in_ok-refused.ensures) _ _ _ c.in_err-n.ensures)

pub returns : goal.returns
unfolding number_in count_in
returns c = read-gives _ _ _ _ (not_stopped _ _ c.in_ok-refused.ensures) _ _ _ c.in_ok-n.ensures
