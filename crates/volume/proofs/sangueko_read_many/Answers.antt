-- `volume::sangueko_read_many` meets its contract.
-- Assumes nothing.
use Rattle.std.proofs.lemmas.Result.{err_from_is_err_and}
use Rattle.format.specs.Refusals.{number_in, count_in}
use Rattle.intake.proofs.JoinLaws.{not_stopped}
use Rattle.volume.proofs.ReadLaws.{read-ready}
use Rattle.volume.proofs.ReadManyLaws.{many-stopped, many-gives}
use Rattle.volume.proofs.sangueko_read_many.Goals as goal

pub returns-in_err-refused : goal.returns-in_err-refused
unfolding number_in count_in
returns-in_err-refused c =
    let e = err_from_is_err_and c.from_residual.result c.from_residual.ensures.1 in
    rw (e.1, e.2) (many-stopped _ _ _ _ c.in_err-refused.ensures)

pub read_many-requires : goal.read_many-requires
read_many-requires c = read-ready _ (not_stopped _ _ c.in_ok-refused.ensures)

pub returns : goal.returns
returns c = many-gives _ _ _ (not_stopped _ _ c.in_ok-refused.ensures) _ _ _ c.read_many.ensures
