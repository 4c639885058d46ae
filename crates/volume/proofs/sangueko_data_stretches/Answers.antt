-- `volume::sangueko_data_stretches` meets its contract.
-- Assumes nothing.
use Rattle.std.proofs.lemmas.Result.{err_from_is_err_and}
use Rattle.format.specs.Refusals.{number_in, count_in}
use Rattle.intake.proofs.JoinLaws.{not_stopped}
use Rattle.volume.proofs.StretchesLaws.{list-ready, stretches-stopped, stretches-give}
use Rattle.volume.proofs.sangueko_data_stretches.Goals as goal

pub returns-in_err-refused : goal.returns-in_err-refused
unfolding number_in count_in
returns-in_err-refused c =
    let e = err_from_is_err_and c.from_residual.result c.from_residual.ensures.1 in
    rw (e.1, e.2) (stretches-stopped _ _ _ _ _ _ c.in_err-refused.ensures)

pub data_stretches-requires : goal.data_stretches-requires
data_stretches-requires c = list-ready _ (not_stopped _ _ c.in_ok-refused.ensures)

pub returns : goal.returns
returns c = stretches-give _ _ _ _ _ (not_stopped _ _ c.in_ok-refused.ensures) _ _ _ c.data_stretches.ensures
