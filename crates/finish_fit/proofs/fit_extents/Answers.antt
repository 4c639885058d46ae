-- `finish_fit::fit_extents` meets its contract.
-- Assumes nothing.
use Rattle.rules.specs.Refusal.{number_of}
use Rattle.format.specs.Refusals.{refusal_of}
use Rattle.finish_fit.proofs.FitLaws.{extents-full, extents-fit}
use Rattle.finish_fit.proofs.fit_extents.Goals as goal

pub returns-then-extents-e : goal.returns-then-extents-e
unfolding number_of refusal_of
returns-then-extents-e c =
    let e = c.finished_extents-x.ensures in
    extents-full _ _ _ _ _ _ _ _ _ e.cut_bound.0 e.cut_bound.1 e.finished c.if-extents-e.true

pub returns : goal.returns
returns c =
    let e = c.finished_extents-x.ensures in
    extents-fit _ _ _ _ _ _ _ _ _ e.cut_bound.0 e.cut_bound.1 e.finished c.if-extents-e.false
