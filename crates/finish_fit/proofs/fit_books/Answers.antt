-- `finish_fit::fit_books` meets its contract.
-- Assumes nothing.
use mathlib.Core.Path.{refl}
use native.Mathlib.Omega.{arith}
use Rattle.std.proofs.lemmas.Result.{err_from_is_err_and}
use Rattle.rules.specs.Refusal.{number_of}
use Rattle.format.specs.Refusals.{refusal_of}
use Rattle.format.proofs.RefusalLaws.{refusal-positive}
use Rattle.finish_fit.proofs.FitLaws.{groups-full, books-fit}
use Rattle.finish_fit.proofs.fit_books.Goals as goal

pub returns-then-groups-g : goal.returns-then-groups-g
unfolding number_of refusal_of
returns-then-groups-g c = groups-full _ _ _ _ _ _ _ _ c.missing_groups-missing.ensures _ _ _ _ _ (omega arith) c.if-groups-g.true

pub returns-in_err-exchange : goal.returns-in_err-exchange
returns-in_err-exchange c =
    let e = err_from_is_err_and c.from_residual.result c.from_residual.ensures.1 in
    rw (e.1, e.2) (books-fit _ _ _ _ _ _ _ _ c.missing_groups-missing.ensures _ _ _ _ _ _ (omega arith) c.if-groups-g.false (λ z. absurd (omega (arith, refusal-positive, z))) c.in_err-exchange.ensures)

pub returns : goal.returns
returns c = books-fit _ _ _ _ _ _ _ _ c.missing_groups-missing.ensures _ _ _ _ _ _ (omega arith) c.if-groups-g.false (λ z. refl) c.in_ok-exchange.ensures
